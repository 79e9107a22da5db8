pub mod Opened
pub mod Strips
pub mod Walk
pub mod Kept

pub mod Names
pub mod Shapes
pub mod Walk
pub mod Stream
pub mod Corners
pub mod Gathering
pub mod Call
pub mod Kept

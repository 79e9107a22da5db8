pub mod Lines
pub mod Grammar
pub mod Kept

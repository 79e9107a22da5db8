pub mod Bounds
pub mod Planning
pub mod Pieces
pub mod Filling
pub mod Parts
pub mod Shown
pub mod Longest
pub mod Kept

pub mod Numbered
pub mod Columns
pub mod Steady
pub mod Shown
pub mod NextRect
pub mod Moves
pub mod Width
pub mod Crossing

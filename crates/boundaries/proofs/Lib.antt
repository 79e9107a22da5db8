pub mod Rays
pub mod Directions
pub mod Areas
pub mod Handed
pub mod Capped
pub mod Forward
pub mod Examples

pub mod Boundary
pub mod Inner

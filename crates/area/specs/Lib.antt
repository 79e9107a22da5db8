pub mod Area
pub mod Inner

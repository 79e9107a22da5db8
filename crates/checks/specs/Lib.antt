pub mod Orders
pub mod Inner

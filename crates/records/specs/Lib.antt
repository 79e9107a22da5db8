pub mod Format
pub mod Records
pub mod Inner

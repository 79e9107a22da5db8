pub mod Scans
pub mod Neighbours
pub mod Judged
pub mod Clear
pub mod Repeated
pub mod Kept

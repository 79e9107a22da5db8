pub mod Search
pub mod Verdicts
pub mod Entry
pub mod Examples
pub mod Reasons

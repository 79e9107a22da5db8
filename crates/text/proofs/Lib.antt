pub mod Lines
pub mod Checks
pub mod Lengths
pub mod Longest
pub mod Reports
pub mod Listing
pub mod Kept
pub mod Worked

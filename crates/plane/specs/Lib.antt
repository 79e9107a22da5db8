pub mod Lists
pub mod Words
pub mod Keys
pub mod Sorted
pub mod Swaps
pub mod Edge
pub mod Remaining

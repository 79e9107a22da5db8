pub mod Looking
pub mod Keys
pub mod Climbs
pub mod Cancelling
pub mod Gathering
pub mod Batches
pub mod Kept

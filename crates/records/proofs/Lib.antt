pub mod Tables
pub mod Rows
pub mod Forms
pub mod Heads
pub mod Treatments

pub mod Rule
pub mod Back
pub mod Rows
pub mod Working
pub mod ForwardCall
pub mod BackwardCall
pub mod StepCall
pub mod Cases

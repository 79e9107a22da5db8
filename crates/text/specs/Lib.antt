pub mod Program
pub mod Sentences
pub mod Inner

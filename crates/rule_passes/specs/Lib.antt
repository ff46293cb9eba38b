pub mod Runs
pub mod Choices
pub mod Shapes

pub mod Regions
pub mod Steps
pub mod Conditions

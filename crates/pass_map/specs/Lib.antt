pub mod Regions
pub mod Conditions

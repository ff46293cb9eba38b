pub mod Refusals
pub mod Fronted

pub mod Sort
pub mod Every
pub mod Regions
pub mod Steps
pub mod Clauses

pub mod Told
pub mod Exports
pub mod Measured
pub mod Divided
pub mod Paged
pub mod Jobs
pub mod Refusals

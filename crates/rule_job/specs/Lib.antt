pub mod Files
pub mod Jobs

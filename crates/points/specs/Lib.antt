pub mod Points
pub mod Steps

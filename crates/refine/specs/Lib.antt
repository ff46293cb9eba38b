pub mod Finer
pub mod Requests
pub mod Loops

pub mod Flat
pub mod Edges
pub mod Tests
pub mod Sheet
pub mod Results

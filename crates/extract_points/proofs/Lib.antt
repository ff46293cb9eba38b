pub mod Counts
pub mod Means
pub mod Putting
pub mod Numbers
pub mod DrawnNumbers
pub mod Cells

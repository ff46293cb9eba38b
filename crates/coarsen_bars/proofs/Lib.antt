-- `Marks` has marks put one by one and corners renamed, `Touches` what a barred point touches, `Bars` the loops that bar, `States` the state that a merge leaves.
pub mod Marks
pub mod Touches
pub mod Bars
pub mod States

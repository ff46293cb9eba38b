pub mod Swaps
pub mod SwapFits
pub mod Rule

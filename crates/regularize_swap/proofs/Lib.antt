-- The functions of `regularize_swap` meet their contracts, and the laws behind them. Assumes nothing.
pub mod Places
pub mod Fold
pub mod Bars
pub mod Moves
pub mod Made
pub mod Begun
pub mod Diagonals

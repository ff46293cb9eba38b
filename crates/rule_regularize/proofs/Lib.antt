-- `Gains` has the gain by sums of valences, `Passes` the swaps as relations, `Surgery` and `Swap` one swap,
-- `SwapPass` a pass of swaps, `Sweep` the rule's own passes, `Tests` what the tests of a sheet say.
pub mod Gains
pub mod Passes
pub mod Surgery
pub mod Swap
pub mod SwapPass
pub mod Sweep
pub mod Tests

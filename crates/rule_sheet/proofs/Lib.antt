-- `All` has the laws of a test of all elements, `FirstUse` of numbers in the order of their first use, `Base` has indicators, arcs and cycles,
-- `Rings` the surgery on one ring, `Weigh` weights at a point and sums over points, `Labels` sums over one label, `Sums` sums over lists,
-- `Bound` the bound of valences, `Exits` what a `?` returns.
pub mod All
pub mod FirstUse
pub mod Base
pub mod Rings
pub mod Weigh
pub mod Labels
pub mod Sums
pub mod Bound
pub mod Exits

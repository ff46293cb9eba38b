-- `ByPoints` has the rule at IEEE 754 in the operations on points, `Coordinates` leads from points to coordinates,
-- `Fractions` has the laws of exact fractions, and `Exact` shows that there the rule is that of Catmull and Clark.
pub mod ByPoints
pub mod Coordinates
pub mod Fractions
pub mod Exact

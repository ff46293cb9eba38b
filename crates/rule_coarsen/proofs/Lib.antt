-- `Gains` has the gain by the sums before and after, `Joins` the merges as a relation, `OneMerge` one merge, `MergePass` a pass of merges,
-- `Renumber` the numbers by first use, `Visits` the rule's own pass, `Points` the points of a pass, `Slots` the quads of a pass in slices.
pub mod Gains
pub mod Joins
pub mod MergePass
pub mod Renumber
pub mod Visits
pub mod Points
pub mod Slots
pub mod OneMerge

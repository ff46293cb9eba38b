-- `Walk` has the laws of the walk round a point, `MergeFits` those of the rule of merges.
pub mod Walk
pub mod MergeFits

-- `Gains` has the squares of a gain, `Corners` the tests over the corners of a list, `Around` that these are the rule's, `Masks` the test of two masks, `Start` the regions of a pass's start and the marks.
pub mod Gains
pub mod Corners
pub mod Around
pub mod Masks
pub mod Start

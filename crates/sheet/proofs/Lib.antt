-- `Flat` leads from quads to flat lists, `Edges` from edges to corners, `Masks` has the laws of masks, `Corners` those of the
-- test of a quad, `Tests` of the tests of a sheet.
-- `Results` has the laws of `specs/Results.antt`, `Fronts` those of a slice that begins with a list.
pub mod Flat
pub mod Edges
pub mod Masks
pub mod Corners
pub mod Tests
pub mod Results
pub mod Fronts

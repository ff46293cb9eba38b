-- The laws of this crate: `Seams` of the corners at which strips run, `Flat` of copies, quads and strips over flat lists,
-- `Rule` of the three slices and the rule, `Last` of the last test.
pub mod Seams
pub mod Flat
pub mod Rule
pub mod Last

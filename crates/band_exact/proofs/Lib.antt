-- `Tests` has what the two tests of a band say of its lower level, `Numbers` that no operation refuses with 2.
pub mod Tests
pub mod Numbers

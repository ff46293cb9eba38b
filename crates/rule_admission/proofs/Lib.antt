-- `Numbers` has the numbers with which the tests of a call refuse, and with which they do not.
pub mod Numbers

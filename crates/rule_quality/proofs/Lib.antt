-- `Numbers` has the number with which measuring refuses.
pub mod Numbers

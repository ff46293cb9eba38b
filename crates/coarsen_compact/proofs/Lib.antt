-- `Packing`: the elements that stay, moved to the front. `Numbers`: points numbered by first use, corner by corner. `Sheet`: what the slices then have is the rule's sheet.
pub mod Packing
pub mod Numbers
pub mod Sheet

-- `Choices` has the choice between the diagonals of a quad, `Rule` that it is the rule's, `Steps` what a visit leaves.
pub mod Choices
pub mod Rule
pub mod Steps

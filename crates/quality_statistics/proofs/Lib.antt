-- `Folds` has folds and counts of a whole list, `Places` that the place 0.05 × (n − 1) lies in a list of n.
pub mod Folds
pub mod Places

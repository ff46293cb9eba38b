-- An arithmetic: a type of numbers, with the operations that smoothing uses, each worked as that arithmetic works it.
use Rattle.std.specs.Prelude.{ℕ}

pub record Arithmetic : Type 1 where
  pub Number : Type 0
  pub plus : Number → Number → Number
  pub minus : Number → Number → Number
  pub times : Number → Number → Number
  -- the whole number n
  pub whole : ℕ → Number
  -- 1 divided by n, as a number of its own
  pub reciprocal : ℕ → Number

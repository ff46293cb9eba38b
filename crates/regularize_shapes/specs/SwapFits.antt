-- What the functions on swaps are handed.
use Rattle.std.specs.Prelude.{ℕ, ◌<◌, eqb, cond}
use Rattle.rule_regularize.specs.Swaps.{Hex, hex}
use Rattle.regularize_shapes.specs.declared.Diagonal.{Diagonal}
use Rattle.regularize_shapes.specs.declared.Diagonal.TheVariants.{First, Second}
use Rattle.regularize_shapes.specs.declared.Six.{Six}

-- ---- what the functions are handed

-- the six corners of a struct
abbrev pub hex_of : Six → Hex
hex_of h = hex h.h0 h.h1 h.h2 h.h3 h.h4 h.h5

-- the number by which the rule calls a new diagonal
abbrev pub number_of : Diagonal → ℕ
number_of First = 1
number_of Second = 2

-- the diagonal that a number names: 1 the first, every other the second
abbrev pub diagonal_of : ℕ → Diagonal
diagonal_of k = cond (eqb k 1) First Second

-- the six corners from the beginning of a diagonal on
abbrev pub turned : Six → Diagonal → Six
turned h First = record { h0 = h.h1; h1 = h.h2; h2 = h.h3; h3 = h.h4; h4 = h.h5; h5 = h.h0 }
turned h Second = record { h0 = h.h2; h1 = h.h3; h2 = h.h4; h3 = h.h5; h4 = h.h0; h5 = h.h1 }

-- the six corners are numbers of the np points
pub record SixBelow (np : ℕ) (h : Six) : Type 0 where
  pub h0< : h.h0 < np
  pub h1< : h.h1 < np
  pub h2< : h.h2 < np
  pub h3< : h.h3 < np
  pub h4< : h.h4 < np
  pub h5< : h.h5 < np

-- `export_leaves::leaf_value` meets its contract: NaN for a short slice, else what `field::value` answers. Assumes nothing.
use mathlib.Core.Path.{◌≡◌, refl, ◌∙◌}
use lib.Ieee.{of_bits, div, binary64}
use borrow.Author.Tests.{lt-ltb, le-ltb}
use Rattle.export_leaves.specs.Answers.{value_at}
use Rattle.export_leaves.proofs.leaf_value.Goals as goal

-- the value of `f64::NAN`
nan-divided : of_bits binary64 9221120237041090560 ≡ div binary64 (of_bits binary64 0) (of_bits binary64 0)
unfolding of_bits div
nan-divided = refl

pub returns-then-numbers-lt-NUMBERS : goal.returns-then-numbers-lt-NUMBERS
unfolding value_at
returns-then-numbers-lt-NUMBERS c = nan-divided ∙ simp (lt-ltb _ _ c.if-numbers-lt-NUMBERS.true)

pub returns : goal.returns
unfolding value_at
returns c = simp (le-ltb _ _ c.if-numbers-lt-NUMBERS.false) cc

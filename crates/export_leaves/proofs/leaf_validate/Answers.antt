-- `export_leaves::leaf_validate` meets its contract. Assumes nothing.
use Rattle.export_leaves.specs.Answers.{band_number}
use Rattle.export_leaves.proofs.leaf_validate.Goals as goal

pub returns-then-is_short_told : goal.returns-then-is_short_told
unfolding band_number
returns-then-is_short_told c = rw (← c.is_short_told.ensures, c.if-is_short_told.true) c.number.ensures

pub returns-then-validate : goal.returns-then-validate
unfolding band_number
returns-then-validate c =
    rw (← c.is_short_told.ensures, c.if-is_short_told.false, ← c.band_of.ensures, ← c.validate.ensures, c.if-validate.true)

pub returns : goal.returns
unfolding band_number
returns c =
    rw (← c.is_short_told.ensures, c.if-is_short_told.false, ← c.band_of.ensures, ← c.validate.ensures, c.if-validate.false) c.number-2.ensures

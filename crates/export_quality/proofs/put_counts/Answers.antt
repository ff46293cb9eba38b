-- `export_quality::put_counts` meets its contract. Assumes nothing.
use mathlib.Core.Bool.{Bool, true, false}
use mir.Val.{bool_byte}
use mathlib.Core.Path.{◌≡◌, refl, ◌∙◌}
use Rattle.rule_sheet.specs.Quads.{num}
use Rattle.rule_exports.specs.Measured.{fronted}
use Rattle.export_quality.proofs.put_counts.Goals as goal

-- a test as a number
number-num : (b : Bool) → bool_byte b ≡ num b
number-num true = refl
number-num false = refl

pub returns : goal.returns
unfolding fronted
returns c =
    rw (c.copy_from_slice.ensures.after, c.from.ensures ∙ number-num c.args.tight, c.from-2.ensures ∙ number-num c.args.valid)

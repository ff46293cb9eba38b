-- `export_leaves::leaf_gradient` meets its contract. Assumes nothing.
use mathlib.Core.Path.{refl}
use Rattle.rule_exports.specs.Told.{told_of}
use Rattle.export_leaves.specs.Answers.{point_of, gradient_at}
use Rattle.export_leaves.proofs.Answers.{point-short, point-shown}
use Rattle.export_leaves.proofs.leaf_gradient.Goals as goal

pub returns-then-is_short_told : goal.returns-then-is_short_told
returns-then-is_short_told c =
    rw c.number.ensures (point-short (told_of c.args.kind c.args.numbers.now c.args.bounds.now c.args.lower c.args.upper) (gradient_at (point_of c.args.x c.args.y c.args.z)) c.args.out.now _ c.is_short_told.ensures c.if-is_short_told.true)

pub returns : goal.returns
returns c =
    point-shown (told_of c.args.kind c.args.numbers.now c.args.bounds.now c.args.lower c.args.upper) (gradient_at (point_of c.args.x c.args.y c.args.z)) c.args.out.now _ c.is_short_told.ensures _ _ _ _ c.if-is_short_told.false c.band_of-b.ensures
    (rw (← c.length.ensures, ← c.gradient.ensures) refl) c.put.ensures

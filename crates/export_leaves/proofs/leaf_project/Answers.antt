-- `export_leaves::leaf_project` meets its contract. Assumes nothing.
use mathlib.Core.Path.{refl}
use Rattle.rule_exports.specs.Told.{told_of}
use Rattle.export_leaves.specs.Answers.{point_of, projection_at}
use Rattle.export_leaves.proofs.Answers.{point-refused, point-short, point-shown}
use Rattle.rule_sheet.specs.declared.Refusal.TheVariants.{Astray}
use Rattle.export_leaves.proofs.leaf_project.Goals as goal

pub returns-then-is_short_told : goal.returns-then-is_short_told
returns-then-is_short_told c =
    rw c.number.ensures (point-short (told_of c.args.kind c.args.numbers.now c.args.bounds.now c.args.lower c.args.upper) (projection_at (point_of c.args.x c.args.y c.args.z) c.args.mask) c.args.out.now _ c.is_short_told.ensures c.if-is_short_told.true)

pub returns-in_default : goal.returns-in_default
returns-in_default c =
    rw c.number-in_default.ensures
    (point-shown (told_of c.args.kind c.args.numbers.now c.args.bounds.now c.args.lower c.args.upper) (projection_at (point_of c.args.x c.args.y c.args.z) c.args.mask) c.args.out.now _ c.is_short_told.ensures _ _ _ _ c.if-is_short_told.false c.band_of-b.ensures
    (rw (← c.length-len.ensures, ← c.project-r.ensures, c.in_default.is) refl) (point-refused Astray c.args.out.now))

pub returns : goal.returns
returns c =
    point-shown (told_of c.args.kind c.args.numbers.now c.args.bounds.now c.args.lower c.args.upper) (projection_at (point_of c.args.x c.args.y c.args.z) c.args.mask) c.args.out.now _ c.is_short_told.ensures _ _ _ _ c.if-is_short_told.false c.band_of-b.ensures
    (rw (← c.length-len.ensures, ← c.project-r.ensures, c.in-Some.is) refl) c.put.ensures

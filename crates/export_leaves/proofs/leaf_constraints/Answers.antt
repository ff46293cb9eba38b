-- `export_leaves::leaf_constraints` meets its contract. Assumes nothing.
use Rattle.rule_exports.specs.Told.{told_of}
use Rattle.export_leaves.specs.Answers.{filling}
use Rattle.export_leaves.proofs.Answers.{told-short, told-tested}
use Rattle.export_leaves.proofs.leaf_constraints.Goals as goal

pub returns-then-is_short_told : goal.returns-then-is_short_told
returns-then-is_short_told c =
    rw c.number.ensures (told-short (told_of c.args.kind c.args.numbers.now c.args.bounds.now c.args.lower c.args.upper) (filling c.args.points.now c.args.quads.now c.args.labels.now) _ _ _ c.is_short_told.ensures c.if-is_short_told.true)

pub returns : goal.returns
returns c =
    told-tested (told_of c.args.kind c.args.numbers.now c.args.bounds.now c.args.lower c.args.upper) (filling c.args.points.now c.args.quads.now c.args.labels.now) _ _ _ c.is_short_told.ensures _ _ c.if-is_short_told.false c.band_of-b.ensures c.tested.ensures

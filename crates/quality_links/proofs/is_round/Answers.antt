-- `quality_links::is_round` meets its contract. Assumes nothing.
use native.Mathlib.Omega.{arith}
use mathlib.Core.Path.{◌≡◌, sym, ap, ◌∙◌}
use mathlib.Core.Bool.{true, not}
use Rattle.lists.specs.Every.{every}
use Rattle.sheet.specs.Flat.{before, to}
use Rattle.rule_sheet.specs.Flat.{quads_of}
use Rattle.sheet.specs.Edges.{point_corners}
use Rattle.rule_quality.specs.Census.{none_or_two}
use Rattle.quality_links.proofs.Joining.{Read}
use Rattle.quality_links.proofs.Linked.{test-link, link-failed, joining-part, first_read, walkable, link-round}
use Rattle.quality_links.proofs.is_round.Goals.{After-at-c, Else-not-all_two}
use Rattle.quality_links.proofs.is_round.Goals as goal

two_at : (c : Else-not-all_two) → every (none_or_two (quads_of c.args.nq c.args.quads.now) c.args.v) c.args.np ≡ true
two_at c = sym (test-link c.requires c.all_two.ensures) ∙ c.if-not-all_two.false

read_at : (c : After-at-c) → Read c.args.np c.args.quads.now (point_corners c.args.quads.now c.args.nq c.args.v) c.args.deg c.args.w.now 0 c.at-c.result
read_at c = first_read c.requires c.at-c.result c.at-c.ensures

pub all_two-requires : goal.all_two-requires
all_two-requires c = joining-part c.requires

pub returns-then-not-all_two : goal.returns-then-not-all_two
returns-then-not-all_two c = link-failed c.requires c.all_two.ensures (ap not c.if-not-all_two.true)

pub at-c-requires : goal.at-c-requires
at-c-requires c = omega (arith, c.requires.used, c.requires.joining.at.fits)

pub point_before-p-requires : goal.point_before-p-requires
point_before-p-requires c = (read_at c).known

pub point_after-n-requires : goal.point_after-n-requires
point_after-n-requires c = (read_at (goal.at.point_after-n-requires c).After-at-c).known

pub round_length-requires : goal.round_length-requires
round_length-requires c =
    let e = (read_at (goal.at.round_length-requires c).After-at-c).is in
    walkable c.requires _ _ (two_at (goal.at.round_length-requires c).Else-not-all_two) (c.point_before-p.ensures ∙ ap (before c.args.quads.now) e) (c.point_after-n.ensures ∙ ap (to c.args.quads.now) e)

pub returns : goal.returns
returns c =
    link-round c.requires _ (two_at (goal.at.returns c).Else-not-all_two) c.round_length.ensures

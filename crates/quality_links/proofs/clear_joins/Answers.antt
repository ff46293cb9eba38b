use native.Mathlib.Omega.{arith}
use mathlib.Core.Path.{ap, ◌∙◌}
use lib.ListN.{length-set}
use Rattle.sheet.specs.Flat.{before, to}
use Rattle.lists.specs.Regions.{part}
use Rattle.quality_links.proofs.Joining.{cleared-start, clear-turn, Read, read-corner}
use Rattle.quality_links.proofs.clear_joins.Goals.{After-at-c}
use Rattle.quality_links.proofs.clear_joins.Goals as goal

read_at : (c : After-at-c) → Read c.args.np c.args.quads.now (part c.args.from c.args.m c.args.w.now) c.args.deg c.loop-j.w c.loop-j.j c.at-c.result
read_at c = read-corner c.at-c.result c.loop-j.invariant.joining c.loop-j-test.true c.at-c.ensures

pub loop-j-init : goal.loop-j-init
loop-j-init c = cleared-start c.requires.joining c.requires.by_index

pub point_before-p-requires : goal.point_before-p-requires
point_before-p-requires c = (read_at c).known

pub point_after-n-requires : goal.point_after-n-requires
point_after-n-requires c = (read_at (goal.at.point_after-n-requires c).After-at-c).known

pub bounds-w-deg : goal.bounds-w-deg
bounds-w-deg c =
    let r = read_at (goal.at.bounds-w-deg c).After-at-c in omega (arith, c.point_before-p.ensures, r.before<, r.in_deg)

pub bounds-w-deg-in-loop-j : goal.bounds-w-deg-in-loop-j
bounds-w-deg-in-loop-j c =
    let r = read_at (goal.at.bounds-w-deg-in-loop-j c).After-at-c in simp length-set (omega (arith, c.point_after-n.ensures, r.after<, r.in_deg))

pub loop-j-preserved : goal.loop-j-preserved
loop-j-preserved c =
    let e = (read_at (goal.at.loop-j-preserved c).After-at-c).is in
    clear-turn _ _ c.loop-j.invariant c.loop-j-test.true
    (c.point_before-p.ensures ∙ ap (before c.args.quads.now) e) (c.point_after-n.ensures ∙ ap (to c.args.quads.now) e)

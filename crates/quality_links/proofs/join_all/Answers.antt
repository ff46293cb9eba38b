use mathlib.Core.Path.{ap, ◌∙◌}
use Rattle.sheet.specs.Flat.{before, to}
use Rattle.lists.specs.Regions.{part}
use Rattle.quality_links.proofs.Joining.{registered-start, RegisterTurn, register-turn, register-second, register-again, Read, read-corner}
use Rattle.quality_links.proofs.join_all.Goals.{After-at-c, After-point_after-n}
use Rattle.quality_links.proofs.join_all.Goals as goal

read_at : (c : After-at-c) → Read c.args.np c.args.quads.now (part c.args.from c.args.m c.args.w.now) c.args.deg c.loop-j.w c.loop-j.j c.at-c.result
read_at c = read-corner c.at-c.result c.loop-j.invariant.joining c.loop-j-test.true c.at-c.ensures

turn_at : (c : After-point_after-n) → RegisterTurn c.args.np c.args.quads.now (part c.args.from c.args.m c.args.w.now) c.args.from c.args.m c.args.deg c.args.acc c.args.w.now c.loop-j.w c.loop-j.j c.point_before-p.result c.point_after-n.result
turn_at c = let e = (read_at (goal.at.After-point_after-n c).After-at-c).is in
    register-turn _ _ c.loop-j.invariant c.loop-j-test.true
    (c.point_before-p.ensures ∙ ap (before c.args.quads.now) e) (c.point_after-n.ensures ∙ ap (to c.args.quads.now) e)

pub loop-j-init : goal.loop-j-init
loop-j-init c = registered-start c.requires.joining c.requires.unjoined

pub point_before-p-requires : goal.point_before-p-requires
point_before-p-requires c = (read_at c).known

pub point_after-n-requires : goal.point_after-n-requires
point_after-n-requires c = (read_at (goal.at.point_after-n-requires c).After-at-c).known

pub register-requires : goal.register-requires
register-requires c = (turn_at (goal.at.register-requires c).After-point_after-n).first

pub register-requires-in-loop-j : goal.register-requires-in-loop-j
register-requires-in-loop-j c =
    register-second _ (turn_at (goal.at.register-requires-in-loop-j c).After-point_after-n) c.register.ensures

pub loop-j-preserved : goal.loop-j-preserved
loop-j-preserved c =
    register-again _ _ (turn_at (goal.at.loop-j-preserved c).After-point_after-n) c.register.ensures c.register-in-loop-j.ensures

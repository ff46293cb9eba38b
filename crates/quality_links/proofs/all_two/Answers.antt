use native.Mathlib.Omega.{arith}
use mathlib.Core.Path.{◌≡◌, sym, ap, ◌∙◌}
use Rattle.lists.specs.Regions.{part}
use Rattle.lists.proofs.Every.{every-zero, every-suc, every-fails}
use Rattle.quality_links.specs.Links.{both_two, two_at}
use Rattle.quality_links.proofs.Joining.{Read, read-corner}
use Rattle.quality_links.proofs.all_two.Goals.{After-at, After-both_two}
use Rattle.quality_links.proofs.all_two.Goals as goal

read_at : (c : After-at) → Read c.args.np c.args.quads.now (part c.args.from c.args.m c.args.w.now) c.args.deg c.args.w.now c.loop-j.j c.at.result
read_at c = read-corner c.at.result c.requires c.loop-j-test.true c.at.ensures

test_at : (c : After-both_two) → c.both_two.result ≡ two_at c.args.quads.now c.args.deg c.args.w.now (part c.args.from c.args.m c.args.w.now) c.loop-j.j
test_at c = c.both_two.ensures ∙ ap (both_two c.args.quads.now c.args.deg c.args.w.now) (read_at (goal.at.After-both_two c).After-at).is

pub loop-j-init : goal.loop-j-init
loop-j-init c = every-zero _

pub both_two-requires : goal.both_two-requires
both_two-requires c =
    let r = read_at c in
    record { known = r.known; c_in_bounds = omega (arith, r.before<, r.in_deg); c_in_bounds_2 = omega (arith, r.after<, r.in_deg) }

pub loop-j-preserved : goal.loop-j-preserved
loop-j-preserved c =
    every-suc _ _ c.loop-j.invariant (sym (test_at (goal.at.loop-j-preserved c).After-both_two) ∙ c.if-not-both_two.false)

pub returns-then-not-both_two : goal.returns-then-not-both_two
returns-then-not-both_two c =
    sym (every-fails _ _ _ c.loop-j-test.true (sym (test_at (goal.at.returns-then-not-both_two c).After-both_two) ∙ c.if-not-both_two.true))

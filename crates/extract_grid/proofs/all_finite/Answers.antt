use native.Mathlib.Omega.{arith}
use mathlib.Core.Path.{◌≡◌, sym, ◌∙◌}
use lib.ListN.{length}
use Rattle.lists.proofs.Every.{every-zero, every-suc, every-fails}
use Rattle.extract_grid.proofs.all_finite.Goals as goal

pub loop-sample-init : goal.loop-sample-init
loop-sample-init c = every-zero _

pub loop-sample-preserved : goal.loop-sample-preserved
loop-sample-preserved c =
    every-suc _ _ c.loop-sample.invariant (sym c.is_finite.ensures ∙ c.if-not-is_finite.false)

pub returns-then-not-is_finite : goal.returns-then-not-is_finite
returns-then-not-is_finite c =
    sym (every-fails _ _ _ c.loop-sample-test.true (sym c.is_finite.ensures ∙ c.if-not-is_finite.true))

pub returns : goal.returns
returns c =
    let e : c.loop-sample.sample-index ≡ length c.args.s.now = omega arith in sym (rw e at c.loop-sample.invariant)

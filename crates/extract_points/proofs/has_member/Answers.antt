use native.Mathlib.Omega.{arith}
use mathlib.Core.Path.{◌≡◌, sym, ◌∙◌}
use Rattle.lists.proofs.Every.{some-zero, some-suc, some_at}
use Rattle.extract_points.proofs.has_member.Goals as goal

pub loop-e-init : goal.loop-e-init
loop-e-init c = some-zero _

pub returns-then-is_member : goal.returns-then-is_member
returns-then-is_member c = sym (some_at _ 12 _ c.loop-e-test.true (sym c.is_member.ensures ∙ c.if-is_member.true))

pub loop-e-preserved : goal.loop-e-preserved
loop-e-preserved c =
    some-suc _ _ c.loop-e.invariant (sym c.is_member.ensures ∙ c.if-is_member.false)

pub returns : goal.returns
returns c = let e : c.loop-e.e ≡ 12 = omega arith in sym (rw e at c.loop-e.invariant)

use native.Mathlib.Omega.{arith}
use mathlib.Core.Path.{◌≡◌, refl, sym, ◌∙◌}
use Prim.Native.Nat.{◌+◌, ◌-◌}
use Rattle.rule_rows.specs.Rows.{try_count}
use Rattle.rows_copies.proofs.Copies.{try-none, try-found, try-again}
use Rattle.rows_copies.proofs.first_found.Goals as goal

pub loop-tried-init : goal.loop-tried-init
loop-tried-init c = refl

pub returns-in-Some : goal.returns-in-Some
returns-in-Some c =
    try-found (try_count - c.loop-tried._tried) _ _ _ _ _ _ _ _ _ _ c.loop-tried.invariant (omega arith) c.requires c.mul.ensures c.add-q.ensures c.project-r.ensures _ c.in-Some.is

pub loop-tried-preserved : goal.loop-tried-preserved
loop-tried-preserved c =
    let e : try_count - (c.loop-tried._tried + 1) ≡ try_count - c.loop-tried._tried - 1 = omega arith in
    rw e (try-again (try_count - c.loop-tried._tried) _ _ _ _ _ _ _ _ _ _ c.loop-tried.invariant (omega arith) c.requires c.mul.ensures c.add-q.ensures c.project-r.ensures c.in_default.is)

pub returns : goal.returns
returns c = sym (try-none (try_count - c.loop-tried._tried) _ _ _ _ _ (omega arith)) ∙ c.loop-tried.invariant

use native.Mathlib.Omega.{arith}
use Rattle.coarsen_search.proofs.Steps.{visiting-start, visiting-turn, visiting-end}
use Rattle.coarsen_search.proofs.visit_all.Goals as goal

pub loop-f-init : goal.loop-f-init
loop-f-init c = visiting-start _ _ _ _ c.requires.merge_pass_holds

pub visit-count-requires : goal.visit-count-requires
visit-count-requires c =
    record { merge_pass_holds = c.loop-f.invariant.holds; f_lt_nq = c.loop-f-test.true; len_value = c.requires.len_value }

pub overflow_add-count : goal.overflow_add-count
overflow_add-count c = omega arith

pub loop-f-preserved : goal.loop-f-preserved
loop-f-preserved c =
    visiting-turn c.requires.merge_pass_holds.start c.loop-f.invariant c.loop-f-test.true c.visit-count.ensures

pub returns : goal.returns
returns c = visiting-end c.loop-f.invariant (omega arith)

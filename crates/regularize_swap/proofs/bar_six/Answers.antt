-- `regularize_swap::bar_six` meets its contract. Assumes nothing.
use native.Mathlib.Omega.{arith}
use Rattle.regularize_swap.specs.Steps.{uses_three, uses_six}
use Rattle.regularize_swap.proofs.Bars.{Marked, marks-kept, marked-then, marked-as}
use Rattle.regularize_swap.proofs.bar_six.Goals as goal

pub bar_three-requires-2-clause-map_holds : goal.bar_three-requires-2-clause-map_holds
bar_three-requires-2-clause-map_holds c =
    marks-kept c.requires.map_holds c.bar_three.ensures.kept

pub returns-clause-part : goal.returns-clause-part
returns-clause-part c =
    let M : Marked c.args.np c.args.nq (uses_three c.args.h.h0 c.args.h.h1 c.args.h.h2) c.args.w.now _ = record { marks = c.bar_three.ensures.part; kept = c.bar_three.ensures.kept } in
    let N : Marked c.args.np c.args.nq (uses_three c.args.h.h3 c.args.h.h4 c.args.h.h5) _ _ = record { marks = c.bar_three-2.ensures.part; kept = c.bar_three-2.ensures.kept } in
    (marked-as (uses_six c.args.h) (marked-then c.requires.map_holds M N) (λ q. omega arith)).marks

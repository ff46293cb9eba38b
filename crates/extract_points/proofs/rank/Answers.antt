use native.Mathlib.Omega.{arith}
use mathlib.Core.Path.{◌≡◌, ap, ◌∙◌}
use Rattle.extract_points.specs.Slots.{rank_in}
use Rattle.extract_points.proofs.Counts.{ranking-start, ranking-turn}
use Rattle.extract_points.proofs.rank.Goals as goal

pub loop-i-init : goal.loop-i-init
loop-i-init c = ranking-start _ _

pub overflow_add-count : goal.overflow_add-count
overflow_add-count c =
    let t = ranking-turn c.has_member.result c.loop-i.invariant c.has_member.ensures c.from-count.ensures in let l = t.count≤ in omega arith

pub loop-i-preserved : goal.loop-i-preserved
loop-i-preserved c = ranking-turn c.has_member.result c.loop-i.invariant c.has_member.ensures c.from-count.ensures

pub returns : goal.returns
returns c =
    let e : c.loop-i.i ≡ c.args.k = omega arith in
    record { value = c.loop-i.invariant.is ∙ ap (rank_in _ _) e; upper_bound = omega arith }

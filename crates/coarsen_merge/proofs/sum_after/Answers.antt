-- `coarsen_merge::sum_after` meets its contract. Assumes nothing.
use Rattle.coarsen_merge.specs.Steps.{sum_of_three}
use Rattle.coarsen_merge.proofs.Gains.{after, two-fit, three-fit}
use Rattle.coarsen_merge.proofs.sum_after.Goals as goal

pub square-requires-2 : goal.square-requires-2
square-requires-2 c = (after c.args.a c.args.b c.args.c c.args.d c.requires.d_bound).b≤

pub square-requires-3 : goal.square-requires-3
square-requires-3 c = (after c.args.a c.args.b c.args.c c.args.d c.requires.d_bound).d≤

pub overflow_add-result : goal.overflow_add-result
overflow_add-result c =
    let t = after c.args.a c.args.b c.args.c c.args.d c.requires.d_bound in rw (c.square-2.ensures, c.square-3.ensures) (record { fits = two-fit t.b² t.d² })

pub overflow_add-result-2 : goal.overflow_add-result-2
overflow_add-result-2 c =
    let t = after c.args.a c.args.b c.args.c c.args.d c.requires.d_bound in rw (c.square.ensures, c.square-2.ensures, c.square-3.ensures) (record { fits = three-fit t.ac² t.b² t.d² })

pub returns : goal.returns
unfolding sum_of_three
returns c = cc

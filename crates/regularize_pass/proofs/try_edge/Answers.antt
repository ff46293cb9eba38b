-- `regularize_pass::try_edge` meets its contract. Assumes nothing.
use mathlib.Core.Path.{sym, ◌∙◌}
use Rattle.edges.proofs.Walk.{pair-next}
use Rattle.regularize_pass.proofs.Sweeps.{no-pair, a_pair}
use Rattle.regularize_pass.proofs.try_edge.Goals as goal

pub returns-then-not-is_pair : goal.returns-then-not-is_pair
returns-then-not-is_pair c =
    no-pair c.requires.try_asks c.args.i c.args.count _ c.is_pair.ensures c.if-not-is_pair.true

pub edge_corner-d-requires-clause-i_bound : goal.edge_corner-d-requires-clause-i_bound
edge_corner-d-requires-clause-i_bound c =
    pair-next _ _ _ c.args.i (sym c.is_pair.ensures ∙ c.if-not-is_pair.false)

pub returns : goal.returns
returns c =
    a_pair c.requires.try_asks c.args.i c.args.count _ _ _ c.is_pair.ensures c.if-not-is_pair.false c.edge_corner-c.ensures.value c.edge_corner-d.ensures.value c.try_pair.ensures

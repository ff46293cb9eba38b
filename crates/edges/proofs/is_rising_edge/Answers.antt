-- `edges::is_rising_edge` meets its contract. Assumes nothing.
use native.Mathlib.Omega.{arith}
use Rattle.edges.proofs.Maps.{Rising, rising}
use mathlib.Core.Path.{◌∙◌}
use Rattle.edges.proofs.is_rising_edge.Goals.{After-at-e}
use Rattle.edges.proofs.is_rising_edge.Goals as goal

-- the corners of the smaller point
rising-at : (c : After-at-e) →
    Rising c.args.np c.args.nq c.args.was c.args.order c.args.a c.at-s.result c.at-e.result c.args.w.now
rising-at c = rising _ c.requires.edge_map_holds (omega arith) c.at-s.ensures c.at-e.ensures

pub slice_bounds-has_larger-count-2 : goal.slice_bounds-has_larger-count-2
slice_bounds-has_larger-count-2 c = let t = rising-at (goal.at.slice_bounds-has_larger-count-2 c).After-at-e in omega arith

pub slice_bounds-has_larger-start-2 : goal.slice_bounds-has_larger-start-2
slice_bounds-has_larger-start-2 c = let t = rising-at (goal.at.slice_bounds-has_larger-start-2 c).After-at-e in omega arith

pub slice_bounds-has_larger-end-2 : goal.slice_bounds-has_larger-end-2
slice_bounds-has_larger-end-2 c = let t = rising-at (goal.at.slice_bounds-has_larger-end-2 c).After-at-e in omega arith

pub has_larger-requires : goal.has_larger-requires
has_larger-requires c = (rising-at (goal.at.has_larger-requires c).After-at-e).ascending

pub returns : goal.returns
returns c =
    c.has_larger.ensures ∙ (rising-at (goal.at.returns c).After-at-e).is _ c.requires.a_le_b c.requires.b_lt_np

-- `quality_measures::sort_scores` meets its contract. Assumes nothing.
use Rattle.quality_measures.proofs.Rule.{sort-ready, scores-sorted}
use Rattle.quality_measures.proofs.sort_scores.Goals as goal

pub sort_floats-requires : goal.sort_floats-requires
sort_floats-requires c =
    let the_pair = sort-ready _ _ _ _ _ c.requires.n_le_limit c.requires.n_in_bounds c.requires.n_in_bounds_2 c.scores.ensures.kept in record { n_bound = the_pair.0; moving = the_pair.1.0; three = the_pair.1.1 }

pub returns : goal.returns
returns c =
    let the_pair = scores-sorted _ _ _ _ _ _ _ _ c.mean-m.ensures (c.scores.ensures.part, c.scores.ensures.kept) (c.sort_floats.ensures.part, (c.sort_floats.ensures.kept, c.sort_floats.ensures.kept_2)) in record { part = the_pair.0; kept = the_pair.1.0; kept_2 = the_pair.1.1 }

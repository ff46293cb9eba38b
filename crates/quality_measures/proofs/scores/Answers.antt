use native.Mathlib.Omega.{arith}
use Rattle.lists.proofs.Regions.{region-turn}
use Rattle.quality_measures.proofs.Rule.{score-read, scores-end}
use mathlib.Core.Path.{◌∙◌}
use Rattle.quality_measures.proofs.scores.Goals as goal

pub loop-q-preserved : goal.loop-q-preserved
loop-q-preserved c =
    region-turn _ c.loop-q.invariant c.loop-q-test.true (c.score.ensures ∙ score-read _ _ _ _ _ c.requires.n_in_bounds c.loop-q.invariant c.loop-q-test.true)

pub returns : goal.returns
returns c =
    let the_pair = scores-end _ _ _ _ _ c.requires.n_in_bounds c.loop-q.invariant (omega arith) in record { part = the_pair.0; kept = the_pair.1 }

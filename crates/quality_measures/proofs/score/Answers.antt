-- `quality_measures::score` meets its contract. Assumes nothing.
use Rattle.rule_quality.specs.Measure.{score_of}
use Rattle.quality_measures.proofs.score.Goals as goal

pub returns-then-mean-area : goal.returns-then-mean-area
unfolding score_of
returns-then-mean-area c = simp c.if-mean-area.true cc

pub returns : goal.returns
unfolding score_of
returns c = simp c.if-mean-area.false

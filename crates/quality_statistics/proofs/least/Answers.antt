-- `quality_statistics::least` meets its contract. Assumes nothing.
use Rattle.std.proofs.Common.{rules, tests, ◌∙◌}
use Rattle.std.proofs.lemmas.Iterator.{YieldsList-from_slice}
use Rattle.std.proofs.lemmas.Iterator.Consumers.{fold_from_yields_List}
use Rattle.numeric.specs.Num.{min_of}
use Rattle.rule_quality.specs.Measure.{least_of}
use Rattle.quality_statistics.proofs.Folds.{fold-is}
use Rattle.quality_statistics.proofs.least.Goals as goal

pub returns : goal.returns
unfolding least_of
returns c =
    fold_from_yields_List _ min_of _ _ c.fold.ensures.ran (YieldsList-from_slice c.args.s.now (cc)) (λ a x b q k. search (rules, tests))
    ∙ fold-is min_of _ c.args.s.now

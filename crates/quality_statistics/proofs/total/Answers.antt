-- `quality_statistics::total` meets its contract. Assumes nothing.
use Rattle.std.proofs.Common.{rules, tests, ◌∙◌}
use Rattle.std.proofs.lemmas.Iterator.{YieldsList-from_slice}
use Rattle.std.proofs.lemmas.Iterator.Consumers.{fold_from_yields_List}
use Rattle.points.specs.Points.{◌⊕◌}
use Rattle.rule_quality.specs.Measure.{total_of}
use Rattle.quality_statistics.proofs.Folds.{fold-is}
use Rattle.quality_statistics.proofs.total.Goals as goal

pub returns : goal.returns
unfolding total_of
returns c =
    fold_from_yields_List _ ◌⊕◌ _ _ c.fold.ensures.ran (YieldsList-from_slice c.args.s.now (cc)) (λ a x b q k. search (rules, tests))
    ∙ fold-is ◌⊕◌ _ c.args.s.now

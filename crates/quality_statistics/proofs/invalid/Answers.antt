-- `quality_statistics::invalid` meets its contract. Assumes nothing.
use Rattle.std.proofs.Common.{rules, tests, ◌∙◌}
use Rattle.std.proofs.lemmas.Iterator.{YieldsList-from_slice}
use Rattle.std.proofs.lemmas.Iterator.Consumers.{YieldsList-from_filter, count_from_yields_List}
use lib.Ieee.{le}
use Rattle.rule_quality.specs.Measure.{flat, invalid_of}
use Rattle.quality_statistics.proofs.Folds.{count-is}
use Rattle.quality_statistics.proofs.invalid.Goals as goal

pub returns : goal.returns
unfolding invalid_of
returns c =
    count_from_yields_List _ _ c.count.ensures.ran
    (YieldsList-from_filter _ (λ j. le j flat) (YieldsList-from_slice c.args.s.now (cc)) c.filter.ensures.closure (λ x r q k. search (rules, tests)))
    ∙ count-is (λ j. le j flat) c.args.s.now

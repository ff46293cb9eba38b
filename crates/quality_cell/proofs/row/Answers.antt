-- `quality_cell::row` meets its contract. Assumes nothing.
use Rattle.std.proofs.Common.{rules, tests}
use Rattle.std.proofs.lemmas.Iterator.{YieldsList-from_slice}
use Rattle.std.proofs.lemmas.Iterator.Consumers.{fold_from_yields_List}
use Rattle.numeric.specs.Num.{min_of}
use Rattle.quality_cell.specs.Arms.{ratio_of, row_of}
use Rattle.quality_cell.proofs.row.Goals as goal

pub returns : goal.returns
unfolding row_of
returns c =
    fold_from_yields_List _ (λ w a. min_of w (ratio_of a c.args.y c.args.n)) _ _ c.fold.ensures.ran (YieldsList-from_slice c.args.x.now (cc)) (λ a x b q k. search (rules, tests))

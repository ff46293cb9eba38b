-- `quality_cell::rows` meets its contract. Assumes nothing.
use Rattle.std.proofs.Common.{rules, tests}
use Rattle.std.proofs.lemmas.Iterator.{YieldsList-from_slice}
use Rattle.std.proofs.lemmas.Iterator.Consumers.{fold_from_yields_List}
use Rattle.quality_cell.specs.Arms.{row_of, rows_of}
use Rattle.quality_cell.proofs.rows.Goals as goal

pub returns : goal.returns
unfolding rows_of
returns c =
    fold_from_yields_List _ (λ w a. row_of w c.args.x.now a c.args.n) _ _ c.fold.ensures.ran (YieldsList-from_slice c.args.y.now (cc)) (λ a x b q k. search (rules, tests))

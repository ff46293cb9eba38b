use native.Mathlib.Omega.{arith}
use Rattle.rule_extract.specs.Cells.{merged, renamed_of}
use Rattle.lists.proofs.Laws.{filled-start, filled-turn, filled-all, filled-rest}
use mathlib.Core.Path.{◌∙◌, ap}
use Rattle.lists.specs.Sort.{tabulate}
use Rattle.extract_cells.proofs.merge.Goals as goal

pub loop-group-init : goal.loop-group-init
loop-group-init c = filled-start _ _ _ (omega arith)

pub loop-group-preserved : goal.loop-group-preserved
loop-group-preserved c =
    filled-turn _ c.loop-group.invariant (omega arith) (c.renamed.ensures ∙ ap (renamed_of _ _) (filled-rest _ 0 c.loop-group.invariant (omega arith)))

pub returns : goal.returns
unfolding merged
returns c = filled-all c.loop-group.invariant (omega arith) ∙ ap (tabulate _) c.requires.groups_len

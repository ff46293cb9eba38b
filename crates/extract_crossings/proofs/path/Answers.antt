use native.Mathlib.Omega.{arith}
use Rattle.extract_crossings.specs.Crossings.{path_from}
use Rattle.rule_extract.specs.Crossings.{halvings}
use Rattle.extract_crossings.proofs.Paths.{searching-first, searching-turn, searching-end, searching-room}
use mathlib.Core.Path.{◌∙◌, ap}
use Rattle.extract_crossings.proofs.path.Goals as goal

pub loop-i-init : goal.loop-i-init
loop-i-init c = searching-first _ _ _

pub overflow_add-path : goal.overflow_add-path
overflow_add-path c =
    record { fits = searching-room c.loop-i.invariant c.loop-i-test.true c.keeps_side-keep.ensures c.narrow-s.ensures c.from.ensures }

pub loop-i-preserved : goal.loop-i-preserved
loop-i-preserved c =
    searching-turn c.loop-i.invariant c.loop-i-test.true c.keeps_side-keep.ensures c.narrow-s.ensures c.from.ensures

pub returns : goal.returns
returns c =
    searching-end c.loop-i.invariant (omega arith) ∙ ap (path_from halvings _ _) c.edge_span-s.ensures

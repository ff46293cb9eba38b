-- `coarsen_passes::merge_once` meets its contract. Assumes nothing.
use Rattle.coarsen_passes.proofs.Once.{mergeable, once-none, compacting, once-some}
use native.Mathlib.Omega.{arith}
use Rattle.coarsen_passes.proofs.merge_once.Goals as goal

pub merge_pass-count-requires : goal.merge_pass-count-requires
merge_pass-count-requires c =
    record { merge_pass_asks = mergeable c.requires.coarsenable; len_value = c.requires.len_value }

pub returns-then-count-eq0 : goal.returns-then-count-eq0
returns-then-count-eq0 c =
    once-none c.requires.coarsenable c.merge_pass-count.ensures (omega (arith, c.if-count-eq0.true)) c.merge_pass-count.auto.points c.merge_pass-count.auto.quads

pub compact-sheet-requires : goal.compact-sheet-requires
compact-sheet-requires c =
    compacting c.requires.coarsenable c.merge_pass-count.ensures c.merge_pass-count.auto.points c.merge_pass-count.auto.w

pub returns : goal.returns
returns c =
    once-some c.requires.coarsenable c.merge_pass-count.ensures c.if-count-eq0.false c.compact-sheet.ensures.begins

-- `extract_crossings::replay` meets its contract. Assumes nothing.
use mathlib.Core.Path.{◌≡◌}
use Prim.Native.Nat.{◌-◌}
use Rattle.rule_extract.specs.Crossings.{halvings}
use Rattle.extract_crossings.specs.Crossings.{replay_from}
use Rattle.extract_crossings.proofs.replay.Given as goal

abbrev pub invariant-loop-i : goal.invariant-loop-i
invariant-loop-i l = replay_from (halvings - l.i) l.s l.rest ≡ replay_from halvings l.initial.s l.initial.rest

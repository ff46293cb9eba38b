-- `extract_crossings::path` meets its contract. Assumes nothing.
use Rattle.extract_crossings.specs.Crossings.{path_from}
use Rattle.rule_extract.specs.Crossings.{halvings}
use Rattle.extract_crossings.proofs.Paths.{Searching}
use Rattle.extract_crossings.proofs.path.Given as goal

abbrev pub invariant-loop-i : goal.invariant-loop-i
invariant-loop-i l = Searching l.g l.sign (path_from halvings l.g l.sign l.initial.s) l.s l.path l.i

-- `export_band::field_of` meets its contract. Assumes nothing.
use native.Mathlib.Omega.{arith}
use borrow.Author.Tests.{ne_eqb}
use Rattle.rule_exports.specs.Told.{field_of}
use Rattle.export_band.proofs.field_of.Goals as goal

pub returns-in-0 : goal.returns-in-0
unfolding field_of
returns-in-0 c = rw c.in-0.is

pub returns-in-1 : goal.returns-in-1
unfolding field_of
returns-in-1 c = rw c.in-1.is

pub returns-in_default : goal.returns-in_default
unfolding field_of
returns-in_default c = rw (ne_eqb c.args.kind 0 (omega arith), ne_eqb c.args.kind 1 (omega arith))

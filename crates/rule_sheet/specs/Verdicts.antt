-- What tests and operations answer.
use Rattle.std.specs.Prelude.{Result, Ok}
use Rattle.rule_sheet.specs.declared.Refusal.{Refusal}
use Rattle.rule_sheet.specs.declared.Tally.{Tally}

-- a test: accepted, or a refusal
abbrev pub Verdict : Type 0
Verdict = Result (Unit {0}) Refusal

-- an operation on a sheet: what it did, or a refusal
abbrev pub Answer : Type 0
Answer = Result Tally Refusal

-- the test is passed
abbrev pub Accepted : Verdict
Accepted = Ok tt

-- What the rule of an operation gives.
use Rattle.std.specs.Prelude.{ℕ, cond, ◌||◌, Ok, Err}
use Rattle.rule_sheet.specs.declared.Counts.{Counts}
use Rattle.rule_sheet.specs.Lent.{Room, is_large, is_short}
use Rattle.rule_sheet.specs.declared.Refusal.{Refusal}
use Rattle.rule_sheet.specs.Verdicts.{Verdict}
use Rattle.rule_sheet.specs.declared.Refusal.TheVariants.{Short}

-- a refusal, or what the operation makes
pub data Outcome (A : Type 0) : Type 0 where
  refuses : Refusal → Outcome A
  gives : A → Outcome A

-- what is left after some passes, and what was counted in all of them
pub record RunEnd (A : Type 0) : Type 0 where
  pub left : A
  pub count : ℕ

-- what follows on a test: its refusal, or else the outcome
abbrev pub after_test : {A : Type 0} → Verdict → Outcome A → Outcome A
after_test (Ok u) o = o
after_test (Err n) o = refuses n

-- "Result 13 comes next, for more points or quads than the result slices or the limit hold": a result of these counts
abbrev pub with_room : {A : Type 0} → Counts → Room → Outcome A → Outcome A
with_room c r o = cond (is_large c || is_short c r) (refuses Short) o

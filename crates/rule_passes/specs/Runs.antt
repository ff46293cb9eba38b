-- Passes one after the other, until one changes nothing.
use Rattle.std.specs.Prelude.{ℕ, zero, suc, ◌+◌, min, true, false, eqb}
use Rattle.rule_sheet.specs.Outcomes.{RunEnd}

-- at most k passes, each of which counts what it changes and leaves the next; they end where one counts 0
abbrev pub run : {A : Type 0} → (A → ℕ) → (A → A) → ℕ → A → ℕ → RunEnd A
run count next zero x c = record { left = x; count = c }
run count next (suc k) x c =
    elim (eqb (count x) 0) [ true ↦ record { left = x; count = c } | false ↦ run count next k (next x) (c + count x) ]

-- the largest usize
abbrev pub largest : ℕ
largest = 18446744073709551615

-- a count as it is answered: "where improve_layout, given enough passes, swaps more often than a usize can count,
-- its count is the largest usize"
abbrev pub capped : ℕ → ℕ
capped c = min c largest

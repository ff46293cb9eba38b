-- The tests of a lent sheet refuse with 12, 13, 5, 6 or 7; those of a call also with what the test of what it brings
-- refuses with. Assumes nothing.
use Prim.Native.Nat.{ℕ}
use mathlib.Core.Path.{◌≡◌}
use mathlib.Core.Bool.{Bool, true, false, cond}
use lib.ListN.{length}
use Rattle.rule_sheet.specs.declared.Counts.{Counts}
use Rattle.rule_sheet.specs.Tests.{good_corners, good_masks}
use Rattle.rule_sheet.specs.Sheet.{Sheet, is_bare, quads_verdict, sheet_verdict}
use Rattle.rule_sheet.specs.Lent.{Lent, Work, Room, held, room_in, is_large, is_short, is_short_work, lent_verdict, before_verdict}
use Rattle.rule_sheet.specs.Outcomes.{Outcome, refuses, gives, after_test}
use Rattle.rule_admission.specs.Admission.{and_then, admits_after}
use Rattle.std.specs.Prelude.{Ok, Err}
use Rattle.rule_sheet.specs.Verdicts.{Verdict, Accepted}
use Rattle.rule_sheet.specs.declared.Refusal.{Refusal}
use Rattle.rule_sheet.specs.declared.Refusal.TheVariants.{Bare, Corner, Clash, Large, Short}

-- ---- a property of the number of a refusal

-- the number of a verdict, if it is a refusal, has the property P; the same of an outcome
abbrev NumberIs : (Refusal → Type 0) → Verdict → Type 0
NumberIs P (Ok u) = Unit {0}
NumberIs P (Err n) = P n

pub record Number (P : Refusal → Type 0) (v : Verdict) : Type 0 where
  pub is : NumberIs P v

abbrev RefusalIs : {A : Type 0} → (Refusal → Type 0) → Outcome A → Type 0
RefusalIs P (refuses n) = P n
RefusalIs P (gives x) = Unit {0}

pub record Refuses {A : Type 0} (P : Refusal → Type 0) (o : Outcome A) : Type 0 where
  pub is : RefusalIs P o

module _ (P : Refusal → Type 0) where
  pub accepted : Number P Accepted
  accepted = record { is = tt }

  pub refused : (n : Refusal) → P n → Number P (Err n)
  refused n p = record { is = p }

  pub given : {A : Type 0} (x : A) → Refuses P (gives x)
  given x = record { is = tt }

  pub refusing : {A : Type 0} (n : Refusal) → P n → Refuses {A = A} P (refuses n)
  refusing n p = record { is = p }

  pub either_number : (b : Bool) {u v : Verdict} → Number P u → Number P v → Number P (cond b u v)
  either_number true p q = p
  either_number false p q = q

  pub either-refusal : {A : Type 0} (b : Bool) {o p : Outcome A} → Refuses P o → Refuses P p → Refuses P (cond b o p)
  either-refusal true p q = p
  either-refusal false p q = q

  pub after-refusal : {A : Type 0} {v : Verdict} {o : Outcome A} → Number P v → Refuses P o → Refuses P (after_test v o)
  after-refusal {v = Ok x} p q = q
  after-refusal {v = Err n} p q = record { is = p.is }

  then-number : {u v : Verdict} → Number P u → Number P v → Number P (and_then u v)
  then-number {u = Ok x} p q = q
  then-number {u = Err n} p q = p

  -- what a refusal says, where an outcome is one
  pub said : {A : Type 0} {o : Outcome A} {n : Refusal} → Refuses P o → o ≡ refuses n → P n
  said p e = let r = rw e at p in r.is

-- ---- the tests of a call

-- the numbers of a lent sheet and its tests have the property
pub record SheetNumbers (P : Refusal → Type 0) : Type 0 where
  pub at_large : P Large
  pub at_short : P Short
  pub at_bare : P Bare
  pub is_corner : P Corner
  pub is_clash : P Clash

module _ (P : Refusal → Type 0) (h : SheetNumbers P) where
  too_large : Number P (Err Large)
  too_large = refused P Large h.at_large

  too_short_lem : Number P (Err Short)
  too_short_lem = refused P Short h.at_short

  pub lent-number : (c : Counts) (r : Room) (w : Work) → Number P (lent_verdict c r w)
  unfolding lent_verdict
  lent-number c r w =
      either_number P (is_large c) too_large (either_number P (is_short c r) too_short_lem (either_number P (is_short_work c w) too_short_lem (accepted P)))

  pub before-number : (c : Counts) (too_short : Bool) → Number P (before_verdict c too_short)
  unfolding before_verdict
  before-number c too_short = either_number P (is_large c) too_large (either_number P too_short too_short_lem (accepted P))

  pub sheet-number : (s : Sheet) → Number P (sheet_verdict s)
  unfolding sheet_verdict quads_verdict
  sheet-number s =
      let n = length s.points in
      either_number P (is_bare s) (refused P Bare h.at_bare) (either_number P (good_corners n s.quads s.labels)
      (either_number P (good_masks n s.quads s.labels) (accepted P) (refused P Clash h.is_clash))
      (refused P Corner h.is_corner))

  pub admits-number : {v : Verdict} (x : Lent) (w : Work) → Number P v → Number P (admits_after v x w)
  unfolding admits_after
  admits-number x w p = then-number P (lent-number x.counts (room_in x) w) (then-number P p (sheet-number (held x)))

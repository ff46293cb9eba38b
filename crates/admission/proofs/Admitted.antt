-- What the tests of a call leave where they find nothing, and the answers on the way. Assumes nothing.
use Prim.Native.Nat.{ℕ, suc, ◌+◌, ◌-◌, ◌*◌, ◌≤◌, ◌<◌}
use mathlib.Core.Path.{◌≡◌, refl, ap, ◌∙◌}
use mathlib.Core.List.{List}
use native.Mathlib.Omega.{arith}
use native.Mathlib.Nat.{mul-le-mul_right}
use lib.ListN.{length, take}
use Rattle.rule_sheet.specs.declared.Counts.{Counts}
use Rattle.rule_sheet.specs.Flat.{quads_of}
use Rattle.rule_sheet.specs.Sheet.{sheet_verdict}
use Rattle.rule_sheet.specs.Lent.{Lent, Work, held, room_in, limit, lent_verdict}
use Rattle.rule_admission.specs.Admission.{and_then, admits_after}
use Rattle.lists.proofs.Laws.{length-tab}
use Rattle.lists.proofs.Regions.{part-as, lent}
use Rattle.sheet.specs.Sheet.{LentSheet, LentWork, MasksIf, masks_of}
use Rattle.admission.specs.Clauses.{MasksAt}
use borrow.Rule.Slice.PartMut.{put_mid}
use Rattle.sheet.proofs.Tests.{lent_is}
use Rattle.std.specs.Prelude.{Ok, Err}
use Rattle.rule_sheet.specs.Verdicts.{Verdict, Accepted}
use Rattle.rule_sheet.specs.declared.Refusal.{Refusal}

-- two tests that find nothing together find nothing each
and-accepted : (u v : Verdict) → and_then u v ≡ Accepted → (u ≡ Accepted) × (v ≡ Accepted)
and-accepted (Ok u) v e = (refl, e)
and-accepted (Err n) v e = absurd (let z : ◌≡◌ {A = ℕ} 0 1 = cc in omega arith)

-- what 12, 13, a test of what the call brings, 5, 6 and 7 leave
pub record Admitted (v : Verdict) (x : Lent) (w : Work) : Type 0 where
  pub sheet : LentSheet x.counts (length x.points) (length x.quads) (length x.labels)
  pub work : LentWork x.counts w.numbers w.floats
  pub lengths : lent_verdict x.counts (room_in x) w ≡ Accepted
  pub brought : v ≡ Accepted
  pub accepted : sheet_verdict (held x) ≡ Accepted

pub admitted : (v : Verdict) (x : Lent) (w : Work) → admits_after v x w ≡ Accepted → Admitted v x w
unfolding admits_after
admitted v x w e =
    let a = and-accepted (lent_verdict x.counts (room_in x) w) (and_then v (sheet_verdict (held x))) e in
    let b = and-accepted v (sheet_verdict (held x)) a.1 in
    let L = lent_is x.counts (length x.points) (length x.quads) (length x.labels) w.numbers w.floats a.0 in
    record { sheet = L.0; work = L.1; lengths = a.0; brought = b.0; accepted = b.1 }

-- the answers in the order of the tests
module _ (v : Verdict) (x : Lent) (w : Work) where
  pub lent-refuses : {n : Refusal} → lent_verdict x.counts (room_in x) w ≡ Err n → Err n ≡ admits_after v x w
  unfolding admits_after
  lent-refuses e = rw e

  pub brought-refuses : {n : Refusal} → lent_verdict x.counts (room_in x) w ≡ Accepted → v ≡ Err n → Err n ≡ admits_after v x w
  unfolding admits_after
  brought-refuses e f = rw (e, f)

  pub sheet-decides : {r : Verdict} → lent_verdict x.counts (room_in x) w ≡ Accepted → v ≡ Accepted → r ≡ sheet_verdict (held x) → r ≡ admits_after v x w
  unfolding admits_after
  sheet-decides e f g = rw (e, f) g

-- a region of the work slice that begins before unit 64 fits
pub region-fits : (m n p w : ℕ) → m < 64 → p ≤ n → 64 * n ≤ w → m * n + p ≤ w
region-fits m n p w h k l = let z : suc m * n ≤ 64 * n = mul-le-mul_right n h in omega (arith, z)

-- its start is a small number
pub region-small : (m p q : ℕ) → m < 64 → p ≤ limit → q ≤ limit → m * (p + q) ≤ 134217728
region-small m p q h a b = let z : m * (p + q) ≤ 64 * (p + q) = mul-le-mul_right (p + q) (omega arith) in omega (arith, z)

-- the masks that a test leaves in a part of the work slice
pub masks-lent : (r : Verdict) (at : ℕ) (c : Counts) (Q labels v y : List ℕ) → at + c.points ≤ length v → MasksIf r (masks_of c.points (quads_of c.quads Q) (take c.labels labels)) y
    → MasksAt r at c.points (masks_of c.points (quads_of c.quads Q) (take c.labels labels)) (put_mid at (at + c.points - at) v y)
unfolding masks_of
masks-lent (Ok u) at c Q labels v y h m = part-as (lent at c.points v y h (ap length m ∙ length-tab _ c.points)).part m
masks-lent (Err k) at c Q labels v y h m = tt

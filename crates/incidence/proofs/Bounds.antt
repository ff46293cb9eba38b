-- Valences of quads with different corners are bounded, and what keeps them so. Assumes nothing.
use Prim.Native.Nat.{ℕ, ◌+◌, ◌≤◌, ◌<◌}
use mathlib.Core.Path.{◌≡◌}
use mathlib.Core.Logic.{◌⊎◌, inl, inr}
use mathlib.Core.List.{List}
use native.Mathlib.Omega.{arith}
use lib.ListN.{length, get_or, set}
use lib.Seq.{get_or-set_same, get_or-set_other}
use Rattle.lists.specs.Sort.{tabulate}
use Rattle.lists.specs.Regions.{Part, Kept}
use Rattle.lists.proofs.Laws.{eq-or-ne, get_or-tab}
use Rattle.lists.proofs.Regions.{part-get}
use Rattle.rule_sheet.specs.Quads.{valence}
use Rattle.rule_sheet.specs.Flat.{quads_of}
use Rattle.rule_sheet.specs.Claims.{All, Differ}
use Rattle.rule_sheet.specs.Lent.{limit}
use Rattle.rule_sheet.proofs.Bound.{valence-le}
use Rattle.sheet.proofs.Flat.{length-quads}
use Rattle.incidence.specs.Bounds.{Bounded}

-- the valences of at most so many quads, the corners of each of which differ
pub bounded_of : {at n : ℕ} {w : List ℕ} (nq : ℕ) (Q : List ℕ) → Part at n (tabulate (valence (quads_of nq Q)) n) w → All Differ (quads_of nq Q) → nq ≤ limit → Bounded at n w
bounded_of {at} {n} {w} nq Q P d few = record {
  each = λ v h. omega (arith, part-get 0 v P h, get_or-tab (valence (quads_of nq Q)) n v 0 h, valence-le (quads_of nq Q) v d, length-quads nq Q);
}

-- another number in one place
pub bounded-set : {at n : ℕ} {w : List ℕ} (v x : ℕ) → Bounded at n w → at + v < length w → x ≤ limit → Bounded at n (set w (at + v) x)
bounded-set {at} {n} {w} v x B l h = record { each = λ k b. go k b (eq-or-ne (at + k) (at + v)) }
  where
    go : (k : ℕ) → k < n → (at + k ≡ at + v) ⊎ (at + k ≡ at + v → ⊥) → get_or (set w (at + v) x) (at + k) 0 ≤ limit
    go k b (inl e) = rw (e, get_or-set_same w (at + v) x 0 l) h
    go k b (inr n) = rw (get_or-set_other w (at + v) (at + k) x 0 n) (B.each k b)

-- what leaves a region as it is
pub bounded-kept : {at n : ℕ} {v w : List ℕ} {P : ℕ → Type 0} → Bounded at n v → Kept P v w → ((i : ℕ) → at ≤ i → i < at + n → P i) → Bounded at n w
bounded-kept {at} {n} {v} {w} B K f = record { each = λ k h. rw (K.same 0 (at + k) (f (at + k) (omega arith) (omega arith))) (B.each k h) }

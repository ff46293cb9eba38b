-- The length and the elements of the slots that slices have, and the slots at the start of a pass. Assumes nothing.
use Prim.Native.Nat.{ℕ, zero, suc, ◌<◌}
use mathlib.Core.Path.{◌≡◌, refl}
use mathlib.Core.List.{List, [], ◌∷◌, map}
use native.Mathlib.Omega.{arith}
use lib.ListN.{length, get_or, length-map}
use Rattle.lists.proofs.Laws.{length-tab, get_or-tab}
use Rattle.rule_sheet.specs.Quads.{Quad}
use Rattle.rule_passes.specs.Choices.{none_quad}
use Rattle.rule_coarsen.specs.Merges.{out, slot}
use Rattle.rule_coarsen.specs.Invariants.{MInv, slot_at, slots_of}

pub slot-get : (nq : ℕ) (Q R : List ℕ) (j : ℕ) → j < nq → get_or (slots_of nq Q R) j out ≡ slot_at Q R j
unfolding slots_of
slot-get nq Q R j h = get_or-tab (slot_at Q R) nq j out h

pub length-slots : (nq : ℕ) (Q R : List ℕ) → length (slots_of nq Q R) ≡ nq
unfolding slots_of
length-slots nq Q R = length-tab (slot_at Q R) nq

-- ---- the start of a pass

-- a slot of the start
pub slot-at : (S : List Quad) (j : ℕ) → j < length S → get_or (map slot S) j out ≡ slot (get_or S j none_quad)
slot-at [] j l = absurd (omega arith)
slot-at (q ∷ S) zero l = refl
slot-at (q ∷ S) (suc j) l = slot-at S j (omega arith)

-- every quad stands as at the start
pub inv-fresh : (S : List Quad) (U : ℕ → Type 0) → MInv S (map slot S) U
inv-fresh S U = record { len = length-map S slot; same = λ v n j l h. slot-at S j l }

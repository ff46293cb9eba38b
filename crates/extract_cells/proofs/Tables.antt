-- The code's constant tables have what their rules say: a test that is computed at all entries. Assumes nothing.
use Prim.Native.Nat.{ℕ, zero, suc, ◌+◌, ◌*◌, ◌/◌, ◌%◌, ◌<◌}
use mathlib.Core.Path.{◌≡◌, refl}
use mathlib.Core.Bool.{Bool, true, false, ◌&&◌}
use mathlib.Core.List.{List, [], ◌∷◌}
use native.Mathlib.Omega.{arith}
use lib.Dec.{eqb, ltb}
use lib.ListN.{length, get_or}
use borrow.Author.Tests.{eqb-true, ltb-true}
use Rattle.lists.specs.Sort.{tabulate, keep}
use Rattle.lists.specs.Every.{every}
use Rattle.lists.proofs.Every.{every-at, and_left, and_right}
use Rattle.rule_extract.specs.Cells.{low_end, high_end, crosses, edges_on, crossings_on, four_on, pairs_in}
use Rattle.extract_cells.specs.Cells.{pair_at}

-- an entry below a bound that is right
fits : ℕ → (ℕ → ℕ) → (ℕ → ℕ) → ℕ → Bool
fits bound f g i = eqb (f i) (g i) && ltb (f i) bound

at : (bound : ℕ) (f g : ℕ → ℕ) (n : ℕ) → every (fits bound f g) n ≡ true → (i : ℕ) → i < n → (f i ≡ g i) × (f i < bound)
unfolding fits
at bound f g n e i h =
    let r = every-at (fits bound f g) n i e h in
    (eqb-true _ _ (and_left (eqb (f i) (g i)) (ltb (f i) bound) r), ltb-true _ _ (and_right (eqb (f i) (g i)) (ltb (f i) bound) r))

abbrev pub ends : List (ℕ × ℕ)
ends = (0, 1) ∷ (4, 5) ∷ (2, 3) ∷ (6, 7) ∷ (0, 2) ∷ (1, 3) ∷ (4, 6) ∷ (5, 7) ∷ (0, 4) ∷ (2, 6) ∷ (1, 5) ∷ (3, 7) ∷ []

abbrev pub face_edges : List (List ℕ)
face_edges = (4 ∷ 6 ∷ 8 ∷ 9 ∷ []) ∷ (5 ∷ 7 ∷ 10 ∷ 11 ∷ []) ∷ (0 ∷ 1 ∷ 8 ∷ 10 ∷ []) ∷ (2 ∷ 3 ∷ 9 ∷ 11 ∷ []) ∷ (0 ∷ 2 ∷ 4 ∷ 5 ∷ []) ∷ (1 ∷ 3 ∷ 6 ∷ 7 ∷ []) ∷ []

abbrev pub pairs : List (ℕ × ℕ)
pairs = (0, 1) ∷ (0, 2) ∷ (0, 3) ∷ (1, 2) ∷ (1, 3) ∷ (2, 3) ∷ []

low_of : ℕ → ℕ
low_of e = (get_or ends e (0, 0)).0

high_of : ℕ → ℕ
high_of e = (get_or ends e (0, 0)).1

pub low-at : (e : ℕ) → e < 12 → ((get_or ends e (0, 0)).0 ≡ low_end e) × ((get_or ends e (0, 0)).0 < 8)
unfolding fits every low_of low_end
low-at = at 8 low_of low_end 12 refl

pub high-at : (e : ℕ) → e < 12 → ((get_or ends e (0, 0)).1 ≡ high_end e) × ((get_or ends e (0, 0)).1 < 8)
unfolding fits every high_of low_end high_end
high-at = at 8 high_of high_end 12 refl

-- edge k of face f
edge_in : ℕ → ℕ
edge_in i = get_or (edges_on (i / 4)) (i % 4) 0

entry_in : ℕ → ℕ
entry_in i = get_or (get_or face_edges (i / 4) []) (i % 4) 0

edges_at : (i : ℕ) → i < 24 → (entry_in i ≡ edge_in i) × (entry_in i < 12)
unfolding fits every edge_in entry_in edges_on tabulate low_end high_end
edges_at = at 12 entry_in edge_in 24 refl

pub edge_at : (f k : ℕ) → f < 6 → k < 4 → (get_or (get_or face_edges f []) k 0 ≡ get_or (edges_on f) k 0) × (get_or (get_or face_edges f []) k 0 < 12)
unfolding edge_in entry_in
edge_at f k h l =
    let e : (4 * f + k) / 4 ≡ f = omega arith in
    let g : (4 * f + k) % 4 ≡ k = omega arith in
    rw (e, g) at (edges_at (4 * f + k) (omega arith))

-- the edges of pair t
first-in : ℕ → ℕ
first-in t = (pair_at t).first

second-in : ℕ → ℕ
second-in t = (pair_at t).second

of-first : ℕ → ℕ
of-first t = get_or (edges_on (t / 6)) (get_or pairs (t % 6) (0, 0)).0 0

of-second : ℕ → ℕ
of-second t = get_or (edges_on (t / 6)) (get_or pairs (t % 6) (0, 0)).1 0

pub first-at : (t : ℕ) → t < 36 → get_or (edges_on (t / 6)) (get_or pairs (t % 6) (0, 0)).0 0 ≡ (pair_at t).first
unfolding fits every first-in of-first edges_on tabulate low_end high_end pairs_in
first-at t h = (at 12 of-first first-in 36 refl t h).0

pub second_at : (t : ℕ) → t < 36 → get_or (edges_on (t / 6)) (get_or pairs (t % 6) (0, 0)).1 0 ≡ (pair_at t).second
unfolding fits every second-in of-second edges_on tabulate low_end high_end pairs_in
second_at t h = (at 12 of-second second-in 36 refl t h).0

-- ---- a face with four crossings

abbrev edge : (ℕ → Bool) → ℕ → ℕ → Bool
edge sign f k = crosses sign (get_or (edges_on f) k 0)

length-four : (a b c d : Bool) (p : ℕ → Bool) (i j k l : ℕ) → p i ≡ a → p j ≡ b → p k ≡ c → p l ≡ d
    → (a && b && c && d) ≡ eqb (length (keep p (i ∷ j ∷ k ∷ l ∷ []))) 4
length-four true true true true p i j k l e f g h = rw (e, f, g, h) refl
length-four true true true false p i j k l e f g h = rw (e, f, g, h) refl
length-four true true false true p i j k l e f g h = rw (e, f, g, h) refl
length-four true true false false p i j k l e f g h = rw (e, f, g, h) refl
length-four true false true true p i j k l e f g h = rw (e, f, g, h) refl
length-four true false true false p i j k l e f g h = rw (e, f, g, h) refl
length-four true false false true p i j k l e f g h = rw (e, f, g, h) refl
length-four true false false false p i j k l e f g h = rw (e, f, g, h) refl
length-four false true true true p i j k l e f g h = rw (e, f, g, h) refl
length-four false true true false p i j k l e f g h = rw (e, f, g, h) refl
length-four false true false true p i j k l e f g h = rw (e, f, g, h) refl
length-four false true false false p i j k l e f g h = rw (e, f, g, h) refl
length-four false false true true p i j k l e f g h = rw (e, f, g, h) refl
length-four false false true false p i j k l e f g h = rw (e, f, g, h) refl
length-four false false false true p i j k l e f g h = rw (e, f, g, h) refl
length-four false false false false p i j k l e f g h = rw (e, f, g, h) refl

pub four-crossings : (sign : ℕ → Bool) (f : ℕ) → f < 6 → (edge sign f 0 && edge sign f 1 && edge sign f 2 && edge sign f 3) ≡ four_on sign f
unfolding four_on crossings_on edges_on tabulate low_end high_end
four-crossings sign zero h = length-four _ _ _ _ (crosses sign) 4 6 8 9 refl refl refl refl
four-crossings sign (suc zero) h = length-four _ _ _ _ (crosses sign) 5 7 10 11 refl refl refl refl
four-crossings sign (suc (suc zero)) h = length-four _ _ _ _ (crosses sign) 0 1 8 10 refl refl refl refl
four-crossings sign (suc (suc (suc zero))) h = length-four _ _ _ _ (crosses sign) 2 3 9 11 refl refl refl refl
four-crossings sign (suc (suc (suc (suc zero)))) h = length-four _ _ _ _ (crosses sign) 0 2 4 5 refl refl refl refl
four-crossings sign (suc (suc (suc (suc (suc zero))))) h = length-four _ _ _ _ (crosses sign) 1 3 6 7 refl refl refl refl
four-crossings sign (suc (suc (suc (suc (suc (suc f)))))) h = absurd (omega arith)

-- The corners of an edge in a flat list are the edge's entry in the edge map. Assumes nothing.
use Prim.Native.Nat.{ℕ, zero, suc, ◌+◌, ◌*◌, ◌/◌, ◌%◌}
use mathlib.Core.Path.{◌≡◌, refl, sym, ap, ap₂, ◌∙◌}
use mathlib.Core.Bool.{Bool, true, false, ◌&&◌}
use mathlib.Core.Logic.{⊎_elim}
use mathlib.Core.List.{List, [], ◌∷◌, ◌++◌, map, map-append}
use native.Mathlib.Omega.{arith}
use lib.Dec.{eqb}
use lib.ListN.{length, get_or}
use borrow.Author.Tests.{eq-eqb, ne_eqb}
use Rattle.lists.specs.Sort.{tabulate, itself, cons_if, bucket}
use Rattle.lists.proofs.Laws.{eq-or-ne, tab-suc, bucket-append}
use Rattle.rule_sheet.specs.Quads.{Quad, quad}
use Rattle.rule_sheet.specs.Flat.{corner, quad_at, quads_of}
use Rattle.sheet.specs.Flat.{from, to}
use Rattle.rule_sheet.specs.Edges.{Pair, pair}
use Rattle.sheet.specs.Edges.{smaller, larger, all_corners, edge_corners}
use Rattle.sheet.proofs.Flat.{quads-suc, length-quads}
use Rattle.rule_regularize.specs.Swaps.{Place, same_pair, places}
use Rattle.regularize_swap.specs.Steps.{place_of}

-- ---- lists

if-append : {A : Type 0} (b : Bool) (x : A) (l m : List A) → cons_if b x l ++ m ≡ cons_if b x (l ++ m)
if-append true x l m = refl
if-append false x l m = refl

eqb-turn : (a b : ℕ) → eqb a b ≡ eqb b a
eqb-turn a b = ⊎_elim (λ (e : a ≡ b). rw (eq-eqb a b e, eq-eqb b a (sym e))) (λ (n : a ≡ b → ⊥). rw (ne_eqb a b n, ne_eqb b a (λ e. n (sym e)))) (eq-or-ne a b)

-- ---- one quad more

places-append : (p : Pair) (i : ℕ) (S T : List Quad) → places p i (S ++ T) ≡ places p i S ++ places p (i + length S) T
places-append p i [] T = let e : i + 0 ≡ i = omega arith in rw e
places-append p i (quad a b c d ∷ S) T =
    let e : i + suc (length S) ≡ suc i + length S = omega arith in
    rw (
      e,
      if-append {A = Place} (same_pair p (pair a b)),
      if-append {A = Place} (same_pair p (pair b c)),
      if-append {A = Place} (same_pair p (pair c d)),
      if-append {A = Place} (same_pair p (pair d a)),
      places-append p (suc i) S T,
    )

-- the corners of quad q
abbrev corners_of : ℕ → List ℕ
corners_of q = (4 * q) ∷ (4 * q + 1) ∷ (4 * q + 2) ∷ (4 * q + 3) ∷ []

tab-four : (n : ℕ) → all_corners (suc n) ≡ all_corners n ++ corners_of n
tab-four n =
    let e : 4 * suc n ≡ suc (suc (suc (suc (4 * n)))) = omega arith in
    let a : suc (4 * n) ≡ 4 * n + 1 = omega arith in
    let b : suc (suc (4 * n)) ≡ 4 * n + 2 = omega arith in
    let c : suc (suc (suc (4 * n))) ≡ 4 * n + 3 = omega arith in
    ap (tabulate itself) e
    ∙ tab-suc itself (suc (suc (suc (4 * n))))
    ∙ ap₂ (λ (l : List ℕ) (x : ℕ). l ++ (x ∷ [])) (tab-suc itself (suc (suc (4 * n)))) c
    ∙ ap₂ (λ (l : List ℕ) (x : ℕ). (l ++ (x ∷ [])) ++ ((4 * n + 3) ∷ [])) (tab-suc itself (suc (4 * n))) b
    ∙ ap₂ (λ (l : List ℕ) (x : ℕ). ((l ++ (x ∷ [])) ++ ((4 * n + 2) ∷ [])) ++ ((4 * n + 3) ∷ [])) (tab-suc itself (4 * n)) a
    ∙ regroup (all_corners n) (4 * n) (4 * n + 1) (4 * n + 2) (4 * n + 3)
  where
    regroup : (l : List ℕ) (x y z u : ℕ) → (((l ++ (x ∷ [])) ++ (y ∷ [])) ++ (z ∷ [])) ++ (u ∷ []) ≡ l ++ (x ∷ y ∷ z ∷ u ∷ [])
    regroup [] x y z u = refl
    regroup (k ∷ l) x y z u = ap (λ (t : List ℕ). k ∷ t) (regroup l x y z u)

module _ (Q : List ℕ) (p : Pair) where
  abbrev edge_only : List ℕ → List ℕ
  edge_only l = bucket (larger Q) p.high (bucket (smaller Q) p.low l)

  only-append : (l m : List ℕ) → edge_only (l ++ m) ≡ edge_only l ++ edge_only m
  only-append l m = rw (bucket-append (smaller Q) p.low l m, bucket-append (larger Q) p.high (bucket (smaller Q) p.low l) (bucket (smaller Q) p.low m))

  only-cons : (c : ℕ) (l : List ℕ) → map place_of (edge_only (c ∷ l)) ≡ cons_if (eqb p.low (smaller Q c) && eqb p.high (larger Q c)) (place_of c) (map place_of (edge_only l))
  unfolding bucket
  only-cons c l = rw (eqb-turn p.low (smaller Q c), eqb-turn p.high (larger Q c)) (go (eqb (smaller Q c) p.low))
    where
      more : (t : Bool) → map place_of (cons_if t c (edge_only l)) ≡ cons_if t (place_of c) (map place_of (edge_only l))
      more true = refl
      more false = refl

      go : (s : Bool) → map place_of (bucket (larger Q) p.high (cons_if s c (bucket (smaller Q) p.low l))) ≡ cons_if (s && eqb (larger Q c) p.high) (place_of c) (map place_of (edge_only l))
      go true = more (eqb (larger Q c) p.high)
      go false = refl

  -- the test of corner j of quad q
  here : (q j c : ℕ) (x y : ℕ) → from Q c ≡ x → to Q c ≡ y → c / 4 ≡ q → c % 4 ≡ j → (l : List Place)
      → cons_if (eqb p.low (smaller Q c) && eqb p.high (larger Q c)) (place_of c) l ≡ cons_if (same_pair p (pair x y)) (record { quad_no = q; side_no = j }) l
  unfolding smaller larger
  here q j c x y ex ey eq ej l = rw (ex, ey, eq, ej)

  at_place : (c d : ℕ) → c ≡ d → get_or Q c 0 ≡ get_or Q d 0
  at_place c d e = ap (λ (x : ℕ). get_or Q x 0) e

  one-quad : (q : ℕ) → map place_of (edge_only (corners_of q)) ≡ places p q (quad_at Q q ∷ [])
  unfolding bucket
  one-quad q =
      only-cons (4 * q) ((4 * q + 1) ∷ (4 * q + 2) ∷ (4 * q + 3) ∷ [])
      ∙ here q 0 (4 * q) (corner Q q 0) (corner Q q 1) (at_place _ _ (omega arith)) (at_place _ _ (omega arith)) (omega arith) (omega arith) _
      ∙ ap (cons_if (same_pair p (pair (corner Q q 0) (corner Q q 1))) (record { quad_no = q; side_no = 0 }))
      (only-cons (4 * q + 1) ((4 * q + 2) ∷ (4 * q + 3) ∷ [])
      ∙ here q 1 (4 * q + 1) (corner Q q 1) (corner Q q 2) refl (at_place _ _ (omega arith)) (omega arith) (omega arith) _
      ∙ ap (cons_if (same_pair p (pair (corner Q q 1) (corner Q q 2))) (record { quad_no = q; side_no = 1 }))
      (only-cons (4 * q + 2) ((4 * q + 3) ∷ [])
      ∙ here q 2 (4 * q + 2) (corner Q q 2) (corner Q q 3) refl (at_place _ _ (omega arith)) (omega arith) (omega arith) _
      ∙ ap (cons_if (same_pair p (pair (corner Q q 2) (corner Q q 3))) (record { quad_no = q; side_no = 2 }))
      (only-cons (4 * q + 3) []
      ∙ here q 3 (4 * q + 3) (corner Q q 3) (corner Q q 0) refl (at_place _ _ (omega arith)) (omega arith) (omega arith) _)))

  pub corners-places : (nq : ℕ) → map place_of (edge_corners Q nq p) ≡ places p 0 (quads_of nq Q)
  unfolding bucket tabulate quads_of
  corners-places zero = refl
  corners-places (suc n) =
      let z : n ≡ 0 + length (quads_of n Q) = omega (arith, length-quads n Q) in
      ap (λ (l : List ℕ). map place_of (edge_only l)) (tab-four n)
      ∙ ap (map place_of) (only-append (all_corners n) (corners_of n))
      ∙ map-append place_of (edge_only (all_corners n)) (edge_only (corners_of n))
      ∙ ap₂ (λ (l m : List Place). l ++ m) (corners-places n) (one-quad n ∙ ap (λ (k : ℕ). places p k (quad_at Q n ∷ [])) z)
      ∙ sym (ap (places p 0) (quads-suc n Q) ∙ places-append p 0 (quads_of n Q) (quad_at Q n ∷ []))

-- The quads of an edge and of a point, by the corners of a flat list. Assumes nothing.
use Prim.Native.Nat.{ℕ, zero, suc, ◌+◌, ◌*◌, ◌/◌, ◌%◌, ◌≤◌, ◌<◌, min, max}
use mathlib.Core.Path.{◌≡◌, refl, sym, ap, ◌∙◌}
use mathlib.Core.Bool.{Bool, true, false, cond, ◌&&◌}
use mathlib.Core.List.{List, [], ◌∷◌, ◌++◌, map, map-append, append-nil, append_assoc}
use native.Mathlib.Omega.{arith}
use lib.ListN.{length, get_or, replicate}
use lib.Dec.{eqb}
use Rattle.lists.specs.Sort.{tabulate, itself, cons_if, bucket, keep}
use Rattle.lists.proofs.Laws.{eq-or-ne, lt-or-le, length-tab, tab-add, keep_append}
use Rattle.rule_sheet.specs.Quads.{Quad, num, is, uses}
use Rattle.rule_sheet.specs.Flat.{quad_at, quads_of}
use Rattle.sheet.specs.Flat.{from}
use Rattle.rule_sheet.specs.Edges.{pair}
use Rattle.sheet.specs.Edges.{smaller, larger, all_corners, point_corners, edge_corners}
use Rattle.rule_finer.specs.Smoothed.{timed, sides, edge_quads, point_quads}
use borrow.Author.Tests.{eq-eqb, ne_eqb}
use mathlib.Core.Logic.{⊎_elim}

-- the quad of a corner
abbrev pub quad_of : ℕ → ℕ
quad_of c = c / 4

timed-append : (f : Quad → ℕ) (i : ℕ) (S T : List Quad) → timed f i (S ++ T) ≡ timed f i S ++ timed f (i + length S) T
timed-append f i [] T = let e : i + 0 ≡ i = omega arith in rw e
timed-append f i (q ∷ S) T =
    let e : suc i + length S ≡ i + suc (length S) = omega arith in
    rw (timed-append f (suc i) S T, e) (sym (append_assoc (replicate (f q) i) (timed f (suc i) S) (timed f (i + suc (length S)) T)))

-- the corners of a quad that pass a test, and the test's count
four-kept : (t : ℕ → Bool) (n : ℕ) → map quad_of (keep t ((4 * n) ∷ (4 * n + 1) ∷ (4 * n + 2) ∷ (4 * n + 3) ∷ []))
    ≡ replicate (num (t (4 * n)) + (num (t (4 * n + 1)) + (num (t (4 * n + 2)) + num (t (4 * n + 3))))) n
four-kept t n = go (t (4 * n)) (t (4 * n + 1)) (t (4 * n + 2)) (t (4 * n + 3))
  where
    a : 4 * n / 4 ≡ n
    a = omega arith

    b : (4 * n + 1) / 4 ≡ n
    b = omega arith

    c : (4 * n + 2) / 4 ≡ n
    c = omega arith

    d : (4 * n + 3) / 4 ≡ n
    d = omega arith

    go : (p q r s : Bool) → map quad_of (cons_if p (4 * n) (cons_if q (4 * n + 1) (cons_if r (4 * n + 2) (cons_if s (4 * n + 3) [])))) ≡ replicate (num p + (num q + (num r + num s))) n
    go true true true true = rw (a, b, c, d)
    go true true true false = rw (a, b, c)
    go true true false true = rw (a, b, d)
    go true true false false = rw (a, b)
    go true false true true = rw (a, c, d)
    go true false true false = rw (a, c)
    go true false false true = rw (a, d)
    go true false false false = rw a
    go false true true true = rw (b, c, d)
    go false true true false = rw (b, c)
    go false true false true = rw (b, d)
    go false true false false = rw b
    go false false true true = rw (c, d)
    go false false true false = rw c
    go false false false true = rw d
    go false false false false = refl

-- a weight that counts the corners that pass a test
module _ (Q : List ℕ) (f : Quad → ℕ) (t : ℕ → Bool) (counts : (q : ℕ) → f (quad_at Q q) ≡ num (t (4 * q)) + (num (t (4 * q + 1)) + (num (t (4 * q + 2)) + num (t (4 * q + 3))))) where
  pub timed-flat : (n : ℕ) → timed f 0 (quads_of n Q) ≡ map quad_of (keep t (all_corners n))
  unfolding quads_of tabulate
  timed-flat zero = refl
  timed-flat (suc n) =
      let e : 4 * suc n ≡ 4 * n + 4 = omega arith in
      let z : 4 * n + 0 ≡ 4 * n = omega arith in
      let y : 0 + n ≡ n = omega arith in
      rw (timed-append f 0 (tabulate (quad_at Q) n) (quad_at Q n ∷ []), timed-flat n, length-tab (quad_at Q) n, counts n, append-nil, e, tab-add itself (4 * n) 4, keep_append t (tabulate itself (4 * n)), map-append quad_of (keep t (tabulate itself (4 * n))), z, y)
      (ap (λ (l : List ℕ). map quad_of (keep t (tabulate itself (4 * n))) ++ l) (sym (four-kept t n)))

-- ---- the quads at a point

bucket-keep : (key : ℕ → ℕ) (k : ℕ) (xs : List ℕ) → bucket key k xs ≡ keep (λ x. eqb (key x) k) xs
unfolding bucket
bucket-keep key k [] = refl
bucket-keep key k (x ∷ xs) = rw (bucket-keep key k xs)

pub num-cond : (b : Bool) → cond b 1 0 ≡ num b
num-cond true = refl
num-cond false = refl

pub point-quads : (n : ℕ) (Q : List ℕ) (v : ℕ) → point_quads (quads_of n Q) v ≡ map quad_of (point_corners Q n v)
unfolding point_quads
point-quads n Q v = timed-flat Q (uses v) (λ c. eqb (from Q c) v) counts n ∙ ap (map quad_of) (sym (bucket-keep (from Q) v (all_corners n)))
  where
    counts : (q : ℕ) → uses v (quad_at Q q) ≡ num (eqb (from Q (4 * q)) v) + (num (eqb (from Q (4 * q + 1)) v) + (num (eqb (from Q (4 * q + 2)) v) + num (eqb (from Q (4 * q + 3)) v)))
    counts q =
        let z : 4 * q + 0 ≡ 4 * q = omega arith in
        rw (z, num-cond (eqb (from Q (4 * q)) v), num-cond (eqb (from Q (4 * q + 1)) v), num-cond (eqb (from Q (4 * q + 2)) v), num-cond (eqb (from Q (4 * q + 3)) v))

-- ---- the quads of an edge

-- not both equations hold
both-no : (m a n b : ℕ) → (m ≡ a → n ≡ b → ⊥) → (eqb m a && eqb n b) ≡ false
both-no m a n b h = ⊎_elim
    (λ (e : m ≡ a). rw (eq-eqb m a e) (ne_eqb n b (h e)))
    (λ (ne : m ≡ a → ⊥). rw (ne_eqb m a ne))
    (eq-or-ne m a)

-- a corner from x to y is one of the edge of a and b
corner-weight : (x y a b : ℕ) → a < b → cond (eqb x a) (is b y) 0 + cond (eqb x b) (is a y) 0 ≡ num (eqb (min x y) a && eqb (max x y) b)
corner-weight x y a b h = ⊎_elim
    (λ (xa : x ≡ a). ⊎_elim
    (λ (yb : b ≡ y).
    let lo : min x y ≡ a = omega arith in
    let hi : max x y ≡ b = omega arith in
    rw (eq-eqb x a xa, ne_eqb x b (λ e. omega arith), eq-eqb b y yb, eq-eqb (min x y) a lo, eq-eqb (max x y) b hi))
    (λ (yb : b ≡ y → ⊥).
    rw (eq-eqb x a xa, ne_eqb x b (λ e. omega arith), ne_eqb b y yb, both-no (min x y) a (max x y) b (λ e f. yb (omega arith))))
    (eq-or-ne b y))
    (λ (xa : x ≡ a → ⊥). ⊎_elim
    (λ (xb : x ≡ b). ⊎_elim
    (λ (ya : a ≡ y).
    let lo : min x y ≡ a = omega arith in
    let hi : max x y ≡ b = omega arith in
    rw (ne_eqb x a xa, eq-eqb x b xb, eq-eqb a y ya, eq-eqb (min x y) a lo, eq-eqb (max x y) b hi))
    (λ (ya : a ≡ y → ⊥).
    rw (ne_eqb x a xa, eq-eqb x b xb, ne_eqb a y ya, both-no (min x y) a (max x y) b (λ e f. ya (omega arith))))
    (eq-or-ne a y))
    (λ (xb : x ≡ b → ⊥). rw (
      ne_eqb x a xa,
      ne_eqb x b xb,
      both-no (min x y) a (max x y) b (λ e f. ⊎_elim
          (λ (g : x < y). xa (omega arith))
          (λ (g : y ≤ x). xb (omega arith))
          (lt-or-le x y)),
    ))
    (eq-or-ne x b))
    (eq-or-ne x a)

bucket-both : (f g : ℕ → ℕ) (a b : ℕ) (xs : List ℕ) → bucket g b (bucket f a xs) ≡ keep (λ x. eqb (f x) a && eqb (g x) b) xs
unfolding bucket
bucket-both f g a b [] = refl
bucket-both f g a b (x ∷ xs) = go (eqb (f x) a) (bucket-both f g a b xs)
  where
    go : (s : Bool) → bucket g b (bucket f a xs) ≡ keep (λ y. eqb (f y) a && eqb (g y) b) xs
        → bucket g b (cons_if s x (bucket f a xs)) ≡ cons_if (s && eqb (g x) b) x (keep (λ y. eqb (f y) a && eqb (g y) b) xs)
    go true e = rw e
    go false e = e

gather-four : (p q r s e f g h w x y z : ℕ) → p + e ≡ w → q + f ≡ x → r + g ≡ y → s + h ≡ z → p + (q + (r + s)) + (e + (f + (g + h))) ≡ w + (x + (y + z))
gather-four p q r s e f g h w x y z a b c d = omega arith

-- the quads of an edge are those of its corners
pub edge-quads : (n : ℕ) (Q : List ℕ) (a b : ℕ) → a < b → edge_quads (quads_of n Q) a b ≡ map quad_of (edge_corners Q n (pair a b))
unfolding edge_quads smaller larger
edge-quads n Q a b h =
    let lo : min a b ≡ a = omega arith in
    let hi : max a b ≡ b = omega arith in
    timed-flat Q (sides a b) (λ c. eqb (smaller Q c) a && eqb (larger Q c) b) counts n ∙ rw (lo, hi) (ap (map quad_of) (sym (bucket-both (smaller Q) (larger Q) a b (all_corners n))))
  where
    hit : ℕ → ℕ → ℕ
    hit x y = cond (eqb x a) (is b y) 0 + cond (eqb x b) (is a y) 0

    at-corner : (q j k : ℕ) → (4 * q + j) / 4 * 4 + (4 * q + j + 1) % 4 ≡ 4 * q + k → hit (get_or Q (4 * q + j) 0) (get_or Q (4 * q + k) 0) ≡ num (eqb (smaller Q (4 * q + j)) a && eqb (larger Q (4 * q + j)) b)
    at-corner q j k e = rw e (corner-weight (get_or Q (4 * q + j) 0) (get_or Q (4 * q + k) 0) a b h)

    counts : (q : ℕ) → sides a b (quad_at Q q) ≡ num (eqb (smaller Q (4 * q)) a && eqb (larger Q (4 * q)) b) + (num (eqb (smaller Q (4 * q + 1)) a && eqb (larger Q (4 * q + 1)) b) + (num (eqb (smaller Q (4 * q + 2)) a && eqb (larger Q (4 * q + 2)) b) + num (eqb (smaller Q (4 * q + 3)) a && eqb (larger Q (4 * q + 3)) b)))
    counts q =
        let z : 4 * q + 0 ≡ 4 * q = omega arith in
        gather-four _ _ _ _ _ _ _ _ _ _ _ _ (at-corner q 0 1 (omega arith) ∙ ap (λ (c : ℕ). num (eqb (smaller Q c) a && eqb (larger Q c) b)) z) (at-corner q 1 2 (omega arith)) (at-corner q 2 3 (omega arith)) (at-corner q 3 0 (omega arith))

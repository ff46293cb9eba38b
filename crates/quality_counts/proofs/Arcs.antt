-- Sums over arcs, rounds and lists of pairs. Assumes nothing.
use Prim.Native.Nat.{ℕ, ◌+◌, ◌≤◌, ◌<◌}
use mathlib.Core.Path.{◌≡◌, refl, sym}
use mathlib.Core.Bool.{Bool, true, false, cond, ◌&&◌}
use mathlib.Core.Logic.{⊎_elim}
use mathlib.Core.List.{List, [], ◌∷◌, ◌++◌}
use native.Mathlib.Omega.{arith}
use lib.Dec.{eqb}
use lib.ListN.{length}
use borrow.Author.Tests.{eqb-true, eq-eqb, ne_eqb}
use Rattle.lists.proofs.Laws.{eq-or-ne, lt-or-le}
use Rattle.rule_sheet.specs.Quads.{Quad, quad, num, is, sum, side}
use Rattle.rule_sheet.specs.Closed.{ind, arc, at_point}
use Rattle.edges.proofs.Corners.{pos-split, is_positive}
use Rattle.edges.proofs.Counting.{num-le}

-- ---- one pair

pub ind-positive : (x y p m : ℕ) → 0 < ind x y p m → (p ≡ x) × (m ≡ y)
ind-positive x y p m h = go (eqb p x) (eqb m y) (eqb-true p x) (eqb-true m y) h
  where
    go : (a b : Bool) → (a ≡ true → p ≡ x) → (b ≡ true → m ≡ y) → 0 < num (a && b) → (p ≡ x) × (m ≡ y)
    go true true f g h = (f refl, g refl)
    go true false f g h = absurd (omega arith)
    go false b f g h = absurd (omega arith)

pub ind-same : (x y : ℕ) → ind x y x y ≡ 1
ind-same x y = rw (eq-eqb x x refl, eq-eqb y y refl)

pub ind-first : (x y p m : ℕ) → ind x y p m ≤ is x p
ind-first x y p m = ⊎_elim
    (λ (h : 0 < ind x y p m). let e = (ind-positive x y p m h).0 in rw (eq-eqb x p (sym e)) (num-le (eqb p x && eqb m y)))
    (λ (h : ind x y p m ≤ 0). omega arith)
    (lt-or-le 0 (ind x y p m))

pub ind-second : (x y p m : ℕ) → ind x y p m ≤ is y m
ind-second x y p m = ⊎_elim
    (λ (h : 0 < ind x y p m). let e = (ind-positive x y p m h).1 in rw (eq-eqb y m (sym e)) (num-le (eqb p x && eqb m y)))
    (λ (h : ind x y p m ≤ 0). omega arith)
    (lt-or-le 0 (ind x y p m))

-- ---- arcs

pub arc-more : (g : ℕ → ℕ → ℕ) (u : ℕ) (ys : List ℕ) (z t : ℕ) → arc g u (ys ++ (z ∷ [])) t ≡ arc g u ys z + g z t
arc-more g u [] z t = refl
arc-more g u (y ∷ ys) z t = omega (arith, arc-more g y ys z t)

-- an arc starts from its points but the last, and leads to its points but the first
pub arc-from : (h : ℕ → ℕ) (u : ℕ) (us : List ℕ) (z : ℕ) → arc (λ p m. h p) u us z ≡ h u + sum h us
arc-from h u [] z = omega arith
arc-from h u (y ∷ ys) z = omega (arith, arc-from h y ys z)

pub arc-to : (h : ℕ → ℕ) (u : ℕ) (us : List ℕ) (z : ℕ) → arc (λ p m. h m) u us z ≡ sum h us + h z
arc-to h u [] z = omega arith
arc-to h u (y ∷ ys) z = omega (arith, arc-to h y ys z)

pub arc-le : (f g : ℕ → ℕ → ℕ) → ((p m : ℕ) → f p m ≤ g p m) → (u : ℕ) (us : List ℕ) (z : ℕ) → arc f u us z ≤ arc g u us z
arc-le f g l u [] z = l u z
arc-le f g l u (y ∷ ys) z = omega (arith, l u y, arc-le f g l y ys z)

pub arc-plus : (f g : ℕ → ℕ → ℕ) (u : ℕ) (us : List ℕ) (z : ℕ) → arc (λ p m. f p m + g p m) u us z ≡ arc f u us z + arc g u us z
arc-plus f g u [] z = refl
arc-plus f g u (y ∷ ys) z = omega (arith, arc-plus f g y ys z)

-- ---- lists of pairs

-- the point before a corner and the point after it
pub record Ends : Type 0 where
  pub before : ℕ
  pub after : ℕ

abbrev pub pair_sum : (ℕ → ℕ → ℕ) → List Ends → ℕ
pair_sum g l = sum (λ (x : Ends). g x.before x.after) l

abbrev put_if : Bool → ℕ → ℕ → List Ends → List Ends
put_if true p m l = record { before = p; after = m } ∷ l
put_if false p m l = l

-- the corners at v
abbrev pub corners_of : ℕ → List Quad → List Ends
corners_of v [] = []
corners_of v (quad a b c d ∷ S) = put_if (eqb a v) d b (put_if (eqb b v) a c (put_if (eqb c v) b d (put_if (eqb d v) c a (corners_of v S))))

put-sum : (g : ℕ → ℕ → ℕ) (t : Bool) (p m : ℕ) (l : List Ends) → pair_sum g (put_if t p m l) ≡ cond t (g p m) 0 + pair_sum g l
put-sum g true p m l = refl
put-sum g false p m l = omega arith

pub corners-sum : (g : ℕ → ℕ → ℕ) (v : ℕ) (S : List Quad) → at_point S v g ≡ pair_sum g (corners_of v S)
corners-sum g v [] = refl
corners-sum g v (quad a b c d ∷ S) =
    let l₄ = corners_of v S in
    let l₃ = put_if (eqb d v) c a l₄ in
    let l₂ = put_if (eqb c v) b d l₃ in
    let l₁ = put_if (eqb b v) a c l₂ in
    omega (arith, corners-sum g v S, put-sum g (eqb d v) c a l₄, put-sum g (eqb c v) b d l₃, put-sum g (eqb b v) a c l₂, put-sum g (eqb a v) d b l₁)

pub pair-le : (f g : ℕ → ℕ → ℕ) → ((p m : ℕ) → f p m ≤ g p m) → (l : List Ends) → pair_sum f l ≤ pair_sum g l
pair-le f g h [] = omega arith
pair-le f g h (x ∷ l) = omega (arith, h x.before x.after, pair-le f g h l)

pub pair-plus : (f g : ℕ → ℕ → ℕ) (l : List Ends) → pair_sum (λ p m. f p m + g p m) l ≡ pair_sum f l + pair_sum g l
pair-plus f g [] = refl
pair-plus f g (x ∷ l) = omega (arith, pair-plus f g l)

-- a pair that begins at x is taken out
pub record Taken (x : ℕ) (l : List Ends) : Type 0 where
  pub after : ℕ
  pub rest : List Ends
  pub shorter : length rest + 1 ≡ length l
  pub same : (g : ℕ → ℕ → ℕ) → pair_sum g l ≡ g x after + pair_sum g rest

pub take-from : (x : ℕ) (l : List Ends) → 0 < pair_sum (λ p m. is x p) l → Taken x l
take-from x [] h = absurd (omega arith)
take-from x (c ∷ l) h = ⊎_elim
    (λ (k : 0 < is x c.before).
    let e : x ≡ c.before = is_positive x c.before k in
    record { after = c.after; rest = l; shorter = omega arith; same = λ g. rw e refl })
    (λ (k : 0 < pair_sum (λ p m. is x p) l).
    let t = take-from x l k in
    record { after = t.after; rest = c ∷ t.rest; shorter = omega (arith, t.shorter); same = λ g. omega (arith, t.same g) })
    (pos-split (is x c.before) (pair_sum (λ p m. is x p) l) h)

-- ---- a side is counted at its start and at its end alike

flip : (u v a b : ℕ) → cond (eqb b v) (is u a) 0 ≡ cond (eqb a u) (is v b) 0
flip u v a b = ⊎_elim
    (λ (p : b ≡ v). ⊎_elim
    (λ (q : a ≡ u). rw (eq-eqb b v p, eq-eqb a u q, eq-eqb u a (sym q), eq-eqb v b (sym p)))
    (λ (q : a ≡ u → ⊥). rw (eq-eqb b v p, ne_eqb a u q, ne_eqb u a (λ e. q (sym e))))
    (eq-or-ne a u))
    (λ (p : b ≡ v → ⊥). ⊎_elim
    (λ (q : a ≡ u). rw (ne_eqb b v p, eq-eqb a u q, ne_eqb v b (λ e. p (sym e))))
    (λ (q : a ≡ u → ⊥). rw (ne_eqb b v p, ne_eqb a u q))
    (eq-or-ne a u))
    (eq-or-ne b v)

pub side-end : (S : List Quad) (u v : ℕ) → at_point S v (λ p m. is u p) ≡ side S u v
side-end [] u v = refl
side-end (quad a b c d ∷ S) u v = omega (arith, flip u v a b, flip u v b c, flip u v c d, flip u v d a, side-end S u v)

-- A ring by counts is a ring by weights: where each pair (before, after) stands as often at v as in the round, every
-- weight has the same sum. Assumes nothing.
use mathlib.Core.Path.{◌≡◌, refl, ap₂, sym, ◌∙◌}
use mathlib.Core.Logic.{◌⊎◌, inl, inr}
use Prim.Native.Nat.{ℕ, ◌+◌, ◌≤◌, ◌<◌}
use mathlib.Core.List.{List, [], ◌∷◌}
use mathlib.Core.Bool.{Bool, true, false, cond}
use native.Mathlib.Omega.{arith}
use lib.Dec.{eqb}
use lib.ListN.{length}
use Rattle.rule_sheet.specs.Closed.{ind, at_point, arc, cyc, Ring}
use Rattle.rule_sheet.specs.Quads.{Quad, quad, is, sum}
use Rattle.rule_sheet.proofs.Base.{ind-same, ind-pos, pos-split}
use Rattle.lists.specs.Sort.{cons_if}

-- a corner at a point: the point before it and the one after it
abbrev Corner : Type 0
Corner = record { before : ℕ; after : ℕ }

abbrev pair_sum : (ℕ → ℕ → ℕ) → List Corner → ℕ
pair_sum g l = sum (λ (x : Corner). g x.before x.after) l

abbrev corners_at : ℕ → List Quad → List Corner
corners_at v [] = []
corners_at v (quad a b c d ∷ S) =
    cons_if (eqb a v) (record { before = d; after = b }) (cons_if (eqb b v) (record { before = a; after = c }) (cons_if (eqb c v) (record { before = b; after = d }) (cons_if (eqb d v) (record { before = c; after = a }) (corners_at v S))))

cons-sum : (g : ℕ → ℕ → ℕ) (b : Bool) (x : Corner) (l : List Corner) → pair_sum g (cons_if b x l) ≡ cond b (g x.before x.after) 0 + pair_sum g l
cons-sum g true x l = refl
cons-sum g false x l = omega arith

at-pairs : (g : ℕ → ℕ → ℕ) (v : ℕ) (S : List Quad) → at_point S v g ≡ pair_sum g (corners_at v S)
at-pairs g v [] = refl
at-pairs g v (quad a b c d ∷ S) = omega (
  arith,
  at-pairs g v S,
  cons-sum g (eqb d v) (record { before = c; after = a }) (corners_at v S),
  cons-sum g (eqb c v) (record { before = b; after = d }) (cons_if (eqb d v) (record { before = c; after = a }) (corners_at v S)),
  cons-sum g (eqb b v) (record { before = a; after = c }) (cons_if (eqb c v) (record { before = b; after = d }) (cons_if (eqb d v) (record { before = c; after = a }) (corners_at v S))),
  cons-sum g (eqb a v) (record { before = d; after = b }) (cons_if (eqb b v) (record { before = a; after = c }) (cons_if (eqb c v) (record { before = b; after = d }) (cons_if (eqb d v) (record { before = c; after = a }) (corners_at v S)))),
)

abbrev arc_pairs : ℕ → List ℕ → ℕ → List Corner
arc_pairs u [] z = record { before = u; after = z } ∷ []
arc_pairs u (y ∷ ys) z = record { before = u; after = y } ∷ arc_pairs y ys z

arc-sum : (g : ℕ → ℕ → ℕ) (u : ℕ) (us : List ℕ) (z : ℕ) → arc g u us z ≡ pair_sum g (arc_pairs u us z)
arc-sum g u [] z = omega arith
arc-sum g u (y ∷ ys) z = omega (arith, arc-sum g y ys z)

abbrev cyc_pairs : List ℕ → List Corner
cyc_pairs [] = []
cyc_pairs (u ∷ us) = arc_pairs u us u

cyc-sum : (g : ℕ → ℕ → ℕ) (w : List ℕ) → cyc g w ≡ pair_sum g (cyc_pairs w)
cyc-sum g [] = refl
cyc-sum g (u ∷ us) = arc-sum g u us u

-- take one occurrence out
find : (x y : ℕ) (l : List Corner) → 0 < pair_sum (ind x y) l → (r : List Corner) × ((g : ℕ → ℕ → ℕ) → pair_sum g l ≡ g x y + pair_sum g r)
find x y [] h = absurd (omega arith)
find x y (c ∷ l) h = go (pos-split (ind x y c.before c.after) (pair_sum (ind x y) l) h) (find x y l)
  where
    go : (0 < ind x y c.before c.after) ⊎ (0 < pair_sum (ind x y) l) → (0 < pair_sum (ind x y) l → (r : List Corner) × ((g : ℕ → ℕ → ℕ) → pair_sum g l ≡ g x y + pair_sum g r))
        → (r : List Corner) × ((g : ℕ → ℕ → ℕ) → pair_sum g (c ∷ l) ≡ g x y + pair_sum g r)
    go (inl k) f = let e = ind-pos x y c.before c.after k in (l, (λ g. ap₂ (λ a b. g a b + pair_sum g l) e.0 e.1))
    go (inr k) f = let t = f k in (c ∷ t.0, (λ g. omega (arith, t.1 g)))

pub counts-sums : (l m : List Corner) → ((x y : ℕ) → pair_sum (ind x y) l ≡ pair_sum (ind x y) m) → (g : ℕ → ℕ → ℕ) → pair_sum g l ≡ pair_sum g m
counts-sums [] [] h g = refl
counts-sums [] (c ∷ m) h g = absurd (omega (arith, h c.before c.after, ind-same c.before c.after))
counts-sums (c ∷ l) m h g = go (find c.before c.after m (omega (arith, h c.before c.after, ind-same c.before c.after))) (counts-sums l)
  where
    go : (r : List Corner) × ((g : ℕ → ℕ → ℕ) → pair_sum g m ≡ g c.before c.after + pair_sum g r) → ((m : List Corner) → ((x y : ℕ) → pair_sum (ind x y) l ≡ pair_sum (ind x y) m) → (g : ℕ → ℕ → ℕ) → pair_sum g l ≡ pair_sum g m) → pair_sum g (c ∷ l) ≡ pair_sum g m
    go (r, e) ih = omega (arith, e g, ih r (λ x y. omega (arith, h x y, e (ind x y))) g)

-- The same by counts: as many corners with p before v and n after it as the round has steps from p to n.
pub ring-by-counts : (S : List Quad) (v : ℕ) (w : List ℕ) → 2 ≤ length w → ((x : ℕ) → sum (is x) w ≤ 1) → ((p n : ℕ) → at_point S v (ind p n) ≡ cyc (ind p n) w) → Ring (at_point S v)
ring-by-counts S v w two apart h = record {
  round = w;
  two = two;
  apart = apart;
  same = λ g. at-pairs g v S ∙ (counts-sums (corners_at v S) (cyc_pairs w) (λ x y. sym (at-pairs (ind x y) v S) ∙ (h x y ∙ cyc-sum (ind x y) w)) g ∙ sym (cyc-sum g w));
}

pub counts-of-ring : (S : List Quad) (v : ℕ) (r : Ring (at_point S v)) (p n : ℕ) → at_point S v (ind p n) ≡ cyc (ind p n) r.round
counts-of-ring S v r p n = r.same (ind p n)

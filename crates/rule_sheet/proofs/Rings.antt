-- Surgery on one ring: cut it at a corner, take a neighbour out, put one in, join two rings, rename.
-- Assumes nothing.
use mathlib.Core.Path.{◌≡◌, refl, ap, ap₂, sym, ◌∙◌}
use mathlib.Core.Logic.{◌⊎◌, inl, inr}
use Prim.Native.Nat.{ℕ, zero, suc, ◌+◌, ◌-◌, ◌≤◌, ◌<◌}
use mathlib.Core.List.{List, [], ◌∷◌, ◌++◌, map}
use mathlib.Core.Bool.{Bool, true, false, ◌&&◌}
use native.Mathlib.Omega.{arith}
use native.Mathlib.Decide.{ℕ_discrete}
use lib.Dec.{eqb}
use lib.ListN.{length, length-append, length-map}
use Rattle.rule_sheet.specs.Closed.{ind, arc, cyc, Ring}
use Rattle.rule_sheet.specs.Quads.{num, is, sum}
use Rattle.rule_sheet.proofs.FirstUse.{is-other}
use Rattle.rule_sheet.proofs.Sums.{sum-append}
use Rattle.rule_sheet.proofs.Base.{is-self, ind-same, ind-pos, pos-split, arc-app, arc-from, cyc-from, arc-le}

-- where the pair (x, b) stands in an arc
data Found (x b u : ℕ) (us : List ℕ) (z : ℕ) : Type 0 where
  whole : u ≡ x → us ≡ [] → z ≡ b → Found x b u us z
  first : u ≡ x → (qs : List ℕ) → us ≡ b ∷ qs → Found x b u us z
  last : (ps : List ℕ) → us ≡ ps ++ x ∷ [] → z ≡ b → Found x b u us z
  inner : (ps qs : List ℕ) → us ≡ ps ++ x ∷ b ∷ qs → Found x b u us z

found-later : {x b y : ℕ} {ys : List ℕ} {z : ℕ} (u : ℕ) → Found x b y ys z → Found x b u (y ∷ ys) z
found-later {x} {b} {y} {ys} u (whole p q r) = last [] (ap₂ {C = List ℕ} (λ k l. k ∷ l) p q) r
found-later u (first p qs q) = inner [] qs (ap₂ {C = List ℕ} (λ k l. k ∷ l) p q)
found-later {y = y} u (last ps q r) = last (y ∷ ps) (ap {B = List ℕ} (λ l. y ∷ l) q) r
found-later {y = y} u (inner ps qs q) = inner (y ∷ ps) qs (ap {B = List ℕ} (λ l. y ∷ l) q)

find : (x b u : ℕ) (us : List ℕ) (z : ℕ) → 0 < arc (ind x b) u us z → Found x b u us z
find x b u [] z h = let e = ind-pos x b u z h in whole e.0 refl e.1
find x b u (y ∷ ys) z h = go (pos-split (ind x b u y) (arc (ind x b) y ys z) h) (find x b y ys z)
  where
    go : (0 < ind x b u y) ⊎ (0 < arc (ind x b) y ys z) → (0 < arc (ind x b) y ys z → Found x b y ys z) → Found x b u (y ∷ ys) z
    go (inl p) f = let e = ind-pos x b u y p in first e.0 ys (ap {B = List ℕ} (λ k. k ∷ ys) e.1)
    go (inr p) f = found-later u (f p)

-- A ring cut at the corner (x, b): from b by ys to x.
pub record Cut (R : (ℕ → ℕ → ℕ) → ℕ) (x b : ℕ) : Type 0 where
  pub way : List ℕ
  pub corners : (g : ℕ → ℕ → ℕ) → R g ≡ g x b + arc g b way x
  pub apart : (k : ℕ) → is k b + (sum (is k) way + is k x) ≤ 1

pub cut : (R : (ℕ → ℕ → ℕ) → ℕ) (x b : ℕ) → Ring R → ¬ (x ≡ b) → 0 < R (ind x b) → Cut R x b
cut R x b r ne h = go r.round r.apart r.same
  where
    loop : (u : ℕ) (us : List ℕ) → ((k : ℕ) → is k u + sum (is k) us ≤ 1) → ((g : ℕ → ℕ → ℕ) → R g ≡ arc g u us u) → Found x b u us u → Cut R x b
    loop u us a s (whole p q r) = absurd (ne (sym p ∙ r))
    loop u us a s (first p qs q) = record {
      way = qs;
      corners = λ g. s g ∙ ap₂ (λ k l. arc g k l k) p q;
      apart = λ k. omega (arith, a k, ap (is k) p, ap (sum (is k)) q);
    }
    loop u us a s (last ps q r) = record {
      way = ps;
      corners = λ g. omega (arith, s g, ap₂ (λ k l. arc g k l k) r q, arc-app g b ps x [] b);
      apart = λ k. omega (arith, a k, ap (is k) r, ap (sum (is k)) q, sum-append (is k) ps (x ∷ []));
    }
    loop u us a s (inner ps qs q) = record {
      way = qs ++ u ∷ ps;
      corners = λ g. omega (arith, s g, ap (λ l. arc g u l u) q, arc-app g u ps x (b ∷ qs) u, arc-app g b qs u ps x);
      apart = λ k. omega (arith, a k, ap (sum (is k)) q, sum-append (is k) ps (x ∷ b ∷ qs), sum-append (is k) qs (u ∷ ps));
    }

    go : (w : List ℕ) → ((k : ℕ) → sum (is k) w ≤ 1) → ((g : ℕ → ℕ → ℕ) → R g ≡ cyc g w) → Cut R x b
    go [] a s = absurd (omega (arith, s (ind x b)))
    go (u ∷ us) a s = loop u us a s (find x b u us u (omega (arith, s (ind x b))))

num-le : (b : Bool) → num b ≤ 1
num-le true = omega arith
num-le false = omega arith

pub zero_or : (n : ℕ) → (n ≡ 0) ⊎ (0 < n)
zero_or zero = inl refl
zero_or (suc n) = inr (omega arith)

pub ind-from : (b y u z : ℕ) → ind b y u z ≤ is b u
ind-from b y u z = go (zero_or (ind b y u z))
  where
    go : (ind b y u z ≡ 0) ⊎ (0 < ind b y u z) → ind b y u z ≤ is b u
    go (inl e) = omega arith
    go (inr h) = let e = ind-pos b y u z h in omega (arith, num-le (eqb u b && eqb z y), is-self b, ap (is b) e.0)

pub ind-zero : (x b u y : ℕ) → ¬ (u ≡ x) ⊎ ¬ (y ≡ b) → ind x b u y ≡ 0
ind-zero x b u y h = go (zero_or (ind x b u y))
  where
    no_both : (¬ (u ≡ x)) ⊎ (¬ (y ≡ b)) → (u ≡ x) × (y ≡ b) → ⊥
    no_both (inl n) e = n e.0
    no_both (inr n) e = n e.1

    go : (ind x b u y ≡ 0) ⊎ (0 < ind x b u y) → ind x b u y ≡ 0
    go (inl e) = e
    go (inr k) = absurd (no_both h (ind-pos x b u y k))

-- Every way out of b is counted at b.
arc-ind-from : (b y u : ℕ) (us : List ℕ) (z : ℕ) → arc (ind b y) u us z ≤ is b u + sum (is b) us
arc-ind-from b y u us z = omega (arith, arc-le (ind b y) (λ p n. is b p) (ind-from b y) u us z, arc-from (is b) u us z)

-- Take b out of a ring that has it between x and y.
pub take_out : (R R' : (ℕ → ℕ → ℕ) → ℕ) (x b y : ℕ) → ¬ (x ≡ b) → ¬ (b ≡ y) → ¬ (x ≡ y)
    → ((g : ℕ → ℕ → ℕ) → R' g + (g x b + g b y) ≡ R g + g x y) → Ring R → Ring R'
take_out R R' x b y xb by xy e r = go c.way c.corners c.apart
  where
    c : Cut R x b
    c = cut R x b r xb (omega (arith, e (ind x b), ind-same x b, ind-zero x b x y (inr (λ k. by (sym k)))))

    there : 0 < R (ind b y)
    there = omega (arith, e (ind b y), ind-same b y, ind-zero b y x y (inl xb))

    go : (way : List ℕ) → ((g : ℕ → ℕ → ℕ) → R g ≡ g x b + arc g b way x) → ((k : ℕ) → is k b + (sum (is k) way + is k x) ≤ 1) → Ring R'
    go [] s a = absurd (omega (arith, there, s (ind b y), ind-zero b y x b (inl xb), ind-zero b y b x (inr xy)))
    go (z ∷ zs) s a = record {
      round = z ∷ (zs ++ x ∷ []);
      two = omega (arith, length-append zs (x ∷ []));
      apart = λ k. omega (arith, a k, sum-append (is k) zs (x ∷ []));
      same = λ g. omega (arith, e g, s g, arc-app g z zs x [] z, ap (g b) zy, ap (g x) zy);
    }
      where
        zy : z ≡ y
        zy = (ind-pos b y b z (omega (arith, there, s (ind b y), ind-zero b y x b (inl xb), arc-ind-from b y z zs x, a b, is-self b))).1

-- a bound at one place and elsewhere is a bound everywhere
pub by_place : (f : ℕ → ℕ) (m d : ℕ) → f d ≤ m → ((k : ℕ) → ¬ (k ≡ d) → f k ≤ m) → (k : ℕ) → f k ≤ m
by_place f m d h o k = go (ℕ_discrete k d)
  where
    go : Dec (k ≡ d) → f k ≤ m
    go (yes p) = rw p h
    go (no n) = o k n

-- Put d into a ring between s and t.
put-in-cut : (R R' : (ℕ → ℕ → ℕ) → ℕ) (s d t : ℕ) → R (λ p n. is d p) ≡ 0
    → ((g : ℕ → ℕ → ℕ) → R' g + g s t ≡ R g + (g s d + g d t)) → Cut R s t → Ring R'
put-in-cut R R' s d t fresh e c = record {
  round = d ∷ t ∷ (c.way ++ s ∷ []);
  two = omega arith;
  apart = by_place (λ k. is k d + (is k t + sum (is k) (c.way ++ s ∷ []))) 1 d
      (omega (arith, is-self d, fresh, c.corners (λ p n. is d p), arc-from (is d) t c.way s, sum-append (is d) c.way (s ∷ [])))
      (λ k n. omega (arith, is-other k d n, c.apart k, sum-append (is k) c.way (s ∷ [])));
  same = λ g. omega (arith, e g, c.corners g, arc-app g t c.way s [] d);
}

pub put_in : (R R' : (ℕ → ℕ → ℕ) → ℕ) (s d t : ℕ) → ¬ (s ≡ t) → ¬ (d ≡ s) → ¬ (d ≡ t) → R (λ p n. is d p) ≡ 0
    → ((g : ℕ → ℕ → ℕ) → R' g + g s t ≡ R g + (g s d + g d t)) → Ring R → Ring R'
put_in R R' s d t st ds dt fresh e r =
    put-in-cut R R' s d t fresh e (cut R s t r st (omega (arith, e (ind s t), ind-same s t, ind-zero s t s d (inr dt), ind-zero s t d t (inl ds))))

-- Join two rings at the corners (d, b) and (b, d): they share no other neighbour.
join-cut : (R Q R' : (ℕ → ℕ → ℕ) → ℕ) (b d : ℕ) → ((x : ℕ) → ¬ (x ≡ b) → ¬ (x ≡ d) → (R (λ p n. is x p) ≡ 0) ⊎ (Q (λ p n. is x p) ≡ 0))
    → ((g : ℕ → ℕ → ℕ) → R' g + (g d b + g b d) ≡ R g + Q g) → Cut R d b → Cut Q b d → Ring R'
join-cut R Q R' b d share e c k = record {
  round = b ∷ (c.way ++ d ∷ k.way);
  two = omega (arith, length-append c.way (d ∷ k.way));
  apart = by_place all 1 b
      (omega (arith, c.apart b, k.apart b, is-self b, split b))
      (by-place' d (omega (arith, c.apart d, k.apart d, is-self d, split d))
      (λ x n m. rest x n m (share x n m)));
  same = λ g. omega (arith, e g, c.corners g, k.corners g, arc-app g b c.way d k.way b);
}
  where
    all : ℕ → ℕ
    all x = is x b + sum (is x) (c.way ++ d ∷ k.way)

    split : (x : ℕ) → sum (is x) (c.way ++ d ∷ k.way) ≡ sum (is x) c.way + (is x d + sum (is x) k.way)
    split x = sum-append (is x) c.way (d ∷ k.way)

    by-place' : (d : ℕ) → all d ≤ 1 → ((x : ℕ) → ¬ (x ≡ b) → ¬ (x ≡ d) → all x ≤ 1) → (x : ℕ) → ¬ (x ≡ b) → all x ≤ 1
    by-place' d h o x n = go (ℕ_discrete x d)
      where
        go : Dec (x ≡ d) → all x ≤ 1
        go (yes p) = rw p h
        go (no m) = o x n m

    rest : (x : ℕ) → ¬ (x ≡ b) → ¬ (x ≡ d) → (R (λ p n. is x p) ≡ 0) ⊎ (Q (λ p n. is x p) ≡ 0) → all x ≤ 1
    rest x n m (inl z) = omega (arith, is-other x b n, is-other x d m, split x, k.apart x, c.corners (λ p n. is x p), arc-from (is x) b c.way d)
    rest x n m (inr z) = omega (arith, is-other x b n, is-other x d m, split x, c.apart x, k.corners (λ p n. is x p), arc-from (is x) d k.way b)

pub join : (R Q R' : (ℕ → ℕ → ℕ) → ℕ) (b d : ℕ) → ¬ (b ≡ d) → ((x : ℕ) → ¬ (x ≡ b) → ¬ (x ≡ d) → (R (λ p n. is x p) ≡ 0) ⊎ (Q (λ p n. is x p) ≡ 0))
    → ((g : ℕ → ℕ → ℕ) → R' g + (g d b + g b d) ≡ R g + Q g) → 0 < R (ind d b) → 0 < Q (ind b d) → Ring R → Ring Q → Ring R'
join R Q R' b d bd share e h k r q = join-cut R Q R' b d share e (cut R d b r (λ p. bd (sym p)) h) (cut Q b d q bd k)

-- Rename the neighbours: no two of them get one name.
pub arc-map : (f : ℕ → ℕ) (g : ℕ → ℕ → ℕ) (u : ℕ) (us : List ℕ) (z : ℕ) → arc g (f u) (map f us) (f z) ≡ arc (λ p n. g (f p) (f n)) u us z
arc-map f g u [] z = refl
arc-map f g u (y ∷ ys) z = omega (arith, arc-map f g y ys z)

pub cyc-map : (f : ℕ → ℕ) (g : ℕ → ℕ → ℕ) (w : List ℕ) → cyc g (map f w) ≡ cyc (λ p n. g (f p) (f n)) w
cyc-map f g [] = refl
cyc-map f g (u ∷ us) = arc-map f g u us u

pub sum-map : (f h : ℕ → ℕ) (w : List ℕ) → sum h (map f w) ≡ sum (λ x. h (f x)) w
sum-map f h [] = refl
sum-map f h (x ∷ w) = ap (λ k. h (f x) + k) (sum-map f h w)

pub renamed : (R R' : (ℕ → ℕ → ℕ) → ℕ) (f : ℕ → ℕ) → ((x : ℕ) → R (λ p n. is x (f p)) ≤ 1)
    → ((g : ℕ → ℕ → ℕ) → R' g ≡ R (λ p n. g (f p) (f n))) → Ring R → Ring R'
renamed R R' f one e r = record {
  round = map f r.round;
  two = rw length-map r.two;
  apart = λ x. omega (arith, sum-map f (is x) r.round, one x, r.same (λ p n. is x (f p)), cyc-from (λ y. is x (f y)) r.round);
  same = λ g. e g ∙ (r.same (λ p n. g (f p) (f n)) ∙ sym (cyc-map f g r.round));
}

pub ring-same : (R R' : (ℕ → ℕ → ℕ) → ℕ) → ((g : ℕ → ℕ → ℕ) → R' g ≡ R g) → Ring R → Ring R'
ring-same R R' e r = record { round = r.round; two = r.two; apart = r.apart; same = λ g. e g ∙ r.same g }

-- A ring has two corners or more.
pub ring-two : (R : (ℕ → ℕ → ℕ) → ℕ) → Ring R → 2 ≤ R (λ p n. 1)
ring-two R r = omega (arith, r.two, r.same (λ p n. 1), cyc-from (λ x. 1) r.round, count r.round)
  where
    count : (w : List ℕ) → sum (λ x. 1) w ≡ length w
    count [] = refl
    count (x ∷ w) = omega (arith, count w)

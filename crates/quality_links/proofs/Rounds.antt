-- In a link whose points have two joins each, a walk comes round, and the link is connected exactly if it has passed every corner. Assumes nothing.
use Prim.Native.Nat.{ℕ, zero, suc, ◌+◌, ◌-◌, ◌≤◌, ◌<◌}
use mathlib.Core.Path.{◌≡◌, refl, sym, ap, ◌∙◌}
use mathlib.Core.Bool.{Bool, true, false, cond, ◌&&◌, ◌||◌, or-true, false≢true}
use mathlib.Core.Logic.{⊎_elim}
use mathlib.Core.List.{List, [], ◌∷◌, ◌++◌}
use native.Mathlib.Omega.{arith}
use lib.Dec.{eqb}
use lib.ListN.{length, get_or, length-append}
use borrow.Author.Tests.{ltb-true, eqb-true, eq-eqb, ne_eqb, lt-ltb}
use Rattle.lists.specs.Every.{every, some}
use Rattle.lists.proofs.Laws.{lt-or-le}
use Rattle.lists.proofs.Every.{and_left, and_right, or_split, bool_iff, every-at, every-each, some-find}
use Rattle.rule_sheet.specs.Quads.{Quad, num, is, sum, all, at, valence}
use Rattle.rule_sheet.specs.Flat.{quads_of}
use Rattle.rule_sheet.specs.Closed.{ind, arc, at_point}
use Rattle.rule_sheet.specs.Tests.{proper}
use Rattle.rule_quality.specs.Census.{degree, joined, reached, reaches, connected, none_or_two}
use Rattle.edges.proofs.Corners.{weighty, at-positive, is_same, is-other, is_positive, pos-split}
use Rattle.edges.proofs.Sides.{length-sum}
use Rattle.quality_counts.proofs.Arcs.{ind-positive, ind-first, ind-second, arc-more, arc-from, arc-to, arc-le, arc-plus, Ends, pair_sum, corners_of, corners-sum, pair-le}
use Rattle.quality_counts.proofs.Links.{reached-more, along}
use Rattle.quality_links.specs.Links.{other_end, Twos, Walkable}

-- a weight that does not tell the two ends of a join apart
abbrev pub Even : (ℕ → ℕ → ℕ) → Type 0
Even g = (p m : ℕ) → g p m ≡ g m p

-- 1 for each end of a join that is x
abbrev pub touch : ℕ → ℕ → ℕ → ℕ
touch x p m = is x p + is x m

pub touch-even : (x : ℕ) → Even (touch x)
touch-even x p m = omega arith

other-even : (x : ℕ) → Even (other_end x)
other-even x p m = omega arith

-- ---- one join taken out

pub record TakenOut (x : ℕ) (l : List Ends) : Type 0 where
  pub after : ℕ
  pub rest : List Ends
  pub shorter : length rest + 1 ≡ length l
  pub same : (g : ℕ → ℕ → ℕ) → Even g → pair_sum g l ≡ g x after + pair_sum g rest

take_out : (x : ℕ) (l : List Ends) → 0 < pair_sum (touch x) l → TakenOut x l
take_out x [] h = absurd (omega arith)
take_out x (c ∷ l) h = ⊎_elim
    (λ (k : 0 < is x c.before + is x c.after). ⊎_elim
    (λ (a : 0 < is x c.before).
    let e : x ≡ c.before = is_positive x c.before a in
    record { after = c.after; rest = l; shorter = omega arith; same = λ g v. rw e refl })
    (λ (a : 0 < is x c.after).
    let e : x ≡ c.after = is_positive x c.after a in
    record { after = c.before; rest = l; shorter = omega arith; same = λ g v. rw e (omega (arith, v c.before c.after)) })
    (pos-split (is x c.before) (is x c.after) k))
    (λ (k : 0 < pair_sum (touch x) l).
    let t = take_out x l k in
    record { after = t.after; rest = c ∷ t.rest; shorter = omega (arith, t.shorter); same = λ g v. omega (arith, t.same g v) })
    (pos-split (is x c.before + is x c.after) (pair_sum (touch x) l) h)

-- ---- the other ends

pub is_none : (x y : ℕ) (z : ℕ) → is x y ≡ 0 → cond (eqb x y) z 0 ≡ 0
is_none x y z = go (eqb x y)
  where
    go : (b : Bool) → num b ≡ 0 → cond b z 0 ≡ 0
    go true e = absurd (omega arith)
    go false e = refl

other-here : (x y : ℕ) → is x y ≡ 0 → other_end x x y ≡ y
other-here x y e = rw (eq-eqb x x refl) (omega (arith, is_none x y x e))

-- joins of other points have no other end
none_other : (x : ℕ) (l : List Ends) → pair_sum (touch x) l ≡ 0 → pair_sum (other_end x) l ≡ 0
none_other x [] e = refl
none_other x (c ∷ l) e =
    omega (arith, none_other x l (omega arith), is_none x c.before c.after (omega arith), is_none x c.after c.before (omega arith))

-- the last of u and the points of a list
abbrev pub last_of : ℕ → List ℕ → ℕ
last_of u [] = u
last_of u (y ∷ ys) = last_of y ys

last_more : (u : ℕ) (ys : List ℕ) (z : ℕ) → last_of u (ys ++ (z ∷ [])) ≡ z
last_more u [] z = refl
last_more u (y ∷ ys) z = last_more y ys z

-- an arc that meets its end only there comes to it from its last point
arc-other : (z u : ℕ) (ys : List ℕ) → is z u + sum (is z) ys ≡ 0 → arc (other_end z) u ys z ≡ last_of u ys
arc-other z u [] e = other-even z u z ∙ other-here z u (omega arith)
arc-other z u (y ∷ ys) e = omega (arith, arc-other z y ys (omega arith), is_none z u y (omega arith), is_none z y u (omega arith))

arc-touch : (x u : ℕ) (ys : List ℕ) (z : ℕ) → arc (touch x) u ys z ≡ is x u + (sum (is x) ys + sum (is x) ys) + is x z
arc-touch x u ys z = arc-plus (λ p m. is x p) (λ p m. is x m) u ys z ∙ omega (arith, arc-from (is x) u ys z, arc-to (is x) u ys z)

-- ---- the walk

-- a walk from u that has passed `count` corners at v, and is at z with `last` before
pub record Walk (S : List Quad) (v u last z count : ℕ) : Type 0 where
  pub inner : List ℕ
  pub rest : List Ends
  pub is : (g : ℕ → ℕ → ℕ) → Even g → at_point S v g ≡ arc g u inner z + pair_sum g rest
  pub last_is : last ≡ last_of u inner
  pub long : count ≡ length inner + 1
  pub left : count + length rest ≡ valence S v

-- a join of u and z taken out
record Found (u z : ℕ) (l : List Ends) : Type 0 where
  rest : List Ends
  shorter : length rest + 1 ≡ length l
  same : (g : ℕ → ℕ → ℕ) → pair_sum g l ≡ g u z + pair_sum g rest

find-join : (u z : ℕ) (l : List Ends) → 0 < pair_sum (ind u z) l → Found u z l
find-join u z [] h = absurd (omega arith)
find-join u z (c ∷ l) h = ⊎_elim
    (λ (k : 0 < ind u z c.before c.after).
    let e = ind-positive u z c.before c.after k in
    record { rest = l; shorter = omega arith; same = λ g. rw (e.0, e.1) })
    (λ (k : 0 < pair_sum (ind u z) l).
    let t = find-join u z l k in
    record { rest = c ∷ t.rest; shorter = omega (arith, t.shorter); same = λ g. omega (arith, t.same g) })
    (pos-split (ind u z c.before c.after) (pair_sum (ind u z) l) h)

-- the walk that has passed one corner
pub walk_start : {S : List Quad} {v : ℕ} (u z : ℕ) → 0 < at_point S v (ind u z) → Walk S v u u z 1
walk_start {S} {v} u z h =
    let F = find-join u z (corners_of v S) (rw (corners-sum (ind u z) v S) at h) in
    record {
      inner = [];
      rest = F.rest;
      is = λ g _. corners-sum g v S ∙ F.same g;
      last_is = refl;
      long = refl;
      left = omega (arith, F.shorter, corners-sum (λ p m. 1) v S, length-sum (corners_of v S));
    }

-- one step further, to the other point that z is joined to
pub record Step (S : List Quad) (v u last z count : ℕ) : Type 0 where
  pub after : ℕ
  pub others : at_point S v (other_end z) ≡ last + after
  pub again : Walk S v u z after (count + 1)
  pub more : count < valence S v

pub walk_step : {S : List Quad} {v u last z count : ℕ} → Twos S v → Walk S v u last z count → (z ≡ u → ⊥) → Step S v u last z count
walk_step {S} {v} {u} {last} {z} {count} two K ne =
    let d : degree S v z ≡ is z u + (sum (is z) K.inner + sum (is z) K.inner) + is z z + pair_sum (touch z) K.rest =
    K.is (touch z) (touch-even z) ∙ ap (λ (t : ℕ). t + pair_sum (touch z) K.rest) (arc-touch z u K.inner z) in
    let s = is_same z in
    let o = is-other z u ne in
    let e : degree S v z ≡ 2 = two z (omega arith) in
    let T = take_out z K.rest (omega arith) in
    let f = T.same (touch z) (touch-even z) in
    let a : is z T.after ≡ 0 = omega arith in
    let r : pair_sum (touch z) T.rest ≡ 0 = omega arith in
    let oz = other-here z T.after a in
    record {
      after = T.after;
      others = K.is (other_end z) (other-even z)
          ∙ omega (arith, T.same (other_end z) (other-even z), none_other z T.rest r, oz, arc-other z u K.inner (omega arith), K.last_is);
      again = record {
        inner = K.inner ++ (z ∷ []);
        rest = T.rest;
        is = λ g v. omega (arith, K.is g v, T.same g v, arc-more g u K.inner z T.after);
        last_is = sym (last_more u K.inner z);
        long = rw length-append (omega (arith, K.long));
        left = omega (arith, T.shorter, K.left);
      };
      more = omega (arith, T.shorter, K.left);
    }

-- ---- the end of the walk

ind-swap : (x y p m : ℕ) → ind x y p m ≡ ind y x m p
ind-swap x y p m = go (eqb p x) (eqb m y)
  where
    go : (a b : Bool) → num (a && b) ≡ num (b && a)
    go true true = refl
    go true false = refl
    go false true = refl
    go false false = refl

-- 1 for a join of x and y
abbrev join : ℕ → ℕ → ℕ → ℕ → ℕ
join x y p m = ind x y p m + ind y x p m

join-even : (x y : ℕ) → Even (join x y)
join-even x y p m = omega (arith, ind-swap x y p m, ind-swap y x p m)

or-false : (a b : Bool) → (a || b) ≡ true → a ≡ false → b ≡ true
or-false true b e f = absurd (false≢true (sym f))
or-false false b e f = e

module _ (n : ℕ) (S : List Quad) (good : all (proper n) S ≡ true) (v : ℕ) where
  -- a point with a join is one of the n points
  pub joined-below : (x : ℕ) → 0 < degree S v x → x < n
  joined-below x h =
      let W = weighty n (at v (touch x)) S good h in
      let P = at-positive v (touch x) W.before W.point W.after W.more in
      ⊎_elim
      (λ (k : 0 < is x W.before). let e = is_positive x W.before k in rw e W.before<)
      (λ (k : 0 < is x W.after). let e = is_positive x W.after k in rw e W.after<)
      (pos-split (is x W.before) (is x W.after) P.1)

  -- a point with a join has two where each of the n points has none or two
  pub twos : every (none_or_two S v) n ≡ true → Twos S v
  twos e x h =
      let t = every-at (none_or_two S v) n x e (joined-below x h) in
      eqb-true (degree S v x) 2 (or-false (eqb (degree S v x) 0) (eqb (degree S v x) 2) t (ne_eqb (degree S v x) 0 (λ z. omega arith)))

  module _ (two : Twos S v) (u : ℕ) (on : List ℕ) (rest : List Ends) (same : (g : ℕ → ℕ → ℕ) → Even g → at_point S v g ≡ arc g u on u + pair_sum g rest) where
    -- how often x is on the round
    abbrev times : ℕ → ℕ
    times x = is x u + sum (is x) on

    degree-is : (x : ℕ) → degree S v x ≡ times x + times x + pair_sum (touch x) rest
    degree-is x = same (touch x) (touch-even x) ∙ omega (arith, arc-touch x u on u)

    -- no corner beside the round meets it
    rest-none : (x : ℕ) → 0 < times x → pair_sum (touch x) rest ≡ 0
    rest-none x h = omega (arith, degree-is x, two x (omega (arith, degree-is x)))

    -- what is joined to the round is on it
    on-next : (x y : ℕ) → 0 < times x → 0 < at_point S v (join x y) → 0 < times y
    on-next x y h k = omega (
      arith,
      same (join x y) (join-even x y),
      rest-none x h,
      pair-le (join x y) (touch x) (λ p m. omega (arith, ind-first x y p m, ind-second y x p m)) rest,
      arc-le (join x y) (touch y) (λ p m. omega (arith, ind-first y x p m, ind-second x y p m)) u on u,
      arc-touch y u on u,
    )

    reached-on : (k y : ℕ) → reached S v n u k y ≡ true → 0 < times y
    unfolding reached
    reached-on zero y e = let q : u ≡ y = eqb-true u y e in rw (← q) (omega (arith, is_same u))
    reached-on (suc k) y e = ⊎_elim
        (λ (a : reached S v n u k y ≡ true). reached-on k y a)
        (λ (a : some (λ z. reached S v n u k z && joined S v z y) n ≡ true).
        let f = some-find (λ z. reached S v n u k z && joined S v z y) n a in
        let r = and_left (reached S v n u k f.i) (joined S v f.i y) f.yes in
        let j = and_right (reached S v n u k f.i) (joined S v f.i y) f.yes in
        on-next f.i y (reached-on k f.i r) (ltb-true 0 _ j))
        (or_split (reached S v n u k y) (some (λ z. reached S v n u k z && joined S v z y) n) e)

    -- in a connected link every point with a join is on the round
    all-on : connected n S v ≡ true → (y : ℕ) → 0 < degree S v y → 0 < times y
    unfolding connected
    all-on e y h =
        let du : 0 < degree S v u = omega (arith, degree-is u, is_same u) in
        let t : reaches n S v u y ≡ true = every-at (reaches n S v u) n y (every-at (λ x. every (reaches n S v x) n) n u e (joined-below u du)) (joined-below y h) in
        let a = or-false (eqb (degree S v u) 0) (eqb (degree S v y) 0 || reached S v n u (valence S v) y) t (ne_eqb (degree S v u) 0 (λ z. omega arith)) in
        reached-on (valence S v) y (or-false (eqb (degree S v y) 0) (reached S v n u (valence S v) y) a (ne_eqb (degree S v y) 0 (λ z. omega arith)))

    -- so that no corner is left beside it
    nothing_left : connected n S v ≡ true → length rest ≡ 0
    nothing_left e = go rest refl
      where
        go : (l : List Ends) → rest ≡ l → length l ≡ 0
        go [] q = refl
        go (x ∷ l) q =
            let f : pair_sum (touch x.before) rest ≡ is x.before x.before + is x.before x.after + pair_sum (touch x.before) l = rw q refl in
            let s = is_same x.before in
            let d = degree-is x.before in
            let z = rest-none x.before (all-on e x.before (omega arith)) in
            absurd (omega arith)

    -- a round through every corner
    module _ (none : (g : ℕ → ℕ → ℕ) → pair_sum g rest ≡ 0) (long : valence S v ≡ suc (length on)) where
      joins_of : (p m : ℕ) → 0 < arc (ind p m) u on u → (joined S v p m ≡ true) × (joined S v m p ≡ true)
      joins_of p m h =
          let a : 0 < at_point S v (join p m) = omega (arith, same (join p m) (join-even p m), arc-le (ind p m) (join p m) (λ x y. omega arith) u on u) in
          let b : 0 < at_point S v (join m p) = omega (arith, same (join m p) (join-even m p), arc-le (ind p m) (join m p) (λ x y. omega arith) u on u) in
          (lt-ltb 0 _ a, lt-ltb 0 _ b)

      below : (x : ℕ) → 0 < times x → x < n
      below x h = joined-below x (omega (arith, degree-is x))

      last-true : (a b : Bool) → (a || (b || true)) ≡ true
      last-true true b = refl
      last-true false true = refl
      last-true false false = refl

      all-reach : (x y : ℕ) → reaches n S v x y ≡ true
      all-reach x y = ⊎_elim
          (λ (hx : 0 < times x). ⊎_elim
          (λ (hy : 0 < times y).
          let r = along S v n u on u joins_of below x y hx hy in
          let t : reached S v n x (valence S v) y ≡ true = rw long (reached-more S v n x (length on) y r) in
          rw t (last-true (eqb (degree S v x) 0) (eqb (degree S v y) 0)))
          (λ (hy : times y ≤ 0).
          let e : degree S v y ≡ 0 = omega (arith, degree-is y, none (touch y)) in
          rw (eq-eqb (degree S v y) 0 e) (or-true (eqb (degree S v x) 0)))
          (lt-or-le 0 (times y)))
          (λ (hx : times x ≤ 0).
          let e : degree S v x ≡ 0 = omega (arith, degree-is x, none (touch x)) in
          rw (eq-eqb (degree S v x) 0 e))
          (lt-or-le 0 (times x))

      round-connected : connected n S v ≡ true
      unfolding connected
      round-connected = every-each (λ x. every (reaches n S v x) n) n (λ x _. every-each (reaches n S v x) n (λ y _. all-reach x y))

  no-rest : (l : List Ends) → length l ≡ 0 → (g : ℕ → ℕ → ℕ) → pair_sum g l ≡ 0
  no-rest [] e g = refl
  no-rest (x ∷ l) e g = absurd (omega arith)

  -- a walk that has come round has passed every corner exactly if the link is connected
  pub walk_end : {u last z count : ℕ} → Twos S v → Walk S v u last z count → z ≡ u → eqb count (valence S v) ≡ connected n S v
  walk_end {u} {last} {z} {count} two K e =
      let same : (g : ℕ → ℕ → ℕ) → Even g → at_point S v g ≡ arc g u K.inner u + pair_sum g K.rest = rw e at K.is in
      bool_iff (eqb count (valence S v)) (connected n S v)
      (λ t.
      let q : count ≡ valence S v = eqb-true count (valence S v) t in
      round-connected two u K.inner K.rest same (no-rest K.rest (omega (arith, K.left))) (omega (arith, K.long)))
      (λ c.
      let r = nothing_left two u K.inner K.rest same c in
      eq-eqb count (valence S v) (omega (arith, K.left)))

-- ---- the loop

pub record RoundTurn (np nq : ℕ) (Q : List ℕ) (v acc u : ℕ) (w : List ℕ) (last x count : ℕ) : Type 0 where
  pub in_acc : acc + x < length w
  pub le : last ≤ get_or w (acc + x) 0
  pub again : Walk (quads_of nq Q) v u x (get_or w (acc + x) 0 - last) (count + 1)
  pub more : count < valence (quads_of nq Q) v
  pub few : count < 4194304

pub round-turn : {np nq : ℕ} {Q : List ℕ} {v acc u first : ℕ} {w : List ℕ} {last x count : ℕ} → Walkable np nq Q v acc u first w → Walk (quads_of nq Q) v u last x count → (x ≡ u → ⊥)
    → RoundTurn np nq Q v acc u w last x count
round-turn {np} {nq} {Q} {v} {acc} {u} {first} {w} {last} {x} {count} B K ne =
    let S = quads_of nq Q in
    let T = walk_step B.twos K ne in
    let d : 0 < degree S v x = omega (arith, K.is (touch x) (touch-even x), arc-touch x u K.inner x, is_same x) in
    let e : get_or w (acc + x) 0 ≡ last + T.after = B.sums x d ∙ T.others in
    let g : get_or w (acc + x) 0 - last ≡ T.after = omega arith in
    record {
      in_acc = omega (arith, joined-below np S B.good v x d, B.fits);
      le = omega arith;
      again = rw g T.again;
      more = T.more;
      few = omega (arith, T.more, B.few);
    }

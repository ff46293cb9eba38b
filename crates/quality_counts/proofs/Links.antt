-- On a closed sheet the link of a point is good exactly if its quads are one ring. Assumes nothing.
use Prim.Native.Nat.{ℕ, zero, suc, ◌+◌, ◌≤◌, ◌<◌}
use mathlib.Core.Path.{◌≡◌, refl, sym, ap, ◌∙◌}
use mathlib.Core.Bool.{Bool, true, false, not, ◌&&◌, ◌||◌, or-true, false≢true}
use mathlib.Core.Logic.{◌⊎◌, inl, inr, ⊎_elim}
use mathlib.Core.List.{List, [], ◌∷◌, ◌++◌}
use native.Mathlib.Omega.{arith}
use lib.Dec.{eqb}
use lib.ListN.{length}
use borrow.Author.Tests.{ltb-true, eqb-true, eqb-false, not-true, eq-eqb, ne_eqb, lt-ltb}
use Rattle.lists.specs.Every.{every, some, count_to}
use Rattle.lists.proofs.Laws.{eq-or-ne, lt-or-le}
use Rattle.lists.proofs.Every.{and_left, and_right, or_split, every-at, every-each, some_at, some-find, count_yes, count-mono, count-on, count-zero}
use Rattle.rule_sheet.specs.Quads.{Quad, is, sum, all, at, valence, side}
use Rattle.rule_sheet.specs.Closed.{ind, arc, cyc, Ring, at_point, Closed, Rings}
use Rattle.rule_sheet.specs.Tests.{proper}
use Rattle.rule_quality.specs.Census.{degree, joined, reached, reaches, connected, none_or_two, good_link, bad_links, is_closed, tight}
use Rattle.edges.proofs.Corners.{weighty, at-positive, is_same, is-other, is_positive, pos-split}
use Rattle.quality_counts.proofs.Tight.{is-closed, closed_is}
use Rattle.edges.proofs.Sides.{length-sum}
use Rattle.quality_counts.proofs.Arcs.{ind-positive, ind-same, ind-first, ind-second, arc-more, arc-from, arc-to, arc-le, arc-plus, Ends, pair_sum, corners_of, corners-sum, pair-le, pair-plus, Taken, take-from, side-end}

-- ---- from a good link to a ring: pairs that are balanced at each point, walked from one of them

-- each point has as many pairs that begin there as pairs that end there, none or one
pub record Balanced (R : (ℕ → ℕ → ℕ) → ℕ) : Type 0 where
  pub same : (x : ℕ) → R (λ p m. is x p) ≡ R (λ p m. is x m)
  pub one : (x : ℕ) → R (λ p m. is x p) ≤ 1

-- a round that starts at u, and the pairs that are not on it
pub record Round (R : (ℕ → ℕ → ℕ) → ℕ) (u : ℕ) : Type 0 where
  pub on : List ℕ
  pub rest : List Ends
  pub is : (g : ℕ → ℕ → ℕ) → R g ≡ arc g u on u + pair_sum g rest

module _ (R : (ℕ → ℕ → ℕ) → ℕ) (B : Balanced R) (u : ℕ) where
  -- one step further, by the pair that begins at z
  further : (ys : List ℕ) (z : ℕ) (rest : List Ends) → ((g : ℕ → ℕ → ℕ) → R g ≡ arc g u ys z + pair_sum g rest) → (z ≡ u → ⊥) → Taken z rest
  further ys z rest e n =
      take-from z rest
      (omega (arith, e (λ p m. is z p), e (λ p m. is z m), B.same z, B.one z, arc-from (is z) u ys z, arc-to (is z) u ys z, is_same z, is-other z u n))

  -- round, or one step further and then on
  step : (ys : List ℕ) (z : ℕ) (rest : List Ends) → ((g : ℕ → ℕ → ℕ) → R g ≡ arc g u ys z + pair_sum g rest)
      → ((t : Taken z rest) → ((g : ℕ → ℕ → ℕ) → R g ≡ arc g u (ys ++ (z ∷ [])) t.after + pair_sum g t.rest) → Round R u) → Round R u
  step ys z rest e next = ⊎_elim
      (λ (q : z ≡ u). record { on = ys; rest = rest; is = λ g. e g ∙ ap (λ (x : ℕ). arc g u ys x + pair_sum g rest) q })
      (λ (n : z ≡ u → ⊥).
      let t = further ys z rest e n in
      next t (λ g. omega (arith, e g, t.same g, arc-more g u ys z t.after)))
      (eq-or-ne z u)

  walk : (k : ℕ) (ys : List ℕ) (z : ℕ) (rest : List Ends) → length rest ≤ k → ((g : ℕ → ℕ → ℕ) → R g ≡ arc g u ys z + pair_sum g rest) → Round R u
  walk zero ys z rest h e = step ys z rest e (λ t f. absurd (omega (arith, t.shorter)))
  walk (suc k) ys z rest h e = step ys z rest e (λ t f. walk k (ys ++ (z ∷ [])) t.after t.rest (omega (arith, t.shorter)) f)

module _ (R : (ℕ → ℕ → ℕ) → ℕ) (B : Balanced R) {u : ℕ} (O : Round R u) where
  -- how often x is on the round
  abbrev on_round : ℕ → ℕ
  on_round x = is x u + sum (is x) O.on

  on_one : (x : ℕ) → on_round x ≤ 1
  on_one x = omega (arith, O.is (λ p m. is x p), B.one x, arc-from (is x) u O.on u)

  -- no pair beside the round begins or ends on it
  rest-none : (x : ℕ) → 0 < on_round x → pair_sum (λ p m. is x p + is x m) O.rest ≡ 0
  rest-none x h = omega (
    arith,
    O.is (λ p m. is x p),
    O.is (λ p m. is x m),
    B.same x,
    B.one x,
    arc-from (is x) u O.on u,
    arc-to (is x) u O.on u,
    pair-plus (λ p m. is x p) (λ p m. is x m) O.rest,
  )

  -- what is joined to the round is on it
  on-next : (x y : ℕ) → 0 < on_round x → 0 < R (λ p m. ind x y p m + ind y x p m) → 0 < on_round y
  on-next x y h k = omega (
    arith,
    O.is (λ p m. ind x y p m + ind y x p m),
    rest-none x h,
    pair-le (λ p m. ind x y p m + ind y x p m) (λ p m. is x p + is x m) (λ p m. omega (arith, ind-first x y p m, ind-second y x p m)) O.rest,
    arc-le (λ p m. ind x y p m + ind y x p m) (λ p m. is y p + is y m) (λ p m. omega (arith, ind-first y x p m, ind-second x y p m)) u O.on u,
    arc-plus (λ p m. is y p) (λ p m. is y m) u O.on u,
    arc-from (is y) u O.on u,
    arc-to (is y) u O.on u,
  )

-- the pairs at a point of a closed sheet
module _ (n : ℕ) (S : List Quad) (good : all (proper n) S ≡ true) (v : ℕ) where
  balanced : Closed S → Balanced (at_point S v)
  unfolding Closed
  balanced c = record {
    same = λ x. ⊎_elim
        (λ (h : 0 < side S x v + side S v x). let e = c x v h in omega (arith, side-end S x v))
        (λ (h : side S x v + side S v x ≤ 0). omega (arith, side-end S x v))
        (lt-or-le 0 (side S x v + side S v x));
    one = λ x. ⊎_elim
        (λ (h : 0 < side S x v + side S v x). let e = c x v h in omega (arith, side-end S x v))
        (λ (h : side S x v + side S v x ≤ 0). omega (arith, side-end S x v))
        (lt-or-le 0 (side S x v + side S v x));
  }

  -- a neighbour is a point
  pub neighbour-below : (x : ℕ) → 0 < at_point S v (λ p m. is x p) → x < n
  neighbour-below x h =
      let W = weighty n (at v (λ p m. is x p)) S good h in
      let P = at-positive v (λ p m. is x p) W.before W.point W.after W.more in
      let e : x ≡ W.before = is_positive x W.before P.1 in
      rw e W.before<

  -- the points before and after v in a quad differ
  no-pinch : (x : ℕ) → 0 < at_point S v (ind x x) → ⊥
  no-pinch x h =
      let W = weighty n (at v (ind x x)) S good h in
      let P = at-positive v (ind x x) W.before W.point W.after W.more in
      let e = ind-positive x x W.before W.after P.1 in
      W.apart (e.0 ∙ sym e.1)

  module _ (c : Closed S) {u : ℕ} (O : Round (at_point S v) u) where
    reached-on : (k y : ℕ) → reached S v n u k y ≡ true → 0 < on_round (at_point S v) (balanced c) O y
    unfolding reached
    reached-on zero y e = let q : u ≡ y = eqb-true u y e in rw (← q) (omega (arith, is_same u))
    reached-on (suc k) y e = ⊎_elim
        (λ (a : reached S v n u k y ≡ true). reached-on k y a)
        (λ (a : some (λ z. reached S v n u k z && joined S v z y) n ≡ true).
        let f = some-find (λ z. reached S v n u k z && joined S v z y) n a in
        let r = and_left (reached S v n u k f.i) (joined S v f.i y) f.yes in
        let j = and_right (reached S v n u k f.i) (joined S v f.i y) f.yes in
        on-next (at_point S v) (balanced c) O f.i y (reached-on k f.i r) (ltb-true 0 _ j))
        (or_split (reached S v n u k y) (some (λ z. reached S v n u k z && joined S v z y) n) e)

    or-false : (a b : Bool) → (a || b) ≡ true → a ≡ false → b ≡ true
    or-false true b e f = absurd (false≢true (sym f))
    or-false false b e f = e

    -- every neighbour is on the round
    neighbour-on : connected n S v ≡ true → (y : ℕ) → 0 < at_point S v (λ p m. is y p) → 0 < on_round (at_point S v) (balanced c) O y
    unfolding connected
    neighbour-on e y h =
        let hu : 0 < at_point S v (λ p m. is u p) = omega (arith, O.is (λ p m. is u p), arc-from (is u) u O.on u, is_same u) in
        let t : reaches n S v u y ≡ true = every-at (reaches n S v u) n y (every-at (λ x. every (reaches n S v x) n) n u e (neighbour-below u hu)) (neighbour-below y h) in
        let du : 0 < degree S v u = omega (arith, corners-sum (λ p m. is u p + is u m) v S, corners-sum (λ p m. is u p) v S, pair-plus (λ p m. is u p) (λ p m. is u m) (corners_of v S)) in
        let dy : 0 < degree S v y = omega (arith, corners-sum (λ p m. is y p + is y m) v S, corners-sum (λ p m. is y p) v S, pair-plus (λ p m. is y p) (λ p m. is y m) (corners_of v S)) in
        let a = or-false (eqb (degree S v u) 0) (eqb (degree S v y) 0 || reached S v n u (valence S v) y) t (ne_eqb (degree S v u) 0 (λ z. omega arith)) in
        reached-on (valence S v) y (or-false (eqb (degree S v y) 0) (reached S v n u (valence S v) y) a (ne_eqb (degree S v y) 0 (λ z. omega arith)))

    -- so that no pair is left beside it
    nothing_left : connected n S v ≡ true → O.rest ≡ []
    nothing_left e = go O.rest refl
      where
        go : (l : List Ends) → O.rest ≡ l → O.rest ≡ []
        go [] q = q
        go (x ∷ l) q =
            let f : pair_sum (λ p m. is x.before p) O.rest ≡ is x.before x.before + pair_sum (λ p m. is x.before p) l = rw q refl in
            let h : 0 < at_point S v (λ p m. is x.before p) = omega (arith, O.is (λ p m. is x.before p), f, is_same x.before) in
            let z = rest-none (at_point S v) (balanced c) O x.before (neighbour-on e x.before h) in
            absurd (omega (arith, z, f, is_same x.before, pair-plus (λ p m. is x.before p) (λ p m. is x.before m) O.rest))

    ring_of : connected n S v ≡ true → Ring (at_point S v)
    ring_of e =
        let none = nothing_left e in
        let all-on : (g : ℕ → ℕ → ℕ) → at_point S v g ≡ arc g u O.on u = λ g. O.is g ∙ (rw none (omega arith)) in
        record {
          round = u ∷ O.on;
          two = two O.on all-on;
          apart = on_one (at_point S v) (balanced c) O;
          same = all-on;
        }
      where
        two : (us : List ℕ) → ((g : ℕ → ℕ → ℕ) → at_point S v g ≡ arc g u us u) → 2 ≤ length (u ∷ us)
        two [] f = absurd (no-pinch u (omega (arith, f (ind u u), ind-same u u)))
        two (y ∷ ys) f = omega arith

  -- a good link of a closed sheet is a ring
  pub link-ring : Closed S → good_link n S v ≡ true → Ring (at_point S v)
  unfolding good_link
  link-ring c e = go (corners_of v S) refl
    where
      used : not (eqb (valence S v) 0) ≡ true
      used = and_left (not (eqb (valence S v) 0)) (connected n S v) (and_left (not (eqb (valence S v) 0) && connected n S v) (every (none_or_two S v) n) e)

      con : connected n S v ≡ true
      con = and_right (not (eqb (valence S v) 0)) (connected n S v) (and_left (not (eqb (valence S v) 0) && connected n S v) (every (none_or_two S v) n) e)

      go : (l : List Ends) → corners_of v S ≡ l → Ring (at_point S v)
      go [] q =
          let z : valence S v ≡ 0 = corners-sum (λ p m. 1) v S ∙ (rw q refl) in
          absurd (eqb-false (valence S v) 0 (not-true _ used) z)
      go (x ∷ l) q =
          ring_of c (walk (at_point S v) (balanced c) x.before (length l) [] x.after l (omega arith) (λ g. corners-sum g v S ∙ (rw q refl))) con

-- ---- from a ring to a good link

module _ (S : List Quad) (v n : ℕ) where
  pub reached-more : (x k y : ℕ) → reached S v n x k y ≡ true → reached S v n x (suc k) y ≡ true
  unfolding reached
  reached-more x k y e = rw e

  -- one join more at the end
  reached-next : (x k z y : ℕ) → z < n → reached S v n x k z ≡ true → joined S v z y ≡ true → reached S v n x (suc k) y ≡ true
  unfolding reached
  reached-next x k z y h e j =
      let s : some (λ t. reached S v n x k t && joined S v t y) n ≡ true = some_at (λ t. reached S v n x k t && joined S v t y) n z h (rw (e, j)) in
      rw s (or-true (reached S v n x k y))

  -- one join more at the front
  reached-front : (x z k y : ℕ) → x < n → joined S v x z ≡ true → reached S v n z k y ≡ true → reached S v n x (suc k) y ≡ true
  unfolding reached
  reached-front x z zero y h j e =
      let q : z ≡ y = eqb-true z y e in
      reached-next x zero x y h (eq-eqb x x refl) (rw (← q) j)
  reached-front x z (suc k) y h j e = ⊎_elim
      (λ (a : reached S v n z k y ≡ true). reached-more x (suc k) y (reached-front x z k y h j a))
      (λ (a : some (λ t. reached S v n z k t && joined S v t y) n ≡ true).
      let f = some-find (λ t. reached S v n z k t && joined S v t y) n a in
      let r = and_left (reached S v n z k f.i) (joined S v f.i y) f.yes in
      let l = and_right (reached S v n z k f.i) (joined S v f.i y) f.yes in
      reached-next x (suc k) f.i y f.i< (reached-front x z k f.i h j r) l)
      (or_split (reached S v n z k y) (some (λ t. reached S v n z k t && joined S v t y) n) e)

  -- along an arc each point is reached from each
  pub along : (u : ℕ) (us : List ℕ) (z : ℕ)
      → ((p m : ℕ) → 0 < arc (ind p m) u us z → (joined S v p m ≡ true) × (joined S v m p ≡ true))
      → ((x : ℕ) → 0 < is x u + sum (is x) us → x < n)
      → (x y : ℕ) → 0 < is x u + sum (is x) us → 0 < is y u + sum (is y) us → reached S v n x (length us) y ≡ true
  unfolding reached
  along u [] z j b x y hx hy =
      let ex : x ≡ u = is_positive x u (omega arith) in
      let ey : y ≡ u = is_positive y u (omega arith) in
      eq-eqb x y (ex ∙ sym ey)
  along u (t ∷ us) z j b x y hx hy = go (pos-split (is x u) (is x t + sum (is x) us) hx) (pos-split (is y u) (is y t + sum (is y) us) hy) (along t us z jt bt)
    where
      bt : (x : ℕ) → 0 < is x t + sum (is x) us → x < n
      bt x h = b x (omega arith)

      jt : (p m : ℕ) → 0 < arc (ind p m) t us z → (joined S v p m ≡ true) × (joined S v m p ≡ true)
      jt p m h = j p m (omega arith)

      ut : (joined S v u t ≡ true) × (joined S v t u ≡ true)
      ut = j u t (omega (arith, ind-same u t))

      here : 0 < is t t + sum (is t) us
      here = omega (arith, is_same t)

      stay : (k : ℕ) → reached S v n x k x ≡ true
      stay zero = eq-eqb x x refl
      stay (suc k) = reached-more x k x (stay k)

      go : (0 < is x u) ⊎ (0 < is x t + sum (is x) us) → (0 < is y u) ⊎ (0 < is y t + sum (is y) us)
          → ((x y : ℕ) → 0 < is x t + sum (is x) us → 0 < is y t + sum (is y) us → reached S v n x (length us) y ≡ true) → reached S v n x (suc (length us)) y ≡ true
      go (inl a) (inl d) ih = let e : x ≡ y = is_positive x u a ∙ sym (is_positive y u d) in rw (← e) (stay (suc (length us)))
      go (inl a) (inr d) ih = let e : x ≡ u = is_positive x u a in reached-front x t (length us) y (b x hx) (rw e ut.0) (ih t y here d)
      go (inr a) (inl d) ih = let e : y ≡ u = is_positive y u d in reached-next x (length us) t y (b t (omega (arith, is_same t))) (ih x t a here) (rw e ut.1)
      go (inr a) (inr d) ih = reached-more x (length us) y (ih x y a d)

module _ (n : ℕ) (S : List Quad) (good : all (proper n) S ≡ true) (v : ℕ) where
  pub join-of : (p m : ℕ) → 0 < at_point S v (ind p m) → (joined S v p m ≡ true) × (joined S v m p ≡ true)
  join-of p m h =
      let a = corners-sum (ind p m) v S in
      let b = corners-sum (λ x y. ind p m x y + ind m p x y) v S in
      let c = corners-sum (λ x y. ind m p x y + ind p m x y) v S in
      let d = pair-plus (ind p m) (ind m p) (corners_of v S) in
      let e = pair-plus (ind m p) (ind p m) (corners_of v S) in
      let f : 0 < at_point S v (λ x y. ind p m x y + ind m p x y) = omega arith in
      let g : 0 < at_point S v (λ x y. ind m p x y + ind p m x y) = omega arith in
      (lt-ltb 0 _ f, lt-ltb 0 _ g)

  -- a ring, with its first point apart
  module _ (u : ℕ) (us : List ℕ) (same : (g : ℕ → ℕ → ℕ) → at_point S v g ≡ arc g u us u) (apart : (x : ℕ) → is x u + sum (is x) us ≤ 1) where
    twice : (x : ℕ) → degree S v x ≡ (is x u + sum (is x) us) + (is x u + sum (is x) us)
    twice x = same (λ p m. is x p + is x m) ∙ arc-plus (λ p m. is x p) (λ p m. is x m) u us u ∙ omega (arith, arc-from (is x) u us u, arc-to (is x) u us u)

    none-or-two : (x : ℕ) → none_or_two S v x ≡ true
    none-or-two x = ⊎_elim
        (λ (h : 0 < is x u + sum (is x) us). let e : degree S v x ≡ 2 = omega (arith, twice x, apart x) in rw (eq-eqb (degree S v x) 2 e) (or-true (eqb (degree S v x) 0)))
        (λ (h : is x u + sum (is x) us ≤ 0). let e : degree S v x ≡ 0 = omega (arith, twice x) in rw (eq-eqb (degree S v x) 0 e))
        (lt-or-le 0 (is x u + sum (is x) us))

    below : (x : ℕ) → 0 < is x u + sum (is x) us → x < n
    below x h = neighbour-below n S good v x (omega (arith, same (λ p m. is x p), arc-from (is x) u us u))

    all-reach : (x y : ℕ) → reaches n S v x y ≡ true
    all-reach x y = ⊎_elim
        (λ (hx : 0 < is x u + sum (is x) us). ⊎_elim
        (λ (hy : 0 < is y u + sum (is y) us).
        let r = along S v n u us u (λ p m h. join-of p m (omega (arith, same (ind p m)))) below x y hx hy in
        let l : valence S v ≡ suc (length us) = same (λ p m. 1) ∙ arc-from (λ p. 1) u us u ∙ omega (arith, length-sum us) in
        let t : reached S v n x (valence S v) y ≡ true = rw l (reached-more S v n x (length us) y r) in
        rw t (last (eqb (degree S v x) 0) (eqb (degree S v y) 0)))
        (λ (hy : is y u + sum (is y) us ≤ 0).
        let e : degree S v y ≡ 0 = omega (arith, twice y) in
        rw (eq-eqb (degree S v y) 0 e) (or-true (eqb (degree S v x) 0)))
        (lt-or-le 0 (is y u + sum (is y) us)))
        (λ (hx : is x u + sum (is x) us ≤ 0).
        let e : degree S v x ≡ 0 = omega (arith, twice x) in
        rw (eq-eqb (degree S v x) 0 e))
        (lt-or-le 0 (is x u + sum (is x) us))
      where
        last : (a b : Bool) → (a || (b || true)) ≡ true
        last true b = refl
        last false true = refl
        last false false = refl

    good_round : good_link n S v ≡ true
    unfolding good_link connected
    good_round =
        let l : valence S v ≡ suc (length us) = same (λ p m. 1) ∙ arc-from (λ p. 1) u us u ∙ omega (arith, length-sum us) in
        rw (ne_eqb (valence S v) 0 (λ e. omega arith), every-each (λ x. every (reaches n S v x) n) n (λ x _. every-each (reaches n S v x) n (λ y _. all-reach x y)), every-each (none_or_two S v) n (λ x _. none-or-two x))

  -- a ring is a good link
  pub ring-link : Ring (at_point S v) → good_link n S v ≡ true
  ring-link r = go r.round r.two r.apart r.same
    where
      go : (w : List ℕ) → 2 ≤ length w → ((x : ℕ) → sum (is x) w ≤ 1) → ((g : ℕ → ℕ → ℕ) → at_point S v g ≡ cyc g w) → good_link n S v ≡ true
      go [] h a s = absurd (omega arith)
      go (u ∷ us) h a s = good_round u us s a

-- ---- the whole sheet

count_none : (p : ℕ → Bool) (n : ℕ) → ((i : ℕ) → i < n → p i ≡ false) → count_to p n ≡ 0
count_none p n h = count-on p 0 n (omega arith) (λ i _ l. h i l) ∙ count-zero p

none-counted : (p : ℕ → Bool) (n i : ℕ) → count_to p n ≡ 0 → i < n → p i ≡ false
none-counted p n i e h = go (p i) refl
  where
    go : (b : Bool) → p i ≡ b → b ≡ false
    go true q = absurd (omega (arith, count_yes p i q, count-mono p (i + 1) n (omega arith)))
    go false q = refl

not-not : (b : Bool) → not b ≡ false → b ≡ true
not-not true e = refl
not-not false e = absurd (false≢true (sym e))

-- What `quality` finds in a sheet of good corners, and what demand 3 asks of its start: tight is Closed and Rings with every point in use.
module _ (n : ℕ) (S : List Quad) (good : all (proper n) S ≡ true) where
  -- a point in use is one of the n points
  used-below : (v : ℕ) → 0 < valence S v → v < n
  used-below v h =
      let W = weighty n (at v (λ p m. 1)) S good h in
      let P = at-positive v (λ p m. 1) W.before W.point W.after W.more in
      rw (← P.0) W.point<

  module _ (t : tight n S ≡ true) where
    no-bad-link : bad_links n S ≡ 0
    unfolding tight
    no-bad-link = eqb-true (bad_links n S) 0 (and_right (is_closed n S) (eqb (bad_links n S) 0) t)

    good-at : (v : ℕ) → v < n → good_link n S v ≡ true
    unfolding bad_links
    good-at v h = not-not _ (none-counted (λ x. not (good_link n S x)) n v no-bad-link h)

    -- a tight sheet is closed, and the quads at each point in use are one ring
    pub tight-rings : Closed S × Rings S
    unfolding tight Rings
    tight-rings =
        let c : Closed S = is-closed n S good (and_left (is_closed n S) (eqb (bad_links n S) 0) t) in
        (c, λ v h. link-ring n S good v c (good-at v (used-below v h)))

    -- and no point is without a quad
    pub tight-used : (v : ℕ) → v < n → 0 < valence S v
    unfolding good_link
    tight-used v h =
        let u = and_left (not (eqb (valence S v) 0)) (connected n S v) (and_left (not (eqb (valence S v) 0) && connected n S v) (every (none_or_two S v) n) (good-at v h)) in
        let z = eqb-false (valence S v) 0 (not-true (eqb (valence S v) 0) u) in
        omega arith

  -- a closed sheet of rings that uses every point is tight
  pub rings-tight : Closed S → Rings S → ((v : ℕ) → v < n → 0 < valence S v) → tight n S ≡ true
  unfolding tight bad_links Rings
  rings-tight c r used = rw (closed_is n S c, count_none _ n (λ v h. ap not (ring-link n S good v (r v (used v h)))))

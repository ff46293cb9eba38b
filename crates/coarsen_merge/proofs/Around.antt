-- The tests over the corners of a point are the rule's tests over all quads and all points. Assumes nothing.
use mathlib.Core.Path.{◌≡◌, refl, sym, ap, ◌∙◌}
use mathlib.Core.Logic.{◌⊎◌, inl, inr, ⊎_elim}
use mathlib.Core.Bool.{Bool, true, false, cond, not, ◌&&◌, ◌||◌, false≢true}
use Prim.Native.Nat.{ℕ, zero, suc, ◌+◌, ◌*◌, ◌/◌, ◌%◌, ◌≤◌, ◌<◌}
use mathlib.Core.List.{List}
use native.Mathlib.Omega.{arith}
use lib.Dec.{eqb}
use lib.ListN.{length, get_or}
use borrow.Author.Tests.{lt-ltb, ltb-true, eq-eqb, eqb-true}
use Rattle.lists.specs.Every.{every}
use Rattle.lists.specs.Sort.{tabulate, itself}
use Rattle.lists.proofs.Every.{and_left, and_right, every-at, every-on, every-zero, every-ext, bool_iff, or_split, some_at, some-find}
use Rattle.lists.proofs.Laws.{eq-or-ne, length-tab, get_or-tab}
use Rattle.lists.proofs.Order.{bucket-key, each-bucket, below-tab, in-bucket}
use Rattle.rule_sheet.specs.Quads.{Quad, is, num, sum, total, at, uses, side, is_edge}
use Rattle.rule_sheet.specs.Flat.{corner, quad_at, quads_of}
use Rattle.sheet.specs.Flat.{from, to, before}
use Rattle.sheet.specs.Edges.{all_corners, point_corners}
use Rattle.rule_sheet.proofs.Sums.{upto, sum-tab}
use Rattle.sheet.proofs.Flat.{total-flat, length-quads, weight}
use Rattle.incidence.specs.Corners.{Cornered}
use Rattle.incidence.specs.Marks.{hits}
use Rattle.incidence.proofs.Marks.{hits-uses, uses-find, uses-at}
use Rattle.rule_passes.specs.Choices.{none_quad}
use Rattle.rule_sheet.proofs.Base.{is-self}
use Rattle.rule_sheet.proofs.Rings.{zero_or}
use Rattle.rule_sheet.proofs.Weigh.{side-at-end}
use Rattle.rule_coarsen.specs.Coarse.{has_corner, near, share_only, no_further, near_free}
use Rattle.rule_coarsen.proofs.Visits.{near_of}
use Rattle.coarsen_merge.specs.Steps.{unmarked, quad_free, free_at, not_further, apart_from, shares_none, is_marked, used_of}

-- ---- sums over numbers

pub record Positive (f : ℕ → ℕ) (n : ℕ) : Type 0 where
  pub i : ℕ
  pub i< : i < n
  pub more : 0 < f i

pub upto-find : (f : ℕ → ℕ) (n : ℕ) → 0 < upto n f → Positive f n
upto-find f zero h = absurd (omega arith)
upto-find f (suc n) h = go (f n) refl (upto-find f n)
  where
    go : (k : ℕ) → f n ≡ k → (0 < upto n f → Positive f n) → Positive f (suc n)
    go zero e ih = let p = ih (omega arith) in record { i = p.i; i< = omega (arith, p.i<); more = p.more }
    go (suc k) e ih = record { i = n; i< = omega arith; more = omega arith }

pub upto-at : (f : ℕ → ℕ) (n i : ℕ) → i < n → f i ≤ upto n f
upto-at f zero i h = absurd (omega arith)
upto-at f (suc n) i h = ⊎_elim (λ (e : i ≡ n). rw e (omega arith)) (λ (l : i < n). omega (arith, upto-at f n i l)) (cases i n h)
  where
    cases : (i n : ℕ) → i < suc n → (i ≡ n) ⊎ (i < n)
    cases i n h = go (eq-or-ne i n)
      where
        go : (i ≡ n) ⊎ (i ≡ n → ⊥) → (i ≡ n) ⊎ (i < n)
        go (inl e) = inl e
        go (inr ne) = inr (omega arith)

-- ---- the corners of a point

pub quad-get : (nq : ℕ) (Q : List ℕ) (q : ℕ) → q < nq → get_or (quads_of nq Q) q none_quad ≡ quad_at Q q
unfolding quads_of
quad-get nq Q q h = get_or-tab (quad_at Q) nq q none_quad h

-- what holds of the quads of a point's corners holds of all quads that have the point
pub around-every : (p : ℕ → Bool) (Q : List ℕ) (nq v : ℕ)
    → every (λ t. p (get_or (point_corners Q nq v) t 0 / 4)) (length (point_corners Q nq v)) ≡ every (λ q. not (has_corner (quad_at Q q) v) || p q) nq
around-every p Q nq v = bool_iff _ _
    (λ e. every-on _ 0 nq (every-zero _) (omega arith) (λ q _ h. there e q h (has_corner (quad_at Q q) v) refl))
    (λ e. every-on _ 0 (length B) (every-zero _) (omega arith) (λ t _ h. back e t h))
  where
    B : List ℕ
    B = point_corners Q nq v

    there : every (λ t. p (get_or B t 0 / 4)) (length B) ≡ true → (q : ℕ) → q < nq → (b : Bool) → has_corner (quad_at Q q) v ≡ b → (not b || p q) ≡ true
    there e q h false k = refl
    there e q h true k =
        let H = some-find (hits B q) (length B) (hits-uses Q nq v q h ∙ k) in
        let r : get_or B H.i 0 / 4 ≡ q = eqb-true (get_or B H.i 0 / 4) q H.yes in
        ap p (sym r) ∙ every-at (λ t. p (get_or B t 0 / 4)) (length B) H.i e H.i<

    back : every (λ q. not (has_corner (quad_at Q q) v) || p q) nq ≡ true → (t : ℕ) → t < length B → p (get_or B t 0 / 4) ≡ true
    back e t h =
        let l : get_or B t 0 < 4 * nq = each-bucket 0 (λ x. x < 4 * nq) (from Q) v (all_corners nq) (below-tab (4 * nq)).each t h in
        let q< : get_or B t 0 / 4 < nq = omega arith in
        let s = sym (hits-uses Q nq v (get_or B t 0 / 4) q<) ∙ some_at (hits B (get_or B t 0 / 4)) (length B) t h (eq-eqb (get_or B t 0 / 4) (get_or B t 0 / 4) refl) in
        go (or_split (not (has_corner (quad_at Q (get_or B t 0 / 4)) v)) (p (get_or B t 0 / 4)) (every-at (λ q. not (has_corner (quad_at Q q) v) || p q) nq (get_or B t 0 / 4) e q<)) s
      where
        go : {x y : Bool} → (not x ≡ true) ⊎ (y ≡ true) → x ≡ true → y ≡ true
        go (inr k) s = k
        go {x} (inl k) s = absurd (false≢true (rw s at k))

-- ---- "and no further quad"

pub further-is : (n : ℕ) (labels Q : List ℕ) (nq f a c : ℕ)
    → every (not_further (point_corners Q nq a) Q f c) (length (point_corners Q nq a)) ≡ no_further n (quads_of nq Q) labels f a c
further-is n labels Q nq f a c = around-every (λ q. eqb q f || not (has_corner (quad_at Q q) c)) Q nq a
    ∙ every-ext _ _ nq (λ q h. rw (quad-get nq Q q h) (same (has_corner (quad_at Q q) a) (eqb q f) (has_corner (quad_at Q q) c)))
    ∙ ap (every (λ j. eqb j f || not (has_corner (get_or (quads_of nq Q) j none_quad) a && has_corner (get_or (quads_of nq Q) j none_quad) c))) (sym (length-quads nq Q))
  where
    same : (x e y : Bool) → (not x || (e || not y)) ≡ (e || not (x && y))
    same true e y = refl
    same false true y = refl
    same false false y = refl

-- from either end
pub further-turned : (n : ℕ) (S : List Quad) (labels : List ℕ) (f a c : ℕ) → no_further n S labels f c a ≡ no_further n S labels f a c
further-turned n S labels f a c = every-ext _ _ (length S) (λ j h. ap (λ b. eqb j f || not b) (turned (has_corner (get_or S j none_quad) c) (has_corner (get_or S j none_quad) a)))
  where
    turned : (x y : Bool) → (x && y) ≡ (y && x)
    turned true true = refl
    turned true false = refl
    turned false true = refl
    turned false false = refl

-- ---- not "a diagonal where a quad at either end has one", a barred corner

-- each corner of a free quad is unmarked
pub free-corner : (Q U : List ℕ) (q j : ℕ) → quad_free Q U q ≡ true → j < 4 → unmarked U (corner Q q j) ≡ true
unfolding quad_free
free-corner Q U q zero e h = and_left _ _ (and_left _ _ (and_left _ _ e))
free-corner Q U q (suc zero) e h = and_right (unmarked U (corner Q q 0)) _ (and_left _ _ (and_left _ _ e))
free-corner Q U q (suc (suc zero)) e h = and_right (unmarked U (corner Q q 0) && unmarked U (corner Q q 1)) _ (and_left _ _ e)
free-corner Q U q (suc (suc (suc zero))) e h = and_right (unmarked U (corner Q q 0) && unmarked U (corner Q q 1) && unmarked U (corner Q q 2)) _ e
free-corner Q U q (suc (suc (suc (suc j)))) e h = absurd (omega arith)

pub free-quad : (Q U : List ℕ) (q : ℕ) → ((j : ℕ) → j < 4 → unmarked U (corner Q q j) ≡ true) → quad_free Q U q ≡ true
unfolding quad_free
free-quad Q U q h = rw (h 0 (omega arith), h 1 (omega arith), h 2 (omega arith), h 3 (omega arith)) refl

pub used-get : (n : ℕ) (U : List ℕ) (v : ℕ) → v < n → get_or (used_of n U) v true ≡ is_marked U v
unfolding used_of
used-get n U v h = get_or-tab (is_marked U) n v true h

-- a quad at a or c that has v
pub record Near (Q : List ℕ) (nq a c v : ℕ) : Type 0 where
  pub q : ℕ
  pub q< : q < nq
  pub ends : (has_corner (quad_at Q q) a || has_corner (quad_at Q q) c) ≡ true
  pub has : 0 < uses v (quad_at Q q)

pub near-find : (Q : List ℕ) (nq a c v : ℕ) → near (quads_of nq Q) a c v ≡ true → Near Q nq a c v
unfolding quads_of
near-find Q nq a c v e = go (upto-find f nq (rw (sum-tab weigh (quad_at Q) nq) at (ltb-true 0 (sum weigh (tabulate (quad_at Q) nq)) e)))
  where
    weigh : Quad → ℕ
    weigh q = cond (has_corner q a || has_corner q c) (uses v q) 0

    f : ℕ → ℕ
    f i = cond (has_corner (quad_at Q i) a || has_corner (quad_at Q i) c) (uses v (quad_at Q i)) 0

    pick : (b : Bool) (k : ℕ) → 0 < cond b k 0 → (b ≡ true) × (0 < k)
    pick true k h = (refl, h)
    pick false k h = absurd (omega arith)

    go : Positive f nq → Near Q nq a c v
    go p = let k = pick _ _ p.more in record { q = p.i; q< = p.i<; ends = k.0; has = k.1 }

pub free-is : (np nq : ℕ) (labels Q U : List ℕ) (a c : ℕ) → Cornered np nq Q
    → (every (free_at (point_corners Q nq a) Q U) (length (point_corners Q nq a)) && every (free_at (point_corners Q nq c) Q U) (length (point_corners Q nq c)))
    ≡ near_free np (quads_of nq Q) labels (used_of np U) a c
free-is np nq labels Q U a c C = rw (around-every (quad_free Q U) Q nq a, around-every (quad_free Q U) Q nq c) (bool_iff _ _
    (λ e. every-on _ 0 np (every-zero _) (omega arith) (λ v _ h. there (and_left _ _ e) (and_right (every (λ q. not (has_corner (quad_at Q q) a) || quad_free Q U q) nq) _ e) v h (near (quads_of nq Q) a c v) refl))
    (λ e. rw (
      every-on (λ q. not (has_corner (quad_at Q q) a) || quad_free Q U q) 0 nq (every-zero _) (omega arith) (λ q _ h. back e q a h (λ k. inl k) (has_corner (quad_at Q q) a) refl),
      every-on (λ q. not (has_corner (quad_at Q q) c) || quad_free Q U q) 0 nq (every-zero _) (omega arith) (λ q _ h. back e q c h (λ k. inr k) (has_corner (quad_at Q q) c) refl),
    ) refl))
  where
    implied : {x y : Bool} → (not x || y) ≡ true → x ≡ true → y ≡ true
    implied {x} {y} e k = rw k at e

    there : every (λ q. not (has_corner (quad_at Q q) a) || quad_free Q U q) nq ≡ true → every (λ q. not (has_corner (quad_at Q q) c) || quad_free Q U q) nq ≡ true
        → (v : ℕ) → v < np → (b : Bool) → near (quads_of nq Q) a c v ≡ b → not (b && get_or (used_of np U) v true) ≡ true
    there ea ec v h false k = refl
    there ea ec v h true k =
        let N = near-find Q nq a c v k in
        let F = uses-find Q N.q v N.has in
        let fr : quad_free Q U N.q ≡ true = ⊎_elim
        (λ x. implied (every-at (λ q. not (has_corner (quad_at Q q) a) || quad_free Q U q) nq N.q ea N.q<) x)
        (λ x. implied (every-at (λ q. not (has_corner (quad_at Q q) c) || quad_free Q U q) nq N.q ec N.q<) x)
        (or_split (has_corner (quad_at Q N.q) a) (has_corner (quad_at Q N.q) c) N.ends) in
        let un : unmarked U v ≡ true = ap (unmarked U) (sym F.at) ∙ free-corner Q U N.q F.j fr F.j< in
        rw (used-get np U v h, un) refl

    back : near_free np (quads_of nq Q) labels (used_of np U) a c ≡ true → (q x : ℕ) → q < nq
        → (0 < uses x (quad_at Q q) → (0 < uses a (quad_at Q q)) ⊎ (0 < uses c (quad_at Q q)))
        → (b : Bool) → has_corner (quad_at Q q) x ≡ b → (not b || quad_free Q U q) ≡ true
    back e q x h which false k = refl
    back e q x h which true k = free-quad Q U q (λ j l.
        let v< : corner Q q j < np = C.points (4 * q + j) (omega arith) in
        let g = quad-get nq Q q h in
        let near-v : near (quads_of nq Q) a c (corner Q q j) ≡ true = near_of (quads_of nq Q) a c (corner Q q j) q (rw (length-quads nq Q) h)
        (rw g (which (ltb-true 0 _ k))) (rw g (uses-at Q q (corner Q q j) j l refl)) in
        unmark (unmarked U (corner Q q j)) (rw (near-v, used-get np U (corner Q q j) v<) at (every-at (λ v. not (near (quads_of nq Q) a c v && get_or (used_of np U) v true)) np (corner Q q j) e v<)))
      where
        unmark : (b : Bool) → not (true && not b) ≡ true → b ≡ true
        unmark true e = refl
        unmark false e = absurd (false≢true e)

-- ---- "The merged points share only the other two corners as neighbours"

-- a corner at a whose neighbour is x
record Beside (Q : List ℕ) (nq a x : ℕ) : Type 0 where
  t : ℕ
  t< : t < 4 * nq
  point : from Q t ≡ a
  next : (to Q t ≡ x) ⊎ (before Q t ≡ x)

picked : (m a x y : ℕ) → 0 < cond (eqb m a) (is x y) 0 → (m ≡ a) × (y ≡ x)
picked m a x y = go (eqb m a) refl (eqb x y) refl
  where
    go : (b : Bool) → eqb m a ≡ b → (k : Bool) → eqb x y ≡ k → 0 < cond b (num k) 0 → (m ≡ a) × (y ≡ x)
    go true e true f h = (eqb-true m a e, sym (eqb-true x y f))
    go true e false f h = absurd (omega arith)
    go false e k f h = absurd (omega arith)

edge-find : (Q : List ℕ) (nq a x : ℕ) → is_edge (quads_of nq Q) a x ≡ true → Beside Q nq a x
edge-find Q nq a x e = go (zero_or (side (quads_of nq Q) a x))
  where
    S : List Quad
    S = quads_of nq Q

    some : 0 < side S a x + side S x a
    some = ltb-true 0 (side S a x + side S x a) e

    go : (side S a x ≡ 0) ⊎ (0 < side S a x) → Beside Q nq a x
    go (inr h) =
        let p = upto-find (weight (at a (λ p n. is x n)) Q) (4 * nq) (rw (total-flat (at a (λ p n. is x n)) Q nq) at h) in
        let k = picked (from Q p.i) a x (to Q p.i) p.more in
        record { t = p.i; t< = p.i<; point = k.0; next = inl k.1 }
    go (inl z) =
        let h : 0 < total (at a (λ p n. is x p)) S = omega (arith, some, z, side-at-end S x a) in
        let p = upto-find (weight (at a (λ p n. is x p)) Q) (4 * nq) (rw (total-flat (at a (λ p n. is x p)) Q nq) at h) in
        let k = picked (from Q p.i) a x (before Q p.i) p.more in
        record { t = p.i; t< = p.i<; point = k.0; next = inr k.1 }

-- both neighbours at a corner of a
edge_to : (Q : List ℕ) (nq a t : ℕ) → t < 4 * nq → from Q t ≡ a → is_edge (quads_of nq Q) a (to Q t) ≡ true
edge_to Q nq a t h e =
    let w = upto-at (weight (at a (λ p n. is (to Q t) n)) Q) (4 * nq) t h in
    let one : weight (at a (λ p n. is (to Q t) n)) Q t ≡ 1 = rw (eq-eqb (from Q t) a e) (is-self (to Q t)) in
    lt-ltb 0 (side (quads_of nq Q) a (to Q t) + side (quads_of nq Q) (to Q t) a) (omega (arith, w, one, total-flat (at a (λ p n. is (to Q t) n)) Q nq))

edge-before : (Q : List ℕ) (nq a t : ℕ) → t < 4 * nq → from Q t ≡ a → is_edge (quads_of nq Q) a (before Q t) ≡ true
edge-before Q nq a t h e =
    let w = upto-at (weight (at a (λ p n. is (before Q t) p)) Q) (4 * nq) t h in
    let one : weight (at a (λ p n. is (before Q t) p)) Q t ≡ 1 = rw (eq-eqb (from Q t) a e) (is-self (before Q t)) in
    lt-ltb 0 (side (quads_of nq Q) a (before Q t) + side (quads_of nq Q) (before Q t) a) (omega (arith, w, one, total-flat (at a (λ p n. is (before Q t) p)) Q nq, side-at-end (quads_of nq Q) (before Q t) a))

pub share-is : (np nq : ℕ) (labels Q : List ℕ) (a b c d : ℕ) → Cornered np nq Q
    → every (shares_none (point_corners Q nq a) Q (quads_of nq Q) b d c) (length (point_corners Q nq a)) ≡ share_only np (quads_of nq Q) labels a b c d
share-is np nq labels Q a b c d C = bool_iff _ _
    (λ e. every-on _ 0 np (every-zero _) (omega arith) (λ x _ h. there e x (is_edge S a x) refl))
    (λ e. every-on _ 0 (length B) (every-zero _) (omega arith) (λ t _ h. back e t h))
  where
    S : List Quad
    S = quads_of nq Q

    B : List ℕ
    B = point_corners Q nq a

    widen : (x y z w : Bool) → (x || y || w) ≡ true → (x || y || not z || w) ≡ true
    widen true y z w e = refl
    widen false true z w e = refl
    widen false false true w e = e
    widen false false false w e = refl

    there : every (shares_none B Q S b d c) (length B) ≡ true → (x : ℕ) → (k : Bool) → is_edge S a x ≡ k → (eqb x b || eqb x d || not k || not (is_edge S c x)) ≡ true
    there e x false k = anyway (eqb x b) (eqb x d)
      where
        anyway : (p q : Bool) → (p || q || true || not (is_edge S c x)) ≡ true
        anyway true q = refl
        anyway false true = refl
        anyway false false = refl
    there e x true k =
        let N = edge-find Q nq a x k in
        let g : get_or (all_corners nq) N.t 0 ≡ N.t = get_or-tab itself (4 * nq) N.t 0 N.t< in
        let I = in-bucket (from Q) 0 a (all_corners nq) N.t (rw length-tab N.t<) (ap (from Q) g ∙ N.point) in
        let i : get_or B I.t 0 ≡ N.t = I.at ∙ g in
        let r = every-at (shares_none B Q S b d c) (length B) I.t e I.t< in
        let r' : (apart_from S b d c (before Q N.t) && apart_from S b d c (to Q N.t)) ≡ true = rw i at r in
        widen (eqb x b) (eqb x d) true (not (is_edge S c x)) (⊎_elim
        (λ (q : to Q N.t ≡ x). ap (apart_from S b d c) (sym q) ∙ and_right (apart_from S b d c (before Q N.t)) _ r')
        (λ (q : before Q N.t ≡ x). ap (apart_from S b d c) (sym q) ∙ and_left _ _ r')
        N.next)

    narrow : (x y z w : Bool) → z ≡ true → (x || y || not z || w) ≡ true → (x || y || w) ≡ true
    narrow true y z w k e = refl
    narrow false true z w k e = refl
    narrow false false true w k e = e
    narrow false false false w k e = absurd (false≢true k)

    back : share_only np S labels a b c d ≡ true → (t : ℕ) → t < length B → shares_none B Q S b d c t ≡ true
    back e t h =
        let l : get_or B t 0 < 4 * nq = each-bucket 0 (λ x. x < 4 * nq) (from Q) a (all_corners nq) (below-tab (4 * nq)).each t h in
        let p : from Q (get_or B t 0) ≡ a = bucket-key (from Q) 0 a (all_corners nq) t h in
        both (free (before Q (get_or B t 0)) (C.points (get_or B t 0 / 4 * 4 + (get_or B t 0 + 3) % 4) (omega arith)) (edge-before Q nq a (get_or B t 0) l p))
        (free (to Q (get_or B t 0)) (C.points (get_or B t 0 / 4 * 4 + (get_or B t 0 + 1) % 4) (omega arith)) (edge_to Q nq a (get_or B t 0) l p))
      where
        free : (x : ℕ) → x < np → is_edge S a x ≡ true → apart_from S b d c x ≡ true
        free x l k = narrow (eqb x b) (eqb x d) (is_edge S a x) (not (is_edge S c x)) k (every-at (λ x. eqb x b || eqb x d || not (is_edge S a x) || not (is_edge S c x)) np x e l)

        both : {x y : Bool} → x ≡ true → y ≡ true → (x && y) ≡ true
        both p q = rw (p, q) refl

-- from either end
pub share-turned : (n : ℕ) (S : List Quad) (labels : List ℕ) (a b c d : ℕ) → share_only n S labels c b a d ≡ share_only n S labels a b c d
share-turned n S labels a b c d = every-ext _ _ n (λ x h. turned (eqb x b || eqb x d) (not (is_edge S c x)) (not (is_edge S a x)))
  where
    turned : (x y z : Bool) → (x || y || z) ≡ (x || z || y)
    turned true y z = refl
    turned false true true = refl
    turned false true false = refl
    turned false false true = refl
    turned false false false = refl

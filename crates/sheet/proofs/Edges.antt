-- The edges of quads are the edges of the corners of the flat list, and the corners sorted by edge are the corners of each edge in turn. Assumes nothing.
use Prim.Native.Nat.{ℕ, zero, suc, ◌+◌, ◌*◌, ◌≤◌, ◌<◌, min, max, zero-le}
use mathlib.Core.Path.{◌≡◌, refl, sym, ap, ◌∙◌}
use mathlib.Core.Bool.{Bool, true, false, cond, ◌&&◌, true≢false}
use mathlib.Core.Logic.{⊎_elim}
use mathlib.Core.List.{List, [], ◌∷◌, ◌++◌, append-nil, append_assoc}
use native.Mathlib.Omega.{arith}
use lib.ListN.{length, get_or, length-append}
use lib.Dec.{eqb, ltb, leb}
use borrow.Author.Tests.{eq-eqb, eqb-true, lt-ltb, ltb-false, le-leb, leb-true}
use Rattle.lists.specs.Sort.{tabulate, bucket, sort_by, cons_if, itself}
use Rattle.lists.specs.Steps.{count_of}
use Rattle.lists.proofs.Laws.{lt-or-le, bucket-append}
use Rattle.lists.proofs.Every.{bool_iff}
use Rattle.lists.proofs.Order.{bucket-key, each-bucket, bucket-sort}
use Rattle.rule_sheet.specs.Quads.{num, is, at, side, is_edge}
use Rattle.rule_sheet.specs.Flat.{quads_of}
use Rattle.sheet.specs.Flat.{from, to}
use Rattle.rule_sheet.specs.Edges.{pair, join_to, join_of, edge_if, edges_from, edges_of}
use Rattle.sheet.specs.Edges.{smaller, larger, all_corners, point_corners, edge_corners}
use Rattle.rule_sheet.proofs.Sums.{upto, upto-ext}
use Rattle.sheet.proofs.Flat.{total-flat}

-- ---- the numbers below n with two keys, counted

-- 1 where c has the key u by f and the key v by g, else 0
abbrev both : (ℕ → ℕ) → ℕ → (ℕ → ℕ) → ℕ → ℕ → ℕ
both f u g v c = cond (eqb (f c) u) (is (g c) v) 0

pub count-both : (f g : ℕ → ℕ) (u v n : ℕ) → count_of g (bucket f u (tabulate itself n)) v ≡ upto n (both f u g v)
unfolding bucket tabulate
count-both f g u v zero = refl
count-both f g u v (suc n) =
    rw (bucket-append f u (tabulate itself n) (n ∷ []), bucket-append g v (bucket f u (tabulate itself n)) (bucket f u (n ∷ [])), length-append)
    (omega (arith, count-both f g u v n, one (eqb (f n) u)))
  where
    two : (t : Bool) → length (cons_if t n []) ≡ num t
    two true = refl
    two false = refl

    one : (s : Bool) → length (bucket g v (cons_if s n [])) ≡ cond s (is (g n) v) 0
    one true = two (eqb (g n) v)
    one false = refl

is-sym : (a b : ℕ) → is a b ≡ is b a
is-sym a b = ap num (bool_iff (eqb a b) (eqb b a) (λ e. eq-eqb b a (sym (eqb-true a b e))) (λ e. eq-eqb a b (sym (eqb-true b a e))))

-- the quads that go along from u to v are the corners at u whose edge runs to v
pub side-flat : (n : ℕ) (Q : List ℕ) (u v : ℕ) → side (quads_of n Q) u v ≡ count_of (to Q) (point_corners Q n u) v
side-flat n Q u v =
    total-flat (at u (λ p m. is v m)) Q n
    ∙ upto-ext _ (both (from Q) u (to Q) v) (4 * n) (λ c _. ap (λ (x : ℕ). cond (eqb (from Q c) u) x 0) (is-sym v (to Q c)))
    ∙ sym (count-both (from Q) (to Q) u v (4 * n))

-- ---- an edge has a corner

-- with x to y upwards, the pair is not met the other way round unless it is met this way
both-swap : (x y a b : ℕ) → x ≤ y → a ≤ b → cond (eqb x b) (is y a) 0 ≤ cond (eqb x a) (is y b) 0
both-swap x y a b h k = go (eqb x b) refl (eqb y a) refl
  where
    go : (s : Bool) → eqb x b ≡ s → (t : Bool) → eqb y a ≡ t → cond s (num t) 0 ≤ cond (eqb x a) (is y b) 0
    go true es true et =
        let p = eqb-true x b es in
        let q = eqb-true y a et in
        rw (eq-eqb x a (omega arith), eq-eqb y b (omega arith)) (omega arith)
    go true es false et = zero-le
    go false es t et = zero-le

both-order : (s t : Bool) → cond s (num t) 0 ≡ cond t (num s) 0
both-order true true = refl
both-order true false = refl
both-order false true = refl
both-order false false = refl

-- the edge from x to y is (a, b) where it runs from a to b or from b to a, and then counts once or twice
edge-weight : (x y a b : ℕ) → a ≤ b
    → (cond (eqb (min x y) a) (is (max x y) b) 0 ≤ cond (eqb x a) (is y b) 0 + cond (eqb x b) (is y a) 0)
    × (cond (eqb x a) (is y b) 0 + cond (eqb x b) (is y a) 0 ≤ 2 * cond (eqb (min x y) a) (is (max x y) b) 0)
edge-weight x y a b h = ⊎_elim
    (λ (l : x < y).
    let lo : min x y ≡ x = omega arith in
    let hi : max x y ≡ y = omega arith in
    let s = both-swap x y a b (omega arith) h in
    rw (lo, hi) (omega arith, omega arith))
    (λ (l : y ≤ x).
    let lo : min x y ≡ y = omega arith in
    let hi : max x y ≡ x = omega arith in
    let s = both-swap y x a b l h in
    let p = both-order (eqb x a) (eqb y b) in
    let q = both-order (eqb x b) (eqb y a) in
    rw (lo, hi) (omega arith, omega arith))
    (lt-or-le x y)

upto-two : (e f g : ℕ → ℕ) (n : ℕ) → ((c : ℕ) → (e c ≤ f c + g c) × (f c + g c ≤ 2 * e c)) → (upto n e ≤ upto n f + upto n g) × (upto n f + upto n g ≤ 2 * upto n e)
upto-two e f g zero h = (omega arith, omega arith)
upto-two e f g (suc n) h = (omega (arith, (h n).0, (upto-two e f g n h).0), omega (arith, (h n).1, (upto-two e f g n h).1))

module _ (Q : List ℕ) (n : ℕ) where
  -- the corners whose edge has the smaller point a and the larger point b
  abbrev pub corners_of : ℕ → ℕ → List ℕ
  corners_of a b = bucket (larger Q) b (bucket (smaller Q) a (all_corners n))

  pub edge-corners : (a b : ℕ) → a ≤ b → edge_corners Q n (pair a b) ≡ corners_of a b
  edge-corners a b h =
      let lo : min a b ≡ a = omega arith in
      let hi : max a b ≡ b = omega arith in
      rw (lo, hi)

  edge_count : (a b : ℕ) → a ≤ b
      → (length (corners_of a b) ≤ side (quads_of n Q) a b + side (quads_of n Q) b a) × (side (quads_of n Q) a b + side (quads_of n Q) b a ≤ 2 * length (corners_of a b))
  unfolding smaller larger
  edge_count a b h =
      let t = upto-two (both (smaller Q) a (larger Q) b) (both (from Q) a (to Q) b) (both (from Q) b (to Q) a) (4 * n) (λ c. edge-weight (from Q c) (to Q c) a b h) in
      let e = count-both (smaller Q) (larger Q) a b (4 * n) in
      let f = side-flat n Q a b ∙ count-both (from Q) (to Q) a b (4 * n) in
      let g = side-flat n Q b a ∙ count-both (from Q) (to Q) b a (4 * n) in
      rw (e, f, g) t

  same_sign : (x y : ℕ) → x ≤ y → y ≤ 2 * x → ltb 0 y ≡ ltb 0 x
  same_sign zero y h k = let e : y ≡ 0 = omega arith in rw e
  same_sign (suc x) y h k = lt-ltb 0 y (omega arith) ∙ sym (lt-ltb 0 (suc x) (omega arith))

  -- (a, b) is an edge exactly if it has a corner
  pub edge-flat : (a b : ℕ) → a ≤ b → is_edge (quads_of n Q) a b ≡ ltb 0 (length (edge_corners Q n (pair a b)))
  edge-flat a b h = let c = edge_count a b h in rw (edge-corners a b h) (same_sign (length (corners_of a b)) (side (quads_of n Q) a b + side (quads_of n Q) b a) c.0 c.1)

  -- a corner's smaller point is not above its larger one
  corners-rise : (a b : ℕ) → 0 < length (corners_of a b) → a ≤ b
  unfolding smaller larger
  corners-rise a b h =
      let c = get_or (corners_of a b) 0 0 in
      let hi : larger Q c ≡ b = bucket-key (larger Q) 0 b (bucket (smaller Q) a (all_corners n)) 0 h in
      let lo : smaller Q c ≡ a = each-bucket 0 (λ x. smaller Q x ≡ a) (larger Q) b (bucket (smaller Q) a (all_corners n)) (bucket-key (smaller Q) 0 a (all_corners n)) 0 h in
      omega arith

  none : (l : List ℕ) → length l ≤ 0 → l ≡ []
  none [] h = refl
  none (x ∷ l) h = absurd (omega arith)

  -- the corners of the pair (a, b), where it is an edge, are all corners with these points
  edge-if : (a b : ℕ) → join_of (edge_corners Q n) (edge_if (quads_of n Q) a b) ≡ corners_of a b
  unfolding join_of
  edge-if a b = go (leb a b) refl (is_edge (quads_of n Q) a b) refl
    where
      go : (s : Bool) → leb a b ≡ s → (t : Bool) → is_edge (quads_of n Q) a b ≡ t → join_of (edge_corners Q n) (cons_if (s && t) (pair a b) []) ≡ corners_of a b
      go true es true et = append-nil _ ∙ edge-corners a b (leb-true a b es)
      go true es false et =
          let h = leb-true a b es in
          sym (none (corners_of a b) (ltb-false 0 _ (ap (λ (l : List ℕ). ltb 0 (length l)) (sym (edge-corners a b h)) ∙ sym (edge-flat a b h) ∙ et)))
      go false es t et = sym (⊎_elim
          (λ (h : 0 < length (corners_of a b)). absurd (true≢false (sym (le-leb a b (corners-rise a b h)) ∙ es)))
          (λ (h : length (corners_of a b) ≤ 0). none (corners_of a b) h)
          (lt-or-le 0 (length (corners_of a b))))

-- ---- joins

module _ {A B : Type 0} (f : A → List B) where
  pub join-append : (xs ys : List A) → join_of f (xs ++ ys) ≡ join_of f xs ++ join_of f ys
  unfolding join_of
  join-append [] ys = refl
  join-append (x ∷ xs) ys = rw (join-append xs ys) (sym (append_assoc (f x) (join_of f xs) (join_of f ys)))

  pub join-to : (g : ℕ → List A) (n : ℕ) → join_of f (join_to g n) ≡ join_to (λ i. join_of f (g i)) n
  unfolding join_of join_to
  join-to g zero = refl
  join-to g (suc n) = join-append (join_to g n) (g n) ∙ rw (join-to g n)

pub join-ext : {A : Type 0} (f g : ℕ → List A) (n : ℕ) → ((i : ℕ) → i < n → f i ≡ g i) → join_to f n ≡ join_to g n
unfolding join_to
join-ext f g zero h = refl
join-ext f g (suc n) h = rw (join-ext f g n (λ i l. h i (omega arith)), h n (omega arith))

-- a sort joins its buckets
sort-join : {A : Type 0} (key : A → ℕ) (n : ℕ) (xs : List A) → sort_by key n xs ≡ join_to (λ k. bucket key k xs) n
unfolding sort_by join_to
sort-join key zero xs = refl
sort-join key (suc n) xs = rw (sort-join key n xs)

-- the corners by their larger and then by their smaller point are the corners of each edge in turn
pub sort-runs : (np nq : ℕ) (Q : List ℕ) → sort_by (smaller Q) np (sort_by (larger Q) np (all_corners nq)) ≡ join_of (edge_corners Q nq) (edges_of np (quads_of nq Q))
unfolding edges_of
sort-runs np nq Q =
    sort-join (smaller Q) np (sort_by (larger Q) np (all_corners nq))
    ∙ join-ext _ _ np (λ a _.
    bucket-sort (smaller Q) (larger Q) a np (all_corners nq) ∙ sort-join (larger Q) np (bucket (smaller Q) a (all_corners nq))
    ∙ join-ext _ _ np (λ b _. sym (edge-if Q nq a b)) ∙ sym (join-to (edge_corners Q nq) (edge_if (quads_of nq Q) a) np))
    ∙ sym (join-to (edge_corners Q nq) (edges_from np (quads_of nq Q)) np)

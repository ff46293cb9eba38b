-- Among the corners in the order of their edges those of one edge stand side by side, in their own order; so the first request of an edge is
-- found by a look at the corner before. Assumes nothing.
use Prim.Native.Nat.{ℕ, zero, suc, ◌+◌, ◌-◌, ◌*◌, ◌/◌, ◌%◌, ◌≤◌, ◌<◌, suc-le-suc, zero-le}
use mathlib.Core.Logic.{◌⊎◌, inl, inr, ⊎_elim}
use mathlib.Core.Path.{◌≡◌, refl, sym, ap, ◌∙◌}
use mathlib.Core.Bool.{Bool, true, false, cond, ◌||◌, false≢true}
use mathlib.Core.List.{List, [], ◌∷◌}
use native.Mathlib.Omega.{arith}
use native.Mathlib.Numerals.{add-one}
use native.Mathlib.Nat.{le_of_suc-le-suc, mul-add-mod_self_right, mul-add-div_right, mod-eq_of_lt, div-eq_of_lt, suc-mul, mul-le-mul_right}
use lib.ListN.{length, get_or, set}
use lib.Dec.{eqb}
use borrow.Author.Tests.{eq-eqb, ne_eqb}
use Rattle.lists.specs.Sort.{tabulate, bucket, sort_by, cons_if, itself}
use Rattle.lists.specs.Steps.{start}
use Rattle.lists.specs.Every.{some}
use Rattle.lists.proofs.Laws.{eq-or-ne, lt-or-le, length-tab, get_or-tab, start-mono, get_or-sort, Place, place, tab-ext, tab-set}
use Rattle.lists.proofs.Every.{some_at}
use Rattle.lists.proofs.Order.{Each, each-bucket, bucket-key, In, in-bucket, below-tab, below-sort}
use Rattle.sheet.specs.Edges.{smaller, larger, all_corners}
use Rattle.rule_sheet.proofs.FirstUse.{First, place-first, first-unique}
use Rattle.incidence.specs.declared.Key.TheVariants.{Smaller, Larger}
use Rattle.incidence.specs.Corners.{key_of, Cornered, edge_order}
use Rattle.incidence.proofs.Corners.{key_below}
use Rattle.edges.specs.Steps.{same_edge}
use Rattle.edges.proofs.Blocks.{keys-same, same_keys}
use Rattle.refine.specs.Requests.{request_of, key_at, first_of, linked_to, is_linked}

-- ---- lists that ascend, and their sorts

-- each element is R to each later one
abbrev Ascending : (ℕ → ℕ → Type 0) → List ℕ → Type 0
Ascending R l = (i j : ℕ) → i < j → j < length l → R (get_or l i 0) (get_or l j 0)

-- by the key, and by R where the keys are equal
abbrev pub Then : (ℕ → ℕ) → (ℕ → ℕ → Type 0) → ℕ → ℕ → Type 0
Then key R x y = (key x < key y) ⊎ ((key x ≡ key y) × R x y)

ascending-cons : (R : ℕ → ℕ → Type 0) (x : ℕ) (l : List ℕ) → Ascending R l → Each 0 (R x) l → Ascending R (x ∷ l)
ascending-cons R x l A e zero zero h b = absurd (omega arith)
ascending-cons R x l A e zero (suc j) h b = e j (le_of_suc-le-suc b)
ascending-cons R x l A e (suc i) zero h b = absurd (omega arith)
ascending-cons R x l A e (suc i) (suc j) h b = A i j (le_of_suc-le-suc h) (le_of_suc-le-suc b)

bucket-ascends : (R : ℕ → ℕ → Type 0) (key : ℕ → ℕ) (k : ℕ) (xs : List ℕ) → Ascending R xs → Ascending R (bucket key k xs)
unfolding bucket
bucket-ascends R key k [] A = A
bucket-ascends R key k (x ∷ xs) A =
    let tail : Ascending R xs = λ i j h b. A (suc i) (suc j) (suc-le-suc h) (suc-le-suc b) in
    let heads : Each 0 (R x) xs = λ i b. A 0 (suc i) (suc-le-suc zero-le) (suc-le-suc b) in
    go (eqb (key x) k) (bucket-ascends R key k xs tail) (each-bucket 0 (R x) key k xs heads)
  where
    go : (b : Bool) → Ascending R (bucket key k xs) → Each 0 (R x) (bucket key k xs) → Ascending R (cons_if b x (bucket key k xs))
    go true A e = ascending-cons R x (bucket key k xs) A e
    go false A e = A

-- what stands at a place of a sorted list
record At (key : ℕ → ℕ) (xs : List ℕ) (n i : ℕ) : Type 0 where
  spot : Place key xs n i
  value : get_or (sort_by key n xs) i 0 ≡ get_or (bucket key spot.k xs) spot.t 0
  keyed : key (get_or (sort_by key n xs) i 0) ≡ spot.k

at_place : (key : ℕ → ℕ) (xs : List ℕ) (n i : ℕ) → i < start key xs n → At key xs n i
at_place key xs n i h =
    let p = place key xs n i h in
    let v : get_or (sort_by key n xs) i 0 ≡ get_or (bucket key p.k xs) p.t 0 = ap (λ (m : ℕ). get_or (sort_by key n xs) m 0) p.at ∙ get_or-sort key 0 xs n p.k p.t p.k< p.t< in
    record { spot = p; value = v; keyed = ap key v ∙ bucket-key key 0 p.k xs p.t p.t< }

sort-ascends : (R : ℕ → ℕ → Type 0) (key : ℕ → ℕ) (n : ℕ) (xs : List ℕ) → Ascending R xs → Ascending (Then key R) (sort_by key n xs)
sort-ascends R key n xs A i j h b =
    let P = at_place key xs n i (omega arith) in
    let S = at_place key xs n j b in
    let p = P.spot in
    let q = S.spot in
    ⊎_elim
    (λ (l : p.k < q.k). inl (rw (P.keyed, S.keyed) l))
    (λ (l : q.k ≤ p.k). ⊎_elim
    (λ (bad : q.k < p.k). absurd (omega (arith, start-mono key xs q.k p.k bad, p.at, q.at, p.t<, q.t<)))
    (λ (ok : p.k ≤ q.k).
    let e : p.k ≡ q.k = omega arith in
    let s : start key xs p.k ≡ start key xs q.k = ap (start key xs) e in
    let t : p.t < q.t = omega (arith, p.at, q.at) in
    inr (P.keyed ∙ e ∙ sym S.keyed, rw (P.value, S.value, e) (bucket-ascends R key q.k xs A p.t q.t t q.t<)))
    (lt-or-le q.k p.k))
    (lt-or-le p.k q.k)

-- an element with a key below n stands in the sorted list
in-sort : (key : ℕ → ℕ) (n : ℕ) (xs : List ℕ) (x : ℕ) → In 0 x xs → key x < n → In 0 x (sort_by key n xs)
in-sort key n xs x I h =
    let k : key (get_or xs I.t 0) < n = rw I.at h in
    let B = in-bucket key 0 (key (get_or xs I.t 0)) xs I.t I.t< refl in
    record {
      t = start key xs (key (get_or xs I.t 0)) + B.t;
      t< = omega (arith, start-mono key xs (key (get_or xs I.t 0)) n k, B.t<);
      at = get_or-sort key 0 xs n (key (get_or xs I.t 0)) B.t k B.t< ∙ B.at ∙ I.at;
    }

-- ---- the corners in the order of their edges

-- corner c stands before corner d
abbrev pub Before : List ℕ → ℕ → ℕ → Type 0
Before Q = Then (smaller Q) (Then (larger Q) ◌<◌)

pub record Sorted (np nq : ℕ) (Q E : List ℕ) : Type 0 where
  pub len : length E ≡ 4 * nq
  pub below : (i : ℕ) → i < 4 * nq → get_or E i 0 < 4 * nq
  pub order : (i j : ℕ) → i < j → j < 4 * nq → Before Q (get_or E i 0) (get_or E j 0)
  pub has : (c : ℕ) → c < 4 * nq → In 0 c E

numbers-ascend : (n : ℕ) → Ascending ◌<◌ (tabulate itself n)
numbers-ascend n i j h b = let l : j < n = rw length-tab at b in rw (get_or-tab itself n i 0 (omega arith), get_or-tab itself n j 0 l) h

pub sorted : {np nq : ℕ} {Q : List ℕ} → Cornered np nq Q → Sorted np nq Q (edge_order np nq Q)
unfolding edge_order key_of
sorted {np} {nq} {Q} C =
    let low : (x : ℕ) → x < 4 * nq → smaller Q x < np = λ x h. key_below Smaller x C h in
    let high : (x : ℕ) → x < 4 * nq → larger Q x < np = λ x h. key_below Larger x C h in
    let L = sort_by (larger Q) np (all_corners nq) in
    let B = below-sort (smaller Q) np (below-sort (larger Q) np (below-tab (4 * nq)) high) low in
    let A = sort-ascends (Then (larger Q) ◌<◌) (smaller Q) np L (sort-ascends ◌<◌ (larger Q) np (all_corners nq) (numbers-ascend (4 * nq))) in
    record {
      len = B.len;
      below = λ i h. B.each i (rw B.len h);
      order = λ i j h b. A i j h (rw B.len b);
      has = λ c h. in-sort (smaller Q) np L c (in-sort (larger Q) np (all_corners nq) c (record { t = c; t< = rw length-tab h; at = get_or-tab itself (4 * nq) c 0 h }) (high c h)) (low c h);
    }

before-low : (f g : ℕ → ℕ) (c d : ℕ) → Then f (Then g ◌<◌) c d → f c ≤ f d
before-low f g c d (inl h) = omega arith
before-low f g c d (inr (e, h)) = omega arith

before-high : (f g : ℕ → ℕ) (c d : ℕ) → Then f (Then g ◌<◌) c d → f c ≡ f d → g c ≤ g d
before-high f g c d (inl h) e = absurd (omega arith)
before-high f g c d (inr (q, inl h)) e = omega arith
before-high f g c d (inr (q, inr (r, h))) e = omega arith

pub before-less : (f g : ℕ → ℕ) (c d : ℕ) → Then f (Then g ◌<◌) c d → f c ≡ f d → g c ≡ g d → c < d
before-less f g c d (inl h) e k = absurd (omega arith)
before-less f g c d (inr (q, inl h)) e k = absurd (omega arith)
before-less f g c d (inr (q, inr (r, h))) e k = h

-- two corners have one edge
pub record Same (Q : List ℕ) (c d : ℕ) : Type 0 where
  pub low : smaller Q c ≡ smaller Q d
  pub high : larger Q c ≡ larger Q d

-- a corner of the same edge that comes earlier in its own order: then the corner before in the sorted order has that edge
neighbour : {np nq : ℕ} {Q E : List ℕ} (i b : ℕ) → Sorted np nq Q E → i < 4 * nq → b < get_or E i 0 → Same Q b (get_or E i 0) → (0 < i) × Same Q (get_or E (i - 1) 0) (get_or E i 0)
neighbour {np} {nq} {Q} {E} i b S h l s =
    let f = smaller Q in
    let g = larger Q in
    let I = S.has b (omega (arith, S.below i h)) in
    let k = I.t in
    let kb : k < 4 * nq = omega (arith, I.t<, S.len) in
    let before : k < i = ⊎_elim
    (λ (a : k < i). a)
    (λ (a : i ≤ k). ⊎_elim
    (λ (e : i ≡ k). absurd (omega (arith, ap (λ (m : ℕ). get_or E m 0) e, I.at)))
    (λ (ne : i ≡ k → ⊥). absurd (later (S.order i k (omega arith) kb) I.at))
    (eq-or-ne i k))
    (lt-or-le k i) in (
      omega arith,
      ⊎_elim
          (λ (e : k ≡ i - 1). rw (← e, I.at) s)
          (λ (ne : k ≡ i - 1 → ⊥).
          let o = S.order k (i - 1) (omega arith) (omega arith) in
          let p = S.order (i - 1) i (omega arith) h in
          let o' : Before Q b (get_or E (i - 1) 0) = rw I.at at o in
          between (get_or E (i - 1) 0) o' p)
          (eq-or-ne k (i - 1)),
    )
  where
    later : {d : ℕ} → Before Q (get_or E i 0) d → d ≡ b → ⊥
    later {d} o e =
        let o' : Before Q (get_or E i 0) b = rw e at o in
        omega (arith, before-less (smaller Q) (larger Q) (get_or E i 0) b o' (sym s.low) (sym s.high))

    between : (m : ℕ) → Before Q b m → Before Q m (get_or E i 0) → Same Q m (get_or E i 0)
    between m o p =
        let low : smaller Q m ≡ smaller Q (get_or E i 0) = omega (arith, before-low (smaller Q) (larger Q) b m o, before-low (smaller Q) (larger Q) m (get_or E i 0) p, s.low) in
        record { low = low; high = omega (arith, before-high (smaller Q) (larger Q) b m o (s.low ∙ sym low), before-high (smaller Q) (larger Q) m (get_or E i 0) p low, s.high) }

-- ---- the keys of requests

-- a pair of numbers below n is known by its key
key-parts : (n a b c d : ℕ) → b < n → d < n → a * n + b ≡ c * n + d → (a ≡ c) × (b ≡ d)
key-parts n a b c d lb ld e = (
  omega (arith, ap (λ k. k / n) e, mul-add-div_right {m = n} (omega arith) a b, mul-add-div_right {m = n} (omega arith) c d, div-eq_of_lt {n = b} {m = n} lb, div-eq_of_lt {n = d} {m = n} ld),
  sym (mod-eq_of_lt lb) ∙ (sym (mul-add-mod_self_right a n b) ∙ (ap (λ k. k % n) e ∙ (mul-add-mod_self_right c n d ∙ mod-eq_of_lt ld))),
)

-- the request of corner c has the key of its edge
pub key-corner : (n : ℕ) (Q : List ℕ) (c : ℕ) → key_at n Q (request_of c) ≡ smaller Q c * n + larger Q c
unfolding key_at smaller larger
key-corner n Q c =
    let d : request_of c / 5 ≡ c / 4 = omega arith in
    let r : request_of c % 5 ≡ c % 4 = omega arith in
    let ne : eqb (c % 4) 4 ≡ false = ne_eqb (c % 4) 4 (λ e. omega arith) in
    let a : 4 * (c / 4) + c % 4 ≡ c = omega arith in
    let b : 4 * (c / 4) + (c % 4 + 1) % 4 ≡ c / 4 * 4 + (c + 1) % 4 = omega arith in
    rw (d, r, ne, a, b)

-- the request of a centre has the key of its quad
pub key-centre : (n : ℕ) (Q : List ℕ) (t : ℕ) → t % 5 ≡ 4 → key_at n Q t ≡ n * n + t / 5
unfolding key_at
key-centre n Q t e = rw e

-- an edge's key is below a centre's
pub edge-below : (n a b : ℕ) → a < n → b < n → a * n + b < n * n
edge-below n a b l m = omega (arith, suc-mul a n, mul-le-mul_right n l)

-- a request is for a centre or for the edge of a corner
data Kind (t : ℕ) : Type 0 where
  centre : t % 5 ≡ 4 → Kind t
  edge : (c : ℕ) → request_of c ≡ t → Kind t

kind-of : (t : ℕ) → Kind t
kind-of t = ⊎_elim (λ (e : t % 5 ≡ 4). centre e) (λ (ne : t % 5 ≡ 4 → ⊥). edge (t / 5 * 4 + t % 5) (back t (omega arith))) (eq-or-ne (t % 5) 4)
  where
    back : (t : ℕ) → t % 5 < 4 → request_of (t / 5 * 4 + t % 5) ≡ t
    back t h = omega arith

module _ {np nq : ℕ} {Q : List ℕ} (C : Cornered np nq Q) where
  pub low_of : (c : ℕ) → c < 4 * nq → smaller Q c < np
  unfolding key_of
  low_of c h = key_below Smaller c C h

  pub high-of : (c : ℕ) → c < 4 * nq → larger Q c < np
  unfolding key_of
  high-of c h = key_below Larger c C h

  corner-below : (c : ℕ) → request_of c < 5 * nq → c < 4 * nq
  corner-below c h = omega arith

  -- requests of one key are for one edge
  pub same_of : (c d : ℕ) → c < 4 * nq → d < 4 * nq → key_at np Q (request_of c) ≡ key_at np Q (request_of d) → Same Q c d
  same_of c d hc hd e =
      let p = key-parts np (smaller Q c) (larger Q c) (smaller Q d) (larger Q d) (high-of c hc) (high-of d hd) (sym (key-corner np Q c) ∙ e ∙ key-corner np Q d) in
      record { low = p.0; high = p.1 }

  -- a centre's request is the first of its key
  pub centre-first : (t : ℕ) → t < 5 * nq → t % 5 ≡ 4 → First (key_at np Q) t t
  centre-first t h e = record { le = omega arith; same = refl; least = λ r b k. go r b k (kind-of r) }
    where
      go : (r : ℕ) → r < t → key_at np Q r ≡ key_at np Q t → Kind r → ⊥
      go r b k (centre q) = omega (arith, key-centre np Q r q, key-centre np Q t e)
      go r b k (edge c q) =
          let hc : c < 4 * nq = corner-below c (rw q (omega arith)) in
          omega (arith, key-centre np Q t e, rw q at (key-corner np Q c), edge-below np (smaller Q c) (larger Q c) (low_of c hc) (high-of c hc))

  -- the request of a corner is the first of its key where the corner before it in the order has another edge
  pub own_first : (i : ℕ) → i < 4 * nq → (0 < i → Same Q (get_or (edge_order np nq Q) (i - 1) 0) (get_or (edge_order np nq Q) i 0) → ⊥)
      → First (key_at np Q) (request_of (get_or (edge_order np nq Q) i 0)) (request_of (get_or (edge_order np nq Q) i 0))
  own_first i h f = record { le = omega arith; same = refl; least = λ r b k. go r b k (kind-of r) }
    where
      d : ℕ
      d = get_or (edge_order np nq Q) i 0

      hd : d < 4 * nq
      hd = (sorted C).below i h

      go : (r : ℕ) → r < request_of d → key_at np Q r ≡ key_at np Q (request_of d) → Kind r → ⊥
      go r b k (centre q) = omega (arith, key-centre np Q r q, key-corner np Q d, edge-below np (smaller Q d) (larger Q d) (low_of d hd) (high-of d hd))
      go r b k (edge c q) =
          let l : c < d = less c d (rw q b) in
          let s = same_of c d (omega (arith, l, hd)) hd (rw q k) in
          let n = neighbour i c (sorted C) h l s in
          f n.0 n.1
        where
          less : (b e : ℕ) → request_of b < request_of e → b < e
          less b e h = omega arith

  -- ---- the first request of each key

  pub first-of : (t : ℕ) → t < 5 * nq → First (key_at np Q) t (first_of np nq Q t)
  unfolding first_of
  first-of t h = place-first (key_at np Q) (5 * nq) t h

  first-self : (t : ℕ) → t < 5 * nq → First (key_at np Q) t t → first_of np nq Q t ≡ t
  first-self t h F = first-unique (first-of t h) F

  first-same : (s t : ℕ) → key_at np Q s ≡ key_at np Q t → first_of np nq Q s ≡ first_of np nq Q t
  unfolding first_of
  first-same s t e = rw e

  request-below : (c : ℕ) → c < 4 * nq → request_of c < 5 * nq
  request-below c h = omega arith

  abbrev E : List ℕ
  E = edge_order np nq Q

  linked-yes : (i t : ℕ) → some (is_linked E t) i ≡ true → linked_to np nq Q i t ≡ first_of np nq Q t
  unfolding linked_to
  linked-yes i t e = rw e

  linked-self : (i t : ℕ) → first_of np nq Q t ≡ t → linked_to np nq Q i t ≡ t
  unfolding linked_to
  linked-self i t e = rw e (go (some (is_linked E t) i))
    where
      go : (b : Bool) → cond b t t ≡ t
      go true = refl
      go false = refl

  linked-other : (i t : ℕ) → (request_of (get_or E i 0) ≡ t → ⊥) → linked_to np nq Q (i + 1) t ≡ linked_to np nq Q i t
  unfolding linked_to some
  linked-other i t ne = rw (add-one i, ne_eqb (request_of (get_or E i 0)) t ne) (go (some (is_linked E t) i))
    where
      go : (b : Bool) → cond (b || false) (first_of np nq Q t) t ≡ cond b (first_of np nq Q t) t
      go true = refl
      go false = refl

  linked-here : (i : ℕ) → linked_to np nq Q (i + 1) (request_of (get_or E i 0)) ≡ first_of np nq Q (request_of (get_or E i 0))
  linked-here i = linked-yes (i + 1) (request_of (get_or E i 0)) (some_at (is_linked E (request_of (get_or E i 0))) (i + 1) i (omega arith) (eq-eqb (request_of (get_or E i 0)) (request_of (get_or E i 0)) refl))

  pub linked-start : tabulate itself (5 * nq) ≡ tabulate (linked_to np nq Q 0) (5 * nq)
  unfolding linked_to some
  linked-start = refl

  -- a corner whose edge is new in the order keeps its own request
  pub linked-new : (i : ℕ) → i < 4 * nq → (0 < i → Same Q (get_or E (i - 1) 0) (get_or E i 0) → ⊥)
      → tabulate (linked_to np nq Q i) (5 * nq) ≡ tabulate (linked_to np nq Q (i + 1)) (5 * nq)
  linked-new i h f =
      let self = first-self (request_of (get_or E i 0)) (request-below (get_or E i 0) ((sorted C).below i h)) (own_first i h f) in
      tab-ext _ _ (5 * nq) (λ t b. ⊎_elim
      (λ (e : request_of (get_or E i 0) ≡ t). linked-self i t (rw e at self) ∙ sym (linked-self (i + 1) t (rw e at self)))
      (λ (ne : request_of (get_or E i 0) ≡ t → ⊥). sym (linked-other i t ne))
      (eq-or-ne (request_of (get_or E i 0)) t))

  -- a corner with the edge of the one before it takes over that one's first request
  pub linked-same : (i v : ℕ) → i < 4 * nq → 0 < i → Same Q (get_or E (i - 1) 0) (get_or E i 0) → v ≡ linked_to np nq Q i (request_of (get_or E (i - 1) 0))
      → set (tabulate (linked_to np nq Q i) (5 * nq)) (request_of (get_or E i 0)) v ≡ tabulate (linked_to np nq Q (i + 1)) (5 * nq)
  linked-same i v h pos s e =
      let p = get_or E (i - 1) 0 in
      let c = get_or E i 0 in
      let r : key_at np Q (request_of p) ≡ key_at np Q (request_of c) = key-corner np Q p ∙ rw (s.low, s.high) (sym (key-corner np Q c)) in
      let yes = linked-yes i (request_of p) (some_at (is_linked E (request_of p)) i (i - 1) (omega arith) (eq-eqb (request_of p) (request_of p) refl)) in
      tab-set _ _ (5 * nq) (request_of c) v (request-below c ((sorted C).below i h))
      (linked-here i ∙ sym (e ∙ yes ∙ first-same (request_of p) (request_of c) r))
      (λ j b ne. linked-other i j (λ k. ne (sym k)))

  -- at the end every request is linked
  pub linked-end : tabulate (linked_to np nq Q (4 * nq)) (5 * nq) ≡ tabulate (first_of np nq Q) (5 * nq)
  linked-end = tab-ext _ _ (5 * nq) (λ t b. go t b (kind-of t))
    where
      go : (t : ℕ) → t < 5 * nq → Kind t → linked_to np nq Q (4 * nq) t ≡ first_of np nq Q t
      go t b (centre e) = let self = first-self t b (centre-first t b e) in linked-self (4 * nq) t self ∙ sym self
      go t b (edge c e) =
          let I = (sorted C).has c (corner-below c (rw e b)) in
          linked-yes (4 * nq) t (some_at (is_linked E t) (4 * nq) I.t (omega (arith, I.t<, (sorted C).len)) (eq-eqb (request_of (get_or E I.t 0)) t (rw I.at e)))

-- ---- the test of two corners

pub same-yes : (Q : List ℕ) (c d : ℕ) → same_edge Q c d ≡ true → Same Q c d
same-yes Q c d e = let p = same_keys Q c d e in record { low = p.0; high = p.1 }

pub same-no : (Q : List ℕ) (c d : ℕ) → same_edge Q c d ≡ false → Same Q c d → ⊥
same-no Q c d e s = false≢true (sym e ∙ keys-same Q c d s.low s.high)

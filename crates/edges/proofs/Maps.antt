-- The laws of the edge map: its regions, the search by halves, and that a pair of points is an edge exactly if the search finds it. Assumes nothing.
use Prim.Native.Nat.{ℕ, ◌+◌, ◌-◌, ◌*◌, ◌≤◌, ◌<◌, min, max}
use mathlib.Core.Bool.{true, false}
use mathlib.Core.Logic.{⊎_elim}
use mathlib.Core.Path.{◌≡◌, refl, sym, ap, ◌∙◌}
use mathlib.Core.List.{List}
use native.Mathlib.Omega.{arith}
use lib.ListN.{length, get_or, take, set}
use lib.Seq.{get_or-take, get_or-set_same, length-take-le}
use lib.Dec.{eqb, ltb}
use borrow.Author.Tests.{eq-eqb, ne_eqb, lt-ltb, le-ltb}
use Rattle.lists.specs.Sort.{tabulate, bucket, sort_by}
use Rattle.lists.specs.Steps.{start, end_of, count_of}
use Rattle.lists.specs.Regions.{part, Part, Out3, Kept, Three}
use Rattle.lists.proofs.Laws.{lt-or-le, get_or-tab, tab-ext, start-zero, start-suc, start-mono}
use Rattle.lists.proofs.Order.{Each, sort-ext, each-sort, each-bucket, bucket-key, bucket-sort, bucket-of-sort, ascends, part-bucket, in-bucket, below-tab}
use Rattle.lists.proofs.Regions.{part_of, part-len, part-get, part-as, part-sub, part-set-out, part-kept, kept_set, kept_less}
use Rattle.rule_sheet.specs.Quads.{side, is_edge}
use Rattle.sheet.specs.Flat.{from, to}
use Rattle.rule_sheet.specs.Flat.{quad_at, quads_of}
use Rattle.sheet.specs.Edges.{smaller, larger, all_corners, point_corners}
use Rattle.sheet.proofs.Edges.{edge-flat, edge-corners}
use Rattle.incidence.specs.declared.Key.TheVariants.{Larger}
use Rattle.incidence.specs.Corners.{key_of, Cornered, edge_order, corners_at, first_at}
use Rattle.incidence.proofs.Corners.{tab-front}
use Rattle.edges.specs.Steps.{first_edge}
use Rattle.edges.specs.Conditions.{EdgeMapHolds, PointMapHolds, Ascending, Narrowed}

-- ---- the corners of the first quads of a list are those of the list

module _ (nq : ℕ) (Q : List ℕ) where
  -- the first nq quads, flat
  abbrev front : List ℕ
  front = take (4 * nq) Q

  from-take : (c : ℕ) → c < 4 * nq → from front c ≡ from Q c
  from-take c h = get_or-take (4 * nq) Q c 0 h

  to_take : (c : ℕ) → c < 4 * nq → to front c ≡ to Q c
  to_take c h = get_or-take (4 * nq) Q _ 0 (omega arith)

  -- keys that agree on the corners sort them alike
  each-corner : (f g : ℕ → ℕ) → ((c : ℕ) → c < 4 * nq → f c ≡ g c) → Each 0 (λ c. f c ≡ g c) (all_corners nq)
  each-corner f g h i l = let B = below-tab (4 * nq) in h _ (B.each i l)

  smaller-take : (c : ℕ) → c < 4 * nq → smaller front c ≡ smaller Q c
  unfolding smaller
  smaller-take c h = rw (from-take c h, to_take c h)

  larger-take : (c : ℕ) → c < 4 * nq → larger front c ≡ larger Q c
  unfolding larger
  larger-take c h = rw (from-take c h, to_take c h)

  -- by their larger points, then by the smaller ones
  by-edges : (np n : ℕ) → sort_by (smaller front) n (sort_by (larger front) np (all_corners nq)) ≡ sort_by (smaller Q) n (sort_by (larger Q) np (all_corners nq))
  by-edges np n =
      rw (sort-ext 0 (larger front) (larger Q) np (all_corners nq) (each-corner _ _ larger-take))
      (sort-ext 0 (smaller front) (smaller Q) n (sort_by (larger Q) np (all_corners nq))
      (each-sort 0 (λ c. smaller front c ≡ smaller Q c) (larger Q) np (all_corners nq) (each-corner _ _ smaller-take)))

  by-points : (n : ℕ) → sort_by (from front) n (all_corners nq) ≡ sort_by (from Q) n (all_corners nq)
  by-points n = sort-ext 0 (from front) (from Q) n (all_corners nq) (each-corner _ _ from-take)

  edge-order-take : (np : ℕ) → edge_order np nq Q ≡ edge_order np nq front
  unfolding edge_order
  edge-order-take np = sym (by-edges np np)

  first-edge-take : (np n : ℕ) → tabulate (first_edge np nq Q) n ≡ tabulate (first_edge np nq front) n
  unfolding first_edge
  first-edge-take np n = tab-ext _ _ n (λ v h. ap length (sym (by-edges np v)))

  corners-at-take : (np : ℕ) → corners_at np nq Q ≡ corners_at np nq front
  unfolding corners_at
  corners-at-take np = sym (by-points np)

  first-at-take : (n : ℕ) → tabulate (first_at nq Q) n ≡ tabulate (first_at nq front) n
  unfolding first_at
  first-at-take n = tab-ext _ _ n (λ v h. ap length (sym (by-points v)))

  pub quads-take : quads_of nq front ≡ quads_of nq Q
  unfolding quads_of
  quads-take = tab-ext (quad_at front) (quad_at Q) nq (λ q h. rw (
    from-take (4 * q + 0) (omega arith),
    from-take (4 * q + 1) (omega arith),
    from-take (4 * q + 2) (omega arith),
    from-take (4 * q + 3) (omega arith),
  ))

  pub take-cornered : {np : ℕ} → Cornered np nq Q → Cornered np nq front
  take-cornered C =
      let l : length front ≡ 4 * nq = length-take-le (4 * nq) Q C.quads in
      record { few = C.few; quads = omega arith; points = λ c h. rw (from-take c h) (C.points c h) }

-- ---- the regions of the map

-- the map stands where the copied quads, the order and the starts stand
pub mapped : {np nq was starts order : ℕ} {Q w : List ℕ} → Cornered np nq Q → Part was (4 * nq) (take (4 * nq) Q) w → Part order (4 * nq) (edge_order np nq Q) w
    → Part starts (np + 1) (tabulate (first_edge np nq Q) (np + 1)) w → EdgeMapHolds np nq was starts order w
mapped {np} {nq} {was} {starts} {order} {Q} {w} C W O S = record {
  sheet = rw W.is (take-cornered nq Q C);
  in_was = W.fits;
  at = rw W.is (part-as O (edge-order-take nq Q np));
  begin = rw W.is (part-as S (first-edge-take nq Q np (np + 1)));
}

pub standing : {np nq was starts order : ℕ} {Q w : List ℕ} → Cornered np nq Q → Part was (4 * nq) (take (4 * nq) Q) w → Part order (4 * nq) (corners_at np nq Q) w
    → Part starts (np + 1) (tabulate (first_at nq Q) (np + 1)) w → PointMapHolds np nq was starts order w
standing {np} {nq} {was} {starts} {order} {Q} {w} C W O S = record {
  sheet = rw W.is (take-cornered nq Q C);
  in_was = W.fits;
  at = rw W.is (part-as O (corners-at-take nq Q np));
  begin = rw W.is (part-as S (first-at-take nq Q (np + 1)));
}

-- every index of a region has P
abbrev Within : ℕ → ℕ → (ℕ → Type 0) → Type 0
Within at n P = (i : ℕ) → at ≤ i → i < at + n → P i

-- they survive whatever keeps their regions
module _ {np nq was starts order : ℕ} {v w : List ℕ} {P : ℕ → Type 0} where
  pub mapped-kept : EdgeMapHolds np nq was starts order v → Kept P v w → Within was (4 * nq) P → Within starts (np + 1) P → Within order (4 * nq) P → EdgeMapHolds np nq was starts order w
  mapped-kept M K a b c =
      let W = part-kept (part_of was (4 * nq) v M.in_was) K a in
      record {
        sheet = rw W.is M.sheet;
        in_was = W.fits;
        at = rw W.is (part-kept M.at K c);
        begin = rw W.is (part-kept M.begin K b);
      }

  pub standing-kept : PointMapHolds np nq was starts order v → Kept P v w → Within was (4 * nq) P → Within starts (np + 1) P → Within order (4 * nq) P
      → PointMapHolds np nq was starts order w
  standing-kept M K a b c =
      let W = part-kept (part_of was (4 * nq) v M.in_was) K a in
      record {
        sheet = rw W.is M.sheet;
        in_was = W.fits;
        at = rw W.is (part-kept M.at K c);
        begin = rw W.is (part-kept M.begin K b);
      }

-- ---- the slice of `edge_map`

-- the counters of the sorts stand behind the first element of the starts
pub behind-first : {first starts order np n m : ℕ} {w : List ℕ} → Three first n starts (np + 1) order m w → Three first n (starts + 1) np order m w
behind-first T = record {
  in_a = T.in_a;
  in_b = omega (arith, T.in_b);
  in_c = T.in_c;
  ab = λ i p q r s. T.ab i p q (omega arith) (omega arith);
  ac = T.ac;
  bc = λ i p q r s. T.bc i (omega arith) (omega arith) r s;
}

ends-are : (np nq : ℕ) (Q : List ℕ) → tabulate (end_of (smaller Q) (sort_by (larger Q) np (all_corners nq))) np ≡ tabulate (λ v. first_edge np nq Q (v + 1)) np
unfolding first_edge
ends-are np nq Q = refl

first-edge-zero : (np nq : ℕ) (Q : List ℕ) → first_edge np nq Q 0 ≡ 0
unfolding first_edge
first-edge-zero np nq Q = start-zero (smaller Q) (sort_by (larger Q) np (all_corners nq))

pub map-made : {np : ℕ} (nq : ℕ) (Q : List ℕ) {first starts order : ℕ} {u w : List ℕ} → Three first (4 * nq) starts (np + 1) order (4 * nq) u
    → Part order (4 * nq) (edge_order np nq Q) w → Part (starts + 1) np (tabulate (end_of (smaller Q) (sort_by (larger Q) np (all_corners nq))) np) w
    → Kept (Out3 first (4 * nq) (starts + 1) np order (4 * nq)) u w
    → Part order (4 * nq) (edge_order np nq Q) (set w starts 0)
    × (Part starts (np + 1) (tabulate (first_edge np nq Q) (np + 1)) (set w starts 0) × Kept (Out3 first (4 * nq) starts (np + 1) order (4 * nq)) u (set w starts 0))
map-made {np} nq Q {first} {starts} {order} {u} {w} T O E C =
    let S : Part (starts + 1) np (tabulate (λ v. first_edge np nq Q (v + 1)) np) w = part-as E (ends-are np nq Q) in
    let b : starts < length w = omega (arith, S.fits) in
    let K : Kept (Out3 first (4 * nq) starts (np + 1) order (4 * nq)) u w =
    kept_less C (λ i o. (o.0, (λ p q. o.1.0 (omega arith) (omega arith), o.1.1))) in (
      part-set-out starts 0 O (λ p q. T.bc starts (omega arith) (omega arith) p q),
      (
        tab-front (first_edge np nq Q) (part-set-out starts 0 S (λ p q. omega arith)) (get_or-set_same w starts 0 0 b ∙ sym (first-edge-zero np nq Q)),
        kept_set starts 0 K (λ o. o.1.0 (omega arith) (omega arith)),
      ),
    )

-- ---- the search by halves

-- c is the corner at place i, and k its larger point
pub record Seen (Q cs : List ℕ) (i c k : ℕ) : Type 0 where
  pub corner : c ≡ get_or cs i 0
  pub key : k ≡ key_of Q Larger c

seen_key : {Q cs : List ℕ} {i c k : ℕ} → Seen Q cs i c k → k ≡ larger Q (get_or cs i 0)
unfolding key_of
seen_key S = rw (← S.corner) S.key

module _ {Q cs : List ℕ} {b : ℕ} where
  -- the corner at mid has a larger point below b
  pub narrow-up : {lo hi mid c k : ℕ} → Ascending Q cs → Narrowed Q cs b lo hi → Seen Q cs mid c k → mid < hi → k < b → Narrowed Q cs b (mid + 1) hi
  narrow-up {lo} {hi} {mid} {c} {k} A N S h l =
      let e = seen_key S in
      record {
        lo≤ = omega arith;
        hi≤ = N.hi≤;
        below = λ i g. omega (arith, A.rise i mid (omega arith) (omega (arith, N.hi≤)));
        above = N.above;
      }

  -- or not
  pub narrow-down : {lo hi mid c k : ℕ} → Ascending Q cs → Narrowed Q cs b lo hi → Seen Q cs mid c k → mid < hi → lo ≤ mid → b ≤ k → Narrowed Q cs b lo mid
  narrow-down {lo} {hi} {mid} {c} {k} A N S h g l =
      let e = seen_key S in
      record {
        lo≤ = g;
        hi≤ = omega (arith, N.hi≤);
        below = N.below;
        above = λ i m n. omega (arith, A.rise mid i m n);
      }

module _ (Q cs : List ℕ) (b : ℕ) where
  -- a corner with the larger point b counts
  counted : (i : ℕ) → i < length cs → larger Q (get_or cs i 0) ≡ b → ltb 0 (count_of (larger Q) cs b) ≡ true
  counted i h e = let I = in-bucket (larger Q) 0 b cs i h e in lt-ltb 0 (count_of (larger Q) cs b) (omega (arith, I.t<))

  -- where none has it, none is counted
  none-counted : ((i : ℕ) → i < length cs → larger Q (get_or cs i 0) ≡ b → ⊥) → ltb 0 (count_of (larger Q) cs b) ≡ false
  none-counted f = ⊎_elim
      (λ (h : 0 < count_of (larger Q) cs b).
      absurd (each-bucket 0 (λ c. larger Q c ≡ b → ⊥) (larger Q) b cs f 0 h (bucket-key (larger Q) 0 b cs 0 h)))
      (λ (h : count_of (larger Q) cs b ≤ 0). le-ltb 0 _ h)
      (lt-or-le 0 (count_of (larger Q) cs b))

module _ {Q cs : List ℕ} {b : ℕ} where
  -- the search ends at a corner, which has b or not, or behind them all
  pub found_at : {i c k : ℕ} → Narrowed Q cs b i i → Ascending Q cs → Seen Q cs i c k → i < length cs → eqb k b ≡ ltb 0 (count_of (larger Q) cs b)
  found_at {i} {c} {k} N A S h =
      let s = seen_key S in
      ⊎_elim
      (λ (l : b < k).
      ne_eqb k b (λ e. omega arith) ∙ sym (none-counted Q cs b (λ j g e. ⊎_elim
      (λ (m : j < i). omega (arith, N.below j m))
      (λ (m : i ≤ j). omega (arith, A.rise i j m g))
      (lt-or-le j i))))
      (λ (l : k ≤ b).
      let e : k ≡ b = omega (arith, N.above i (omega arith) h) in
      eq-eqb k b e ∙ sym (counted Q cs b i h (sym s ∙ e)))
      (lt-or-le b k)

  pub found_none : {i : ℕ} → Narrowed Q cs b i i → length cs ≤ i → false ≡ ltb 0 (count_of (larger Q) cs b)
  found_none {i} N h = sym (none-counted Q cs b (λ j g e. omega (arith, N.below j (omega arith))))

-- ---- the corners of a point, and of a smaller point

-- the places from s up to e of a region have the list l
pub record RunAt (order s e : ℕ) (l w : List ℕ) : Type 0 where
  pub s≤ : s ≤ e
  pub e≤ : order + e ≤ length w
  pub is : part (order + s) (order + e - (order + s)) w ≡ l

-- the elements of the key a in a sorted region stand from where a begins up to where the next key does
pub run_at : (key : ℕ → ℕ) (xs : List ℕ) {np n starts order s e : ℕ} {w : List ℕ} (a : ℕ) → Part order n (sort_by key np xs) w → Part starts (np + 1) (tabulate (start key xs) (np + 1)) w → a < np
    → s ≡ get_or w (starts + a) 0 → e ≡ get_or w (starts + a + 1) 0 → RunAt order s e (bucket key a xs) w
run_at key xs {np} {n} {starts} {order} {s} {e} {w} a O B h fs fe =
    let p = start key xs a in
    let m = length (bucket key a xs) in
    let b : a < np + 1 = omega arith in
    let b' : a + 1 < np + 1 = omega arith in
    let sh : starts + a + 1 ≡ starts + (a + 1) = omega arith in
    let es : s ≡ p = fs ∙ part-get 0 a B b ∙ get_or-tab (start key xs) (np + 1) a 0 b in
    let ee : e ≡ p + m = fe ∙ ap (λ (x : ℕ). get_or w x 0) sh ∙ part-get 0 (a + 1) B b' ∙ get_or-tab (start key xs) (np + 1) (a + 1) 0 b' ∙ start-suc key xs a in
    let len : length (sort_by key np xs) ≡ n = part-len O in
    let mono : p + m ≤ length (sort_by key np xs) = start-mono key xs a np h in
    let P : Part (order + p) m (bucket key a xs) w = part-as (part-sub p m O (omega arith)) (part-bucket key xs np a h) in
    let g : order + (p + m) - (order + p) ≡ m = omega arith in
    record { s≤ = omega arith; e≤ = omega (arith, P.fits); is = rw (es, ee) (rw g P.is) }

-- the corners at the point v
pub point-run : {np nq was starts order s e : ℕ} {w : List ℕ} (v : ℕ) → PointMapHolds np nq was starts order w → v < np
    → s ≡ get_or w (starts + v) 0 → e ≡ get_or w (starts + v + 1) 0 → RunAt order s e (point_corners (part was (4 * nq) w) nq v) w
unfolding first_at corners_at
point-run {np} {nq} {was} {starts} {order} {s} {e} {w} v M h fs fe = run_at (from (part was (4 * nq) w)) (all_corners nq) v M.at M.begin h fs fe

module _ (np nq : ℕ) (Q : List ℕ) (a : ℕ) where
  -- the corners of the smaller point a by their larger points
  abbrev run : List ℕ
  run = bucket (smaller Q) a (sort_by (larger Q) np (all_corners nq))

  run-sorted : run ≡ sort_by (larger Q) np (bucket (smaller Q) a (all_corners nq))
  run-sorted = bucket-sort (smaller Q) (larger Q) a np (all_corners nq)

  run-below : Each 0 (λ c. c < 4 * nq) run
  run-below = each-bucket 0 (λ c. c < 4 * nq) (smaller Q) a _ (each-sort 0 (λ c. c < 4 * nq) (larger Q) np (all_corners nq) (below-tab (4 * nq)).each)

  run-ascends : Cornered np nq Q → Ascending Q run
  run-ascends C = record {
    known = λ i h. let l = run-below i h in omega (arith, C.quads);
    rise = rw run-sorted (λ i j h l. ascends (larger Q) 0 np i j (bucket (smaller Q) a (all_corners nq)) h l);
  }

  run-edge : (b : ℕ) → a ≤ b → b < np → ltb 0 (count_of (larger Q) run b) ≡ is_edge (quads_of nq Q) a b
  run-edge b h l =
      rw run-sorted
      (ap (λ (x : List ℕ). ltb 0 (length x)) (bucket-of-sort (larger Q) b np (bucket (smaller Q) a (all_corners nq)) l ∙ sym (edge-corners Q nq a b h))
      ∙ sym (edge-flat Q nq a b h))

-- the corners of the smaller point a are those from s up to e in the order of the edges, and their larger points ascend
pub record Rising (np nq was order a s e : ℕ) (w : List ℕ) : Type 0 where
  pub s≤ : s ≤ e
  pub e≤ : order + e ≤ length w
  pub in_was : was + 4 * nq ≤ length w
  pub ascending : Ascending (part was (was + 4 * nq - was) w) (part (order + s) (order + e - (order + s)) w)
  pub is : (b : ℕ) → a ≤ b → b < np
      → ltb 0 (count_of (larger (part was (was + 4 * nq - was) w)) (part (order + s) (order + e - (order + s)) w) b) ≡ is_edge (quads_of nq (part was (4 * nq) w)) a b

pub rising : {np nq was starts order s e : ℕ} {w : List ℕ} (a : ℕ) → EdgeMapHolds np nq was starts order w → a < np
    → s ≡ get_or w (starts + a) 0 → e ≡ get_or w (starts + a + 1) 0 → Rising np nq was order a s e w
unfolding first_edge edge_order
rising {np} {nq} {was} {starts} {order} {s} {e} {w} a M h fs fe =
    let Q = part was (4 * nq) w in
    let R = run_at (smaller Q) (sort_by (larger Q) np (all_corners nq)) a M.at M.begin h fs fe in
    let f : was + 4 * nq - was ≡ 4 * nq = omega arith in
    record {
      s≤ = R.s≤;
      e≤ = R.e≤;
      in_was = M.in_was;
      ascending = rw f (rw R.is (run-ascends np nq Q a M.sheet));
      is = rw f (rw R.is (run-edge np nq Q a));
    }

-- the other way round
pub edge-turned : (nq : ℕ) (Q : List ℕ) (u v : ℕ) → is_edge (quads_of nq Q) u v ≡ is_edge (quads_of nq Q) v u
edge-turned nq Q u v =
    let e : side (quads_of nq Q) u v + side (quads_of nq Q) v u ≡ side (quads_of nq Q) v u + side (quads_of nq Q) u v = omega arith in
    ap (λ (n : ℕ). ltb 0 n) e

-- the smaller point first
pub edge-rising : (nq : ℕ) (Q : List ℕ) (u v : ℕ) → is_edge (quads_of nq Q) (min u v) (max u v) ≡ is_edge (quads_of nq Q) u v
edge-rising nq Q u v = ⊎_elim
    (λ (h : u < v). let l : min u v ≡ u = omega arith in let g : max u v ≡ v = omega arith in rw (l, g))
    (λ (h : v ≤ u). let l : min u v ≡ v = omega arith in let g : max u v ≡ u = omega arith in rw (l, g) (edge-turned nq Q v u))
    (lt-or-le u v)

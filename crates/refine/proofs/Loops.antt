-- The turns of the loops of `refine`: the links from corner to corner, the numbers of the points, and the slices that are written. Assumes nothing.
use Prim.Native.Nat.{ℕ, zero, suc, ◌+◌, ◌-◌, ◌*◌, ◌/◌, ◌%◌, ◌^◌, ◌≤◌, ◌<◌}
use mathlib.Core.Path.{◌≡◌, refl, sym, ap, ◌∙◌}
use mathlib.Core.Bool.{Bool, true, false, cond}
use mathlib.Core.List.{List, [], ◌∷◌, ◌++◌, append-nil, append_assoc}
use native.Mathlib.Omega.{arith}
use native.Mathlib.Numerals.{add-one}
use lib.ListN.{length, get_or, set, take, length-append}
use lib.Seq.{take-append_seam, length-take-le}
use Rattle.std.proofs.Common.{IsTrue, EachIndex, ◌↔◌}
use Rattle.std.proofs.lemmas.List.{get_or-take}
use lib.Ieee.{Float}
use borrow.Author.Tests.{eq-eqb, ne_eqb, eqb-true, lt-ltb, ltb-true}
use Rattle.points.specs.declared.Point.{Point}
use Rattle.points.specs.Points.{halfway_p, centre_p}
use Rattle.points.specs.Steps.{with_point}
use Rattle.lists.specs.Sort.{tabulate}
use Rattle.lists.specs.Every.{every, count_to}
use Rattle.lists.specs.Regions.{part, Part, Out, Kept}
use Rattle.lists.proofs.Laws.{get_or-tab, length-tab, tab-suc}
use Rattle.lists.proofs.Every.{count-le, count-zero, bool_iff, every-each, every-at}
use Rattle.lists.proofs.Regions.{part_of, part-get, part-set, part-as, part-kept, kept_refl, kept_set, RegionFilled, region-start, region-turn, region-part, region-end, region-other}
use Rattle.rule_sheet.specs.Quads.{Quad, quad}
use Rattle.rule_sheet.specs.Flat.{corner, flat_quads}
use Rattle.sheet.specs.Flat.{with_quad}
use Rattle.rule_sheet.specs.Sheet.{flat_points}
use Rattle.sheet.specs.Results.{Front}
use Rattle.sheet.proofs.Fronts.{front-none, front-point, front-quad}
use Rattle.incidence.specs.Corners.{edge_order, Positioned}
use Rattle.refine.specs.Requests.{request_of, first_of, own, number_of, linked_to, position_in, child_at}
use Rattle.refine.specs.Loops.{low_at, Linking, Numbering, Making, Adds, made_to}
use Rattle.lists.specs.Steps.{nth}
use Rattle.edges.specs.Steps.{same_edge}
use Rattle.refine.proofs.Edges.{Same, sorted, same-yes, same-no, linked-new, linked-same, linked-end}

-- ---- the links

-- what a turn leaves
abbrev pub Linked : ℕ → ℕ → List ℕ → ℕ → ℕ → List ℕ → List ℕ → Type 0
Linked np nq Q first i v w = Part first (5 * nq) (tabulate (linked_to np nq Q (i + 1)) (5 * nq)) w × Kept (Out first (5 * nq)) v w

module _ {np nq : ℕ} {Q : List ℕ} {order first i : ℕ} {w : List ℕ} (L : Linking np nq Q order first i w) (h : i < 4 * nq) where
  here : get_or w (order + i) 0 ≡ get_or (edge_order np nq Q) i 0
  here = part-get 0 i L.at h

  before : 0 < i → get_or w (order + i - 1) 0 ≡ get_or (edge_order np nq Q) (i - 1) 0
  before p = let e : order + i - 1 ≡ order + (i - 1) = omega arith in ap (λ (k : ℕ). get_or w k 0) e ∙ part-get 0 (i - 1) L.at (omega arith)

  -- what a turn reads is in range
  pub record LinkTurn : Type 0 where
    pub positive : 0 < i
    pub fits : order + i < length w
    pub room : first + 5 * nq ≤ length w
    pub few : nq ≤ 1048576
    pub long : 4 * nq ≤ length Q
    pub here< : get_or w (order + i) 0 < 4 * nq
    pub before< : get_or w (order + i - 1) 0 < 4 * nq

  pub link-turn : 0 < i → LinkTurn
  link-turn p = record {
    positive = p;
    fits = omega (arith, L.at.fits);
    room = L.linked.fits;
    few = L.cornered.few;
    long = L.cornered.quads;
    here< = rw here ((sorted L.cornered).below i h);
    before< = rw (before p) ((sorted L.cornered).below (i - 1) (omega arith));
  }

  pub link-first : i ≡ 0 → Linked np nq Q first i w w
  link-first e = (part-as L.linked (linked-new L.cornered i h (λ p s. omega arith)), kept_refl _ w)

  pub link-other : same_edge Q (get_or w (order + i - 1) 0) (get_or w (order + i) 0) ≡ false → Linked np nq Q first i w w
  link-other e = (part-as L.linked (linked-new L.cornered i h (λ p s. same-no Q _ _ e (rw (before p, here) s))), kept_refl _ w)

  pub link-same : (x y : ℕ) → 0 < i → same_edge Q (get_or w (order + i - 1) 0) (get_or w (order + i) 0) ≡ true → x ≡ request_of (get_or w (order + i) 0) → y ≡ request_of (get_or w (order + i - 1) 0)
      → Linked np nq Q first i w (set w (first + x) (get_or w (first + y) 0))
  link-same x y p e ex ey =
      let T = link-turn p in
      let xb : x < 5 * nq = omega (arith, T.here<) in
      let yb : y < 5 * nq = omega (arith, T.before<) in
      let s : Same Q (get_or (edge_order np nq Q) (i - 1) 0) (get_or (edge_order np nq Q) i 0) = rw (before p, here) at (same-yes Q _ _ e) in
      let v : get_or w (first + y) 0 ≡ linked_to np nq Q i (request_of (get_or (edge_order np nq Q) (i - 1) 0)) =
      part-get 0 y L.linked yb ∙ get_or-tab (linked_to np nq Q i) (5 * nq) y 0 yb ∙ ap (linked_to np nq Q i) (ey ∙ ap request_of (before p)) in
      let ex' : x ≡ request_of (get_or (edge_order np nq Q) i 0) = ex ∙ ap request_of here in (
        part-as (part-set x (get_or w (first + y) 0) L.linked xb) (rw ex' (linked-same L.cornered i (get_or w (first + y) 0) h p s v)),
        kept_set (first + x) (get_or w (first + y) 0) (kept_refl (Out first (5 * nq)) w) (λ o. o (omega arith) (omega arith)),
      )

  pub link-next : {z : List ℕ} → Linked np nq Q first i w z → Linking np nq Q order first (i + 1) z
  link-next E = record { cornered = L.cornered; at = part-kept L.at E.1 L.apart; linked = E.0; apart = L.apart }

pub link-end : {np nq : ℕ} {Q : List ℕ} {order first i : ℕ} {w : List ℕ} → Linking np nq Q order first i w → i ≡ 4 * nq → Part first (5 * nq) (tabulate (first_of np nq Q) (5 * nq)) w
link-end {np} {nq} {Q} {order} {first} {i} {w} L e = part-as (rw e at L.linked) (linked-end L.cornered)

-- ---- the numbers

bit_le : (b : Bool) → cond b 1 0 ≤ 1
bit_le true = omega arith
bit_le false = omega arith

pub count-suc : (p : ℕ → Bool) (i : ℕ) → count_to p (i + 1) ≡ count_to p i + cond (p i) 1 0
unfolding count_to
count-suc p i = rw (add-one i)

module _ {n m first num : ℕ} {F : List ℕ} {t next : ℕ} {w : List ℕ} (N : Numbering n m first num F t next w) (h : t < m) (e : part first m w ≡ F) where
  read : get_or w (first + t) 0 ≡ get_or F t 0
  read = part-get 0 t (part-as (part_of first m w N.in_first) e) h

  -- what a turn reads, and what it says
  pub record NumberTurn : Type 0 where
    pub in_first : first + t < length w
    pub in_num : num + t < length w
    pub le : get_or w (first + t) 0 ≤ t
    pub small : next < 2 ^ 32
    pub new : get_or w (first + t) 0 ≡ t → next ≡ number_of n F t
    pub old : (get_or w (first + t) 0 ≡ t → ⊥) → get_or w (num + get_or w (first + t) 0) 0 ≡ number_of n F t

  pub number-turn : NumberTurn
  unfolding number_of
  number-turn =
      let le : get_or w (first + t) 0 ≤ t = rw read (N.firsts.le t h) in
      record {
        in_first = omega (arith, N.in_first);
        in_num = omega (arith, N.in_num);
        le = le;
        small = omega (arith, N.few, N.next_is, count-le (own F) t);
        new = λ q. N.next_is ∙ ap (λ (k : ℕ). n + count_to (own F) k) (sym q ∙ read);
        old = λ q.
            let b : get_or w (first + t) 0 < t = omega arith in
            part-get 0 (get_or w (first + t) 0) N.done b ∙ get_or-tab (number_of n F) t (get_or w (first + t) 0) 0 b
            ∙ ap (λ (k : ℕ). n + count_to (own F) k) (ap (λ (k : ℕ). get_or F k 0) read ∙ N.firsts.self t h);
      }

-- the invariant of the loop: v is the slice as it came
pub record NumberLoop (n m first num : ℕ) (v w : List ℕ) (next t : ℕ) : Type 0 where
  pub start : Numbering n m first num (part first m v) 0 n v
  pub filled : RegionFilled (number_of n (part first m v)) num m v w t
  pub next_is : next ≡ n + count_to (own (part first m v)) t

pub numbers-start : {n m first num : ℕ} {v : List ℕ} → Numbering n m first num (part first m v) 0 n v → NumberLoop n m first num v v n 0
numbers-start {n} {m} {first} {num} {v} N = record { start = N; filled = region-start _ num m v N.in_num; next_is = rw (count-zero (own (part first m v))) (omega arith) }

module _ {n m first num : ℕ} {v w : List ℕ} {next t : ℕ} (I : NumberLoop n m first num v w next t) where
  firsts-kept : part first m w ≡ part first m v
  firsts-kept = (region-other I.filled (part_of first m v I.start.in_first) I.start.apart).is

  pub numbers-ready : Numbering n m first num (part first m w) t next w
  numbers-ready =
      let len = I.filled.len in
      rw firsts-kept (record {
        few = I.start.few;
        firsts = I.start.firsts;
        in_first = omega (arith, I.start.in_first);
        in_num = omega (arith, I.start.in_num);
        apart = I.start.apart;
        done = region-part I.filled;
        next_is = I.next_is;
      })

  pub numbers-turn : (k o : ℕ) → t < m → k ≡ number_of n (part first m w) t → o ≡ cond (own (part first m w) t) 1 0 → NumberLoop n m first num v (set w (num + t) k) (next + o) (t + 1)
  numbers-turn k o h ek eo = record {
    start = I.start;
    filled = region-turn k I.filled h (rw firsts-kept at ek);
    next_is = omega (arith, I.next_is, count-suc (own (part first m v)) t, rw firsts-kept at eo);
  }

  -- the next number fits
  pub numbers-small : (o : ℕ) → t < m → o ≡ cond (own (part first m w) t) 1 0 → next + o ≤ n + m
  numbers-small o h e = omega (arith, I.next_is, count-le (own (part first m v)) t, bit_le (own (part first m w) t))

  pub numbers-end : m ≤ t → (next ≡ n + count_to (own (part first m v)) m) × (Part num m (tabulate (number_of n (part first m v)) m) w × Kept (Out num m) v w)
  numbers-end h =
      let e : t ≡ m = omega (arith, I.filled.i≤) in
      (rw e at I.next_is, region-end I.filled h)

-- ---- the new points

pub length-made : {A : Type 0} (F : List ℕ) (pos : ℕ → A) (t : ℕ) → length (made_to F pos t) ≡ count_to (own F) t
unfolding made_to count_to
length-made F pos zero = refl
length-made F pos (suc t) = length-append (made_to F pos t) _ ∙ go (own F t) (length-made F pos t)
  where
    go : (b : Bool) → length (made_to F pos t) ≡ count_to (own F) t → length (made_to F pos t) + length (cond b (pos t ∷ []) []) ≡ count_to (own F) t + cond b 1 0
    go true e = omega arith
    go false e = omega arith

made-suc : {A : Type 0} (F : List ℕ) (pos : ℕ → A) (t : ℕ) → made_to F pos (t + 1) ≡ made_to F pos t ++ cond (own F t) (pos t ∷ []) []
unfolding made_to
made-suc F pos t = rw (add-one t)

module _ {n m first num : ℕ} {F N w : List ℕ} {room t : ℕ} (M : Making n m first num F N w room) (h : t < m) where
  -- the number of a request, read, has room
  pub number-room : (k : ℕ) → k ≡ get_or w (num + t) 0 → k * 3 + 3 ≤ room
  number-room k e = rw (e, part-get 0 t M.numbers h) (M.rooms t h)

  pub own-read : (f : ℕ) → f ≡ get_or w (first + t) 0 → f ≡ t → own F t ≡ true
  own-read f e q = eq-eqb (get_or F t 0) t (sym (part-get 0 t M.firsts h) ∙ sym e ∙ q)

  number-own : own F t ≡ true → get_or N t 0 ≡ n + count_to (own F) t
  unfolding number_of
  number-own o =
      ap (λ (x : List ℕ). get_or x t 0) M.numbered.is ∙ get_or-tab (number_of n F) m t 0 h
      ∙ ap (λ (k : ℕ). n + count_to (own F) k) (eqb-true (get_or F t 0) t o)

  module _ {Gives : ℕ → Point → Type 0} {d s : List Float} (I : Adds Gives n m F d s t) where
    pub adds-yes : (f k : ℕ) (p : Point) {r : List Float} → f ≡ get_or w (first + t) 0 → f ≡ t → k ≡ get_or w (num + t) 0 → length s ≡ room → Gives t p → r ≡ with_point s k p
        → Adds Gives n m F d r (t + 1)
    adds-yes f k p ef q ek b g er ps pos l e gives =
        let o : own F t ≡ true = own-read f ef q in
        let i : k ≡ length (ps ++ made_to F pos t) = ek ∙ part-get 0 t M.numbers h ∙ number-own o ∙ sym (length-append ps (made_to F pos t) ∙ rw (l, length-made F pos t)) in
        rw (er, made-suc F pos t, o, ← gives t p h o g, ← append_assoc) (front-point (ps ++ made_to F pos t) k p (I ps pos l e gives) i (omega (arith, number-room k ek)))

    pub adds-no : (f : ℕ) → f ≡ get_or w (first + t) 0 → (f ≡ t → ⊥) → Adds Gives n m F d s (t + 1)
    adds-no f ef q ps pos l e gives =
        let o : own F t ≡ false = ne_eqb (get_or F t 0) t (λ i. q (ef ∙ part-get 0 t M.firsts h ∙ i)) in
        rw (made-suc F pos t, o, append-nil) (I ps pos l e gives)

pub adds-start : (Gives : ℕ → Point → Type 0) (n m : ℕ) (F : List ℕ) (d : List Float) → Adds Gives n m F d d 0
unfolding made_to
adds-start Gives n m F d ps pos l f gives = rw append-nil f

-- ---- the old points

-- what is copied stands in front
pub front-copied : {A : Type 0} {l s : List A} {n : ℕ} {x : List A} (y : List A) → Front l s → length l ≡ n → x ≡ take n s → Front l (x ++ y)
front-copied {A} {l} {s} {n} {x} y F e ex =
    let is : x ≡ l = ex ∙ rw (← e) F.is in
    rw is (record { fits = omega (arith, length-append l y); is = take-append_seam l y })

pub length-flat : (ps : List Point) → length (flat_points ps) ≡ 3 * length ps
unfolding flat_points
length-flat [] = refl
length-flat (p ∷ ps) = omega (arith, length-flat ps)

-- the first v points, and one more
pub points-none : (f : ℕ → Point) (s : List Float) → Front (flat_points (tabulate f 0)) s
unfolding tabulate flat_points
points-none f s = front-none s

pub points-more : (f : ℕ → Point) (s : List Float) (v : ℕ) (p : Point) (r : List Float) → Front (flat_points (tabulate f v)) s → v * 3 + 3 ≤ length s → p ≡ f v → r ≡ with_point s v p
    → Front (flat_points (tabulate f (v + 1))) r
points-more f s v p r F h ep er = rw (add-one v, tab-suc f v, ← ep, er) (front-point (tabulate f v) v p F (sym (length-tab f v)) h)

-- ---- the quads

-- the first c quads, and one more
pub quads-none : (f : ℕ → Quad) (s : List ℕ) → Front (flat_quads (tabulate f 0)) s
unfolding tabulate flat_quads
quads-none f s = front-none s

pub quads-more : (f : ℕ → Quad) (s : List ℕ) (c : ℕ) (r : List ℕ) → Front (flat_quads (tabulate f c)) s → 4 * c + 4 ≤ length s → r ≡ with_quad s c (f c) → Front (flat_quads (tabulate f (c + 1))) r
quads-more f s c r F h er = rw (add-one c, tab-suc f c, er) (front-quad (tabulate f c) c (f c) F (sym (length-tab f c)) h)

-- the child quad that is read from the numbers
pub child-read : (nq num c : ℕ) (Q w s r : List ℕ) → num + 5 * nq ≤ length w → c < 4 * nq
    → r ≡ with_quad s c (quad (get_or Q (4 * (c / 4) + c % 4) 0) (get_or w (num + (5 * (c / 4) + c % 4)) 0) (get_or w (num + (5 * (c / 4) + 4)) 0) (get_or w (num + (5 * (c / 4) + (c % 4 + 3) % 4)) 0))
    → r ≡ with_quad s c (child_at (nth (part num (5 * nq) w)) Q c)
child-read nq num c Q w s r h b e =
    let P = part_of num (5 * nq) w h in
    rw (← part-get 0 (5 * (c / 4) + c % 4) P (omega arith), ← part-get 0 (5 * (c / 4) + 4) P (omega arith), ← part-get 0 (5 * (c / 4) + (c % 4 + 3) % 4) P (omega arith)) e

-- ---- corners in range

-- a test that the first n corners pass, each one
pub low-all : (np n : ℕ) (Q : List ℕ) (b : Bool) → n ≤ length Q → (IsTrue b ↔ EachIndex (take n Q) (λ k. get_or (take n Q) k 0 < np)) → b ≡ every (low_at np Q) n
low-all np n Q b h s =
    let l : length (take n Q) ≡ n = length-take-le n Q h in
    bool_iff b (every (low_at np Q) n)
    (λ e. every-each (low_at np Q) n (λ k m. lt-ltb (get_or Q k 0) np (rw (get_or-take n Q k 0 m) at (s.0 e k (omega arith)))))
    (λ e. s.1 (λ k m. let o : k < n = omega arith in rw (get_or-take n Q k 0 o) (ltb-true _ _ (every-at (low_at np Q) n k e o))))

pub held-corner : {np nq : ℕ} {P : List Float} {Q : List ℕ} (q j : ℕ) → Positioned np nq P Q → q < nq → j < 4 → get_or Q (4 * q + j) 0 * 3 + 3 ≤ length P
held-corner q j H hq hj = omega (arith, H.points, H.cornered.points (4 * q + j) (omega arith))

-- ---- the position of a request

module _ (at : ℕ → Point) (Q : List ℕ) (q j : ℕ) (r : Point) where
  pub position-centre : (a b c d : Point) → j ≡ 4 → a ≡ at (corner Q q 0) → b ≡ at (corner Q q 1) → c ≡ at (corner Q q 2) → d ≡ at (corner Q q 3) → r ≡ centre_p a b c d → r ≡ position_in at Q q j
  unfolding position_in
  position-centre a b c d e ea eb ec ed er = rw (e, ← ea, ← eb, ← ec, ← ed) er

  pub position-halfway : (a b : Point) → (j ≡ 4 → ⊥) → a ≡ at (corner Q q j) → b ≡ at (corner Q q ((j + 1) % 4)) → r ≡ halfway_p a b → r ≡ position_in at Q q j
  unfolding position_in
  position-halfway a b ne ea eb er = rw (ne_eqb j 4 ne, ← ea, ← eb) er

-- What the loops of `refine` leave is the finer sheet. Assumes nothing.
use Prim.Native.Nat.{ℕ, zero, suc, ◌+◌, ◌*◌, ◌/◌, ◌%◌, ◌≤◌, ◌<◌}
use mathlib.Core.Logic.{⊎_elim}
use mathlib.Core.Path.{◌≡◌, refl, sym, ap, ◌∙◌}
use mathlib.Core.List.{List, [], ◌∷◌, ◌++◌, map, map-append, append-nil}
use native.Mathlib.Omega.{arith}
use lib.ListN.{length, get_or, length-append, length-map}
use lib.Dec.{eqb}
use lib.Ieee.{Float}
use borrow.Author.Tests.{eq-eqb, ne_eqb}
use Rattle.points.specs.declared.Point.{Point}
use Rattle.points.specs.Points.{point_at, point_in}
use Rattle.lists.specs.Sort.{tabulate}
use Rattle.lists.specs.Every.{count_to}
use Rattle.lists.proofs.Laws.{eq-or-ne, length-tab, get_or-tab, tab-ext, map-tab}
use Rattle.lists.proofs.Every.{count-ext}
use Rattle.rule_sheet.specs.declared.Counts.{Counts}
use Rattle.rule_sheet.specs.Quads.{Quad, quad}
use Rattle.rule_sheet.specs.Flat.{corner, quads_of}
use Rattle.rule_sheet.specs.FirstUse.{firsts, place}
use Rattle.rule_sheet.specs.Sheet.{Sheet, sheet_of, points_of}
use Rattle.sheet.proofs.Tests.{length-points}
use Rattle.rule_sheet.proofs.FirstUse.{used_to, own_first, used-suc, used-zero, used-new, used-old, count-used, place-used, first-unique, firsts-new, firsts-old}
use Rattle.rule_sheet.specs.Sheet.{counts_of}
use Rattle.incidence.specs.Corners.{Cornered}
use Rattle.rule_finer.specs.Finer.{split, edge_key, centre_key, asked, mid_of, cen_of, finer, position_of, requests, made, new_points, finer_sheet}
use Rattle.refine.specs.Finer.{finer_count, key_of}
use Rattle.refine.specs.Requests.{position_in, position_at, key_at, request_at, first_of, firsts_of, own, number_of, child_at, label_at}
use Rattle.refine.specs.Loops.{Firsts, made_to}
use Rattle.refine.proofs.Edges.{first-of}
use Rattle.refine.proofs.Loops.{length-made}
use Rattle.refine.proofs.Requests.{requests-flat, keys-flat, asked-made, made-snoc, made-new, made-old, labels-flat, Numbers, split-flat}

-- ---- the numbers

module _ {np nq : ℕ} {Q : List ℕ} (C : Cornered np nq Q) where
  first-at : (t : ℕ) → t < 5 * nq → get_or (firsts_of np nq Q) t 0 ≡ first_of np nq Q t
  first-at t h = get_or-tab (first_of np nq Q) (5 * nq) t 0 h

  own_at : (t : ℕ) → t < 5 * nq → own (firsts_of np nq Q) t ≡ eqb (first_of np nq Q t) t
  own_at t h = rw (first-at t h)

  first-low : (t : ℕ) → t < 5 * nq → first_of np nq Q t < 5 * nq
  first-low t h = omega (arith, (first-of C t h).le)

  pub firsts-known : Firsts (5 * nq) (firsts_of np nq Q)
  firsts-known = record {
    le = λ t h. rw (first-at t h) (first-of C t h).le;
    self = λ t h.
        let A = first-of C t h in
        let b = first-low t h in
        rw (first-at t h, first-at (first_of np nq Q t) b)
        (first-unique (first-of C (first_of np nq Q t) b) (record { le = omega arith; same = refl; least = λ r l e. A.least r l (e ∙ A.same) }));
  }

  count-own : (t : ℕ) → t ≤ 5 * nq → count_to (own (firsts_of np nq Q)) t ≡ count_to (own_first (key_at np Q) (5 * nq) (first_of np nq Q) (first-of C)) t
  count-own t h = count-ext _ _ t (λ i b. own_at i (omega arith))

  -- the keys that are asked for
  asked_is : used_to (key_at np Q) (5 * nq) ≡ asked np (quads_of nq Q)
  unfolding asked
  asked_is = ap (firsts []) (sym (keys-flat np nq Q))

  -- a request's number is that of its key
  pub number_is : (t : ℕ) → t < 5 * nq → np + place (key_at np Q t) (asked np (quads_of nq Q)) ≡ number_of np (firsts_of np nq Q) t
  unfolding number_of
  number_is t h =
      let b = first-low t h in
      let p = place-used (key_at np Q) (5 * nq) (first_of np nq Q) (first-of C) (5 * nq) t (omega arith) h in
      rw (← asked_is, p, first-at t h, count-own (first_of np nq Q t) (omega arith))

  -- as many points as are asked for
  pub count_is : np + count_to (own (firsts_of np nq Q)) (5 * nq) ≡ np + length (asked np (quads_of nq Q))
  count_is = rw (count-own (5 * nq) (omega arith), ← count-used (key_at np Q) (5 * nq) (first_of np nq Q) (first-of C) (5 * nq) (omega arith), asked_is)

  -- the keys that are asked for are those of the first requests
  asked-made-to : (t : ℕ) → t ≤ 5 * nq → used_to (key_at np Q) t ≡ made_to (firsts_of np nq Q) (key_at np Q) t
  unfolding made_to
  asked-made-to zero h = used-zero (key_at np Q)
  asked-made-to (suc t) h =
      let ih = asked-made-to t (omega arith) in
      used-suc (key_at np Q) t ∙ rw (own_at t (omega arith)) (⊎_elim
      (λ (e : first_of np nq Q t ≡ t). rw (eq-eqb (first_of np nq Q t) t e, firsts-new (key_at np Q t) (used_to (key_at np Q) t) (used-new (key_at np Q) (5 * nq) (first_of np nq Q) (first-of C) t (omega arith) e), ih))
      (λ (ne : first_of np nq Q t ≡ t → ⊥). rw (ne_eqb (first_of np nq Q t) t ne, append-nil, firsts-old (key_at np Q t) (used_to (key_at np Q) t) (used-old (key_at np Q) (5 * nq) (first_of np nq Q) (first-of C) t (omega arith) ne)) ih)
      (eq-or-ne (first_of np nq Q t) t))

  pub asked-keys : asked np (quads_of nq Q) ≡ made_to (firsts_of np nq Q) (key_at np Q) (5 * nq)
  asked-keys = sym asked_is ∙ asked-made-to (5 * nq) (omega arith)

  key-edge : (q j : ℕ) → j < 4 → key_at np Q (5 * q + j) ≡ edge_key np (corner Q q j) (corner Q q ((j + 1) % 4))
  unfolding key_at
  key-edge q j h =
      let d : (5 * q + j) / 5 ≡ q = omega arith in
      let r : (5 * q + j) % 5 ≡ j = omega arith in
      rw (d, r, ne_eqb j 4 (λ e. omega arith))

  key-centre : (q : ℕ) → key_at np Q (5 * q + 4) ≡ centre_key np q
  unfolding key_at
  key-centre q =
      let d : (5 * q + 4) / 5 ≡ q = omega arith in
      let r : (5 * q + 4) % 5 ≡ 4 = omega arith in
      rw (d, r)

  numbers : Numbers (mid_of np (quads_of nq Q)) (cen_of np (quads_of nq Q)) Q nq (number_of np (firsts_of np nq Q))
  unfolding mid_of cen_of
  numbers = record {
    edge = λ q j h l. rw (← key-edge q j l) (number_is (5 * q + j) (omega arith));
    centre = λ q h. rw (← key-centre q) (number_is (5 * q + 4) (omega arith));
  }

  -- the child quads are those of the finer sheet
  pub quads_are : tabulate (child_at (number_of np (firsts_of np nq Q)) Q) (4 * nq) ≡ finer np (quads_of nq Q)
  unfolding finer
  quads_are = sym (split-flat nq numbers (omega arith))

  -- ---- the points

  -- what the first t requests make
  made-is : (at : ℕ → Point) (t : ℕ) → t ≤ 5 * nq → map position_of (made [] (tabulate (request_at at np Q) t)) ≡ made_to (firsts_of np nq Q) (position_at at Q) t
  unfolding made_to tabulate
  made-is at zero h = refl
  made-is at (suc t) h =
      let l = tabulate (request_at at np Q) t in
      let r = request_at at np Q t in
      let ks : map key_of l ≡ tabulate (key_at np Q) t = map-tab key_of (request_at at np Q) t in
      let snoc = ap (map position_of) (made-snoc [] l r) ∙ map-append position_of (made [] l) (made (firsts [] (map key_of l)) (r ∷ [])) in
      snoc ∙ rw (made-is at t (omega arith), ks, own_at t (omega arith)) (⊎_elim
      (λ (e : first_of np nq Q t ≡ t). rw (eq-eqb (first_of np nq Q t) t e, made-new (used_to (key_at np Q) t) r (used-new (key_at np Q) (5 * nq) (first_of np nq Q) (first-of C) t (omega arith) e)))
      (λ (ne : first_of np nq Q t ≡ t → ⊥). rw (ne_eqb (first_of np nq Q t) t ne, made-old (used_to (key_at np Q) t) r (used-old (key_at np Q) (5 * nq) (first_of np nq Q) (first-of C) t (omega arith) ne)))
      (eq-or-ne (first_of np nq Q t) t))

  module _ (P : List Float) where
    -- a corner's point
    point_is : (q j : ℕ) → q < nq → j < 4 → point_in (points_of np P) (corner Q q j) ≡ point_at P (corner Q q j)
    unfolding points_of
    point_is q j h l = get_or-tab (point_at P) np (corner Q q j) _ (C.points (4 * q + j) (omega arith))

    position-is : (q j : ℕ) → q < nq → j < 5 → position_in (point_in (points_of np P)) Q q j ≡ position_in (point_at P) Q q j
    unfolding position_in
    position-is q j h l = ⊎_elim
        (λ (e : j ≡ 4). rw (e, point_is q 0 h (omega arith), point_is q 1 h (omega arith), point_is q 2 h (omega arith), point_is q 3 h (omega arith)))
        (λ (ne : j ≡ 4 → ⊥). rw (ne_eqb j 4 ne, point_is q j h (omega arith), point_is q ((j + 1) % 4) h (omega arith)))
        (eq-or-ne j 4)

    requests-are : tabulate (request_at (point_in (points_of np P)) np Q) (5 * nq) ≡ tabulate (request_at (point_at P) np Q) (5 * nq)
    requests-are = tab-ext _ _ (5 * nq) (λ t h. rw (position-is (t / 5) (t % 5) (omega arith) (omega arith)))

    -- the new points are those of the finer sheet
    pub points-are : made_to (firsts_of np nq Q) (position_at (point_at P) Q) (5 * nq) ≡ new_points (points_of np P) (quads_of nq Q)
    unfolding new_points
    points-are =
        sym (rw (length-points np P, requests-flat (point_in (points_of np P)) np nq Q, requests-are) (made-is (point_at P) (5 * nq) (omega arith)))

-- ---- the counts

length-split : (mid : ℕ → ℕ → ℕ) (cen : ℕ → ℕ) (i : ℕ) (S : List Quad) → length (split mid cen i S) ≡ 4 * length S
length-split mid cen i [] = refl
length-split mid cen i (quad a b c d ∷ S) = omega (arith, length-split mid cen (suc i) S)

-- the new points are as many as are asked for
pub length-new : (ps : List Point) (S : List Quad) → length (new_points ps S) ≡ length (asked (length ps) S)
unfolding new_points
length-new ps S =
    let l = made [] (requests (point_in ps) (length ps) 0 S) in
    length-map l position_of ∙ sym (length-map l key_of) ∙ ap length (asked-made (point_in ps) (length ps) S)

-- the finer sheet has as many points, quads and labels as its definitions say
pub finer-count : (s : Sheet) → length (finer_sheet s).points ≡ finer_count (length s.points) s.quads
unfolding finer_sheet finer_count
finer-count s = length-append s.points (new_points s.points s.quads) ∙ rw (length-new s.points s.quads)

pub finer-four : (n : ℕ) (S : List Quad) → length (finer n S) ≡ 4 * length S
unfolding finer
finer-four n S = length-split (mid_of n S) (cen_of n S) 0 S

-- the finer sheet of the lent one
module _ (c : Counts) (P : List Float) (Q labels : List ℕ) (C : Cornered c.points c.quads Q) (same : c.labels ≡ c.quads) (long : c.labels ≤ length labels) where
  abbrev pub finer_of : Sheet
  finer_of = finer_sheet (sheet_of c P Q labels)

  pub finer-points : finer_of.points ≡ points_of c.points P ++ made_to (firsts_of c.points c.quads Q) (position_at (point_at P) Q) (5 * c.quads)
  unfolding finer_sheet
  finer-points = rw (points-are C P)

  pub finer-quads : finer_of.quads ≡ tabulate (child_at (number_of c.points (firsts_of c.points c.quads Q)) Q) (4 * c.quads)
  unfolding finer_sheet
  finer-quads = rw (length-points c.points P, quads_are C)

  pub finer-labels : finer_of.labels ≡ tabulate (label_at labels) (4 * c.quads)
  unfolding finer_sheet
  finer-labels = rw same (labels-flat c.quads labels (omega arith))

  pub finer-counts : (n : ℕ) → n ≡ c.points + count_to (own (firsts_of c.points c.quads Q)) (5 * c.quads)
      → counts_of finer_of ≡ record { points = n; quads = 4 * c.quads; labels = 4 * c.quads }
  finer-counts n e =
      let a : length finer_of.points ≡ n = rw finer-points (length-append (points_of c.points P) _ ∙ rw (length-points c.points P, length-made (firsts_of c.points c.quads Q) (position_at (point_at P) Q) (5 * c.quads)) (sym e)) in
      let b : length finer_of.quads ≡ 4 * c.quads = rw (finer-quads, length-tab) in
      let d : length finer_of.labels ≡ 4 * c.quads = rw (finer-labels, length-tab) in
      rw (a, b, d)

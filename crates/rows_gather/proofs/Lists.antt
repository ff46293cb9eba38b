-- The corners at which strips run, listed in the work slice one place at a time. Assumes nothing.
use Prim.Native.Nat.{ℕ, ◌+◌, ◌*◌, ◌/◌, ◌≤◌, ◌<◌, zero, suc}
use mathlib.Core.Path.{◌≡◌, refl, sym, ap, ◌∙◌}
use mathlib.Core.Bool.{Bool, true, false, not, cond}
use mathlib.Core.List.{List, [], ◌∷◌, ◌++◌, append-nil, append_assoc}
use native.Mathlib.Omega.{arith}
use native.Mathlib.Numerals.{add-one}
use lib.Dec.{eqb}
use lib.ListN.{length, get_or, set, length-set, get_or-eq_default}
use lib.Seq.{get_or-set_same}
use lib.Ieee.{Float}
use Rattle.lists.specs.Regions.{part, Part, Out, Kept}
use Rattle.lists.proofs.Every.{and_left}
use Rattle.lists.proofs.Regions.{part-len, part-get, part-set-out, part-as, kept_refl, kept_set, kept_then}
use Rattle.rule_sheet.specs.Edges.{join_to}
use Rattle.incidence.specs.Corners.{Cornered, edge_order}
use Rattle.edges.specs.Steps.{pair_at}
use Rattle.edges.proofs.Walk.{pair-next}
use Rattle.refine.specs.Loops.{order_at}
use Rattle.refine.proofs.Edges.{sorted}
use Rattle.subdivide_points.proofs.Sums.{part-suc}
use Rattle.rows_gather.specs.Steps.{seam_at, seam_corners, seams_to, seams_of, seams_at, Seaming, Labelled}
use mathlib.Core.Logic.{⊎_elim}
use Rattle.lists.proofs.Laws.{lt-or-le}
use Rattle.lists.proofs.Order.{Each}
use Rattle.subdivide_points.proofs.Moved.{each_append}

-- ---- one place

pub seam-next : (Q labels : List ℕ) (n : ℕ) (L : List ℕ) (i : ℕ) (t : Bool) → t ≡ seam_at Q labels n L i → t ≡ true → i + 1 < n
unfolding seam_at
seam-next Q labels n L i t et e = pair-next Q n L i (and_left _ _ (sym et ∙ e))

module _ {np nq : ℕ} {Q w : List ℕ} (C : Cornered np nq Q) (P : Part (order_at np nq) (4 * nq) (edge_order np nq Q) w) where
  pub place_read : (j c : ℕ) → j < 4 * nq → c ≡ get_or w (order_at np nq + j) 0 → c ≡ get_or (edge_order np nq Q) j 0
  place_read j c h e = e ∙ part-get 0 j P h

  pub place-low : (j c : ℕ) → j < 4 * nq → c ≡ get_or w (order_at np nq + j) 0 → c < 4 * nq
  place-low j c h e = rw (place_read j c h e) ((sorted C).below j h)

  module _ (i : ℕ) (k : Bool) (h : i < 4 * nq) (ek : k ≡ pair_at Q (4 * nq) (part (order_at np nq) (4 * nq) w) i) where
    pair_is : k ≡ pair_at Q (4 * nq) (edge_order np nq Q) i
    pair_is = ek ∙ ap (λ (l : List ℕ). pair_at Q (4 * nq) l i) P.is

    pub two-next : k ≡ true → i + 1 < 4 * nq
    two-next e = pair-next Q (4 * nq) (edge_order np nq Q) i (sym pair_is ∙ e)

    pub seam-yes : (labels : List ℕ) (x y a b : ℕ) → k ≡ true → x ≡ get_or w (order_at np nq + i) 0 → y ≡ get_or w (order_at np nq + (i + 1)) 0 → a ≡ get_or labels (x / 4) 0 → b ≡ get_or labels (y / 4) 0
        → not (eqb a b) ≡ seam_at Q labels (4 * nq) (edge_order np nq Q) i
    unfolding seam_at
    seam-yes labels x y a b e ex ey ea eb = rw (← pair_is, e, ea, eb, place_read i x h ex, place_read (i + 1) y (two-next e) ey)

    pub seam-no : (labels : List ℕ) → k ≡ false → false ≡ seam_at Q labels (4 * nq) (edge_order np nq Q) i
    unfolding seam_at
    seam-no labels e = rw (← pair_is, e)

-- ---- the list of the corners

part-snoc : {at n : ℕ} {l w : List ℕ} (x : ℕ) → Part at n l w → at + n < length w → Part at (n + 1) (l ++ (x ∷ [])) (set w (at + n) x)
part-snoc {at} {n} {l} {w} x P h =
    let O = part-set-out (at + n) x P (λ p q. omega arith) in
    record {
      fits = rw length-set (omega arith);
      is = part-suc 0 at n (set w (at + n) x) (rw length-set h) ∙ rw (O.is, get_or-set_same w (at + n) x 0 h);
    }

seams-suc : (Q labels : List ℕ) (n : ℕ) (L : List ℕ) (i : ℕ) → seams_to Q labels n L (i + 1) ≡ seams_to Q labels n L i ++ seam_corners Q labels n L i
unfolding seams_to join_to
seams-suc Q labels n L i = rw (add-one i)

module _ {np nq : ℕ} {Q labels : List ℕ} {i next : ℕ} {w : List ℕ} (S : Seaming np nq Q labels i next w) (h : i < 4 * nq) (t : Bool) (et : t ≡ seam_at Q labels (4 * nq) (edge_order np nq Q) i) where
  pub seam-stay : t ≡ false → Seaming np nq Q labels (i + 1) next w × Kept (Out (seams_at np nq) (8 * nq)) w w
  unfolding seam_corners
  seam-stay e = (
    record {
      cornered = S.cornered;
      labelled = S.labelled;
      order = S.order;
      room = S.room;
      next≤ = omega (arith, S.next≤);
      done = part-as S.done (sym (seams-suc Q labels (4 * nq) (edge_order np nq Q) i ∙ rw (← et, e, append-nil)));
    },
    kept_refl _ w,
  )

  pub seam-turn : t ≡ true
      → Seaming np nq Q labels (i + 1) (next + 2) (set (set w (seams_at np nq + next) (get_or w (order_at np nq + i) 0)) (seams_at np nq + (next + 1)) (get_or (set w (seams_at np nq + next) (get_or w (order_at np nq + i) 0)) (order_at np nq + (i + 1)) 0))
      × Kept (Out (seams_at np nq) (8 * nq)) w (set (set w (seams_at np nq + next) (get_or w (order_at np nq + i) 0)) (seams_at np nq + (next + 1)) (get_or (set w (seams_at np nq + next) (get_or w (order_at np nq + i) 0)) (order_at np nq + (i + 1)) 0))
  unfolding seam_corners
  seam-turn e =
      let x = get_or w (order_at np nq + i) 0 in
      let u = set w (seams_at np nq + next) x in
      let y = get_or u (order_at np nq + (i + 1)) 0 in
      let v = set u (seams_at np nq + (next + 1)) y in
      let b = seam-next Q labels (4 * nq) (edge_order np nq Q) i t et e in
      let lu : length u ≡ length w = length-set w (seams_at np nq + next) x in
      let lv : length v ≡ length u = length-set u (seams_at np nq + (next + 1)) y in
      let ou : Part (order_at np nq) (4 * nq) (edge_order np nq Q) u = part-set-out (seams_at np nq + next) x S.order (λ p q. omega arith) in
      let ov : Part (order_at np nq) (4 * nq) (edge_order np nq Q) v = part-set-out (seams_at np nq + (next + 1)) y ou (λ p q. omega arith) in
      let a = part-snoc x S.done (omega (arith, S.room, S.next≤)) in
      let z : seams_at np nq + next + 1 ≡ seams_at np nq + (next + 1) = omega arith in
      let d = part-snoc y a (omega (arith, S.room, S.next≤)) in
      let f : (seams_to Q labels (4 * nq) (edge_order np nq Q) i ++ (x ∷ [])) ++ (y ∷ []) ≡ seams_to Q labels (4 * nq) (edge_order np nq Q) (i + 1) =
      append_assoc (seams_to Q labels (4 * nq) (edge_order np nq Q) i) (x ∷ []) (y ∷ [])
      ∙ rw (seams-suc Q labels (4 * nq) (edge_order np nq Q) i, ← et, e, place_read S.cornered ou (i + 1) y b refl, place_read S.cornered S.order i x h refl) in
      let m : next + 1 + 1 ≡ next + 2 = omega arith in (
        record {
          cornered = S.cornered;
          labelled = S.labelled;
          order = ov;
          room = omega (arith, S.room);
          next≤ = omega (arith, S.next≤);
          done = part-as (rw m at d) f;
        },
        kept_set (seams_at np nq + (next + 1)) y (kept_set (seams_at np nq + next) x (kept_refl _ w) (λ o. o (omega arith) (omega (arith, S.next≤)))) (λ o. o (omega arith) (omega (arith, S.next≤))),
      )

-- the invariant of the loop over the places: v is the slice as it came
pub record SeamLoop (np nq : ℕ) (Q labels : List ℕ) (v w : List ℕ) (next i : ℕ) : Type 0 where
  pub here : Seaming np nq Q labels i next w
  pub kept : Kept (Out (seams_at np nq) (8 * nq)) v w

pub seams-start : {np nq : ℕ} {Q labels v : List ℕ} → Seaming np nq Q labels 0 0 v → SeamLoop np nq Q labels v v 0 0
seams-start S = record { here = S; kept = kept_refl _ _ }

pub seams-turn : {np nq : ℕ} {Q labels v w u : List ℕ} {next i r : ℕ} → SeamLoop np nq Q labels v w next i → Seaming np nq Q labels (i + 1) r u × Kept (Out (seams_at np nq) (8 * nq)) w u → SeamLoop np nq Q labels v u r (i + 1)
seams-turn I S = record { here = S.0; kept = kept_then I.kept S.1 (λ i o. (o, o)) }

pub seams-end : {np nq : ℕ} {Q labels v w : List ℕ} {next i : ℕ} → SeamLoop np nq Q labels v w next i → i ≡ 4 * nq
    → (next ≡ length (seams_of np nq Q labels)) × (Part (seams_at np nq) (length (seams_of np nq Q labels)) (seams_of np nq Q labels) w × Kept (Out (seams_at np nq) (8 * nq)) v w)
unfolding seams_of
seams-end {np} {nq} {Q} {labels} {v} {w} {next} {i} I e =
    let P : Part (seams_at np nq) next (seams_to Q labels (4 * nq) (edge_order np nq Q) (4 * nq)) w = rw e at I.here.done in
    let n : next ≡ length (seams_to Q labels (4 * nq) (edge_order np nq Q) (4 * nq)) = sym (part-len P) in
    (n, (rw n at P, I.kept))

-- ---- they are corners of the sheet

module _ {np nq : ℕ} {P : List Float} {Q labels : List ℕ} (L : Labelled np nq P Q labels) where
  order-low : (j : ℕ) → 0 < nq → get_or (edge_order np nq Q) j 0 < 4 * nq
  order-low j some = ⊎_elim
      (λ (h : j < 4 * nq). (sorted L.held.cornered).below j h)
      (λ (h : 4 * nq ≤ j). rw (get_or-eq_default (edge_order np nq Q) 0 {n = j} (omega (arith, (sorted L.held.cornered).len))) (omega arith))
      (lt-or-le j (4 * nq))

  pub seams-low : (n : ℕ) → 0 < nq → Each 0 (λ c. c < 4 * nq) (seams_to Q labels (4 * nq) (edge_order np nq Q) n)
  unfolding seams_to join_to seam_corners
  seams-low zero some = λ i h. absurd (omega arith)
  seams-low (suc n) some = each_append 0 (λ c. c < 4 * nq) (join_to (seam_corners Q labels (4 * nq) (edge_order np nq Q)) n) (seam_corners Q labels (4 * nq) (edge_order np nq Q) n) (seams-low n some) (go (seam_at Q labels (4 * nq) (edge_order np nq Q) n))
    where
      go : (b : Bool) → Each 0 (λ c. c < 4 * nq) (cond b (get_or (edge_order np nq Q) n 0 ∷ get_or (edge_order np nq Q) (n + 1) 0 ∷ []) [])
      go true zero h = order-low n some
      go true (suc zero) h = order-low (n + 1) some
      go true (suc (suc i)) h = absurd (omega arith)
      go false i h = absurd (omega arith)

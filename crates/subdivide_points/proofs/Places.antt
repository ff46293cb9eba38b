-- Where the new points come to, by the first corner of each edge, and the points of the smoothed sheet. Assumes nothing.
use Prim.Native.Nat.{ℕ, zero, suc, ◌+◌, ◌-◌, ◌*◌, ◌/◌, ◌%◌, ◌<◌}
use mathlib.Core.Path.{◌≡◌, refl, sym, ap, ◌∙◌}
use mathlib.Core.Bool.{Bool, true, false, cond}
use mathlib.Core.Logic.{⊎_elim}
use mathlib.Core.List.{List, [], ◌∷◌, ◌++◌, map, map-append}
use native.Mathlib.Omega.{arith}
use native.Mathlib.Nat.{mul-add-div_right, div-eq_of_lt, mul-add-mod_self_right, mod-eq_of_lt}
use lib.ListN.{get_or}
use lib.Ieee.{Float}
use borrow.Author.Tests.{eqb-true, ne_eqb, lt-ltb, le-ltb}
use Rattle.lists.specs.Sort.{tabulate}
use Rattle.lists.proofs.Laws.{eq-or-ne, get_or-tab, tab-ext}
use Rattle.rule_sheet.specs.Quads.{all, mask_of}
use Rattle.rule_sheet.specs.Flat.{quads_of}
use Rattle.sheet.specs.Edges.{smaller, larger}
use Rattle.rule_sheet.specs.Tests.{proper}
use Rattle.sheet.proofs.Tests.{length-points}
use Rattle.incidence.specs.Corners.{Cornered, edge_order}
use Rattle.refine.specs.Requests.{request_of, key_at, first_of, firsts_of, own}
use Rattle.refine.specs.Loops.{made_to}
use Rattle.refine.proofs.Edges.{sorted, before-less, key-corner, key-centre, edge-below, low_of, high-of, first-of}
use Rattle.refine.proofs.Sheet.{asked-keys}
use Rattle.rule_finer.specs.Smoothed.{paired, is_crease, edge_place, new_place, smooth_places, smooth_sheet}
use Rattle.subdivide_points.specs.Steps.{Ends, corner_centre, moved_point, edge_at, corner_of, place_at, flat_sheet}
use Rattle.subdivide_points.proofs.EdgeList.{edge_no, edge_of, corner-low, corner-high}
use Rattle.subdivide_points.proofs.Moved.{old_in, edge_in, new_in, point_is, centre-is, quad-of, label_of, moved-is}

-- ---- what the first requests make

made-ext : {A : Type 0} (F : List ℕ) (f g : ℕ → A) (t : ℕ) → ((i : ℕ) → i < t → own F i ≡ true → f i ≡ g i) → made_to F f t ≡ made_to F g t
unfolding made_to
made-ext F f g zero h = refl
made-ext F f g (suc t) h = rw (made-ext F f g t (λ i b e. h i (omega arith) e)) (ap (λ l. made_to F g t ++ l) (go (own F t) refl))
  where
    go : (b : Bool) → own F t ≡ b → cond b (f t ∷ []) [] ≡ cond b (g t ∷ []) []
    go true e = rw (h t (omega arith) e)
    go false e = refl

made-map : {A B : Type 0} (F : List ℕ) (f : A → B) (g : ℕ → A) (t : ℕ) → map f (made_to F g t) ≡ made_to F (λ i. f (g i)) t
unfolding made_to
made-map F f g zero = refl
made-map F f g (suc t) = rw (map-append f (made_to F g t), made-map F f g t) (ap (λ l. made_to F (λ i. f (g i)) t ++ l) (go (own F t)))
  where
    go : (b : Bool) → map f (cond b (g t ∷ []) []) ≡ cond b (f (g t) ∷ []) []
    go true = refl
    go false = refl

-- ---- the first corner of an edge

-- corner c is the first of edge k
pub record FirstCorner (np nq : ℕ) (Q : List ℕ) (c : ℕ) : Type 0 where
  pub k : ℕ
  pub k< : k < 2 * nq
  pub at : get_or (edge_order np nq Q) (2 * k) 0 ≡ c

module _ {np nq : ℕ} {Q : List ℕ} (C : Cornered np nq Q) (good : all (proper np) (quads_of nq Q) ≡ true) (pr : paired np (quads_of nq Q) ≡ true) where
  -- the first request of an edge is that of its first corner
  pub first-corner : (t : ℕ) → t < 5 * nq → (t % 5 ≡ 4 → ⊥) → own (firsts_of np nq Q) t ≡ true → FirstCorner np nq Q (corner_of t)
  first-corner t h ne o =
      let I = (sorted C).has (corner_of t) (omega arith) in
      let b : I.t < 4 * nq = omega (arith, I.t<, (sorted C).len) in
      ⊎_elim
      (λ (e : I.t % 2 ≡ 0).
      let i : 2 * (I.t / 2) ≡ I.t = omega arith in
      record { k = I.t / 2; k< = omega arith; at = rw i I.at })
      (λ (e : I.t % 2 ≡ 0 → ⊥). absurd (second (I.t / 2) (omega arith) (let i : 2 * (I.t / 2) + 1 ≡ I.t = omega arith in rw i I.at)))
      (eq-or-ne (I.t % 2) 0)
    where
      own_is : first_of np nq Q t ≡ t
      own_is = sym (get_or-tab (first_of np nq Q) (5 * nq) t 0 h) ∙ eqb-true _ _ o

      back : request_of (corner_of t) ≡ t
      back = omega arith

      less : (c d : ℕ) → c < d → request_of c < request_of d
      less c d l = omega arith

      -- it is not that of the second one
      second : (k : ℕ) → k < 2 * nq → get_or (edge_order np nq Q) (2 * k + 1) 0 ≡ corner_of t → ⊥
      second k b e =
          let c = get_or (edge_order np nq Q) (2 * k) 0 in
          let d = get_or (edge_order np nq Q) (2 * k + 1) 0 in
          let z : 2 * k + 0 ≡ 2 * k = omega arith in
          let lo : smaller Q c ≡ smaller Q d = rw z at (corner-low C good pr k 0 b (omega arith)) ∙ sym (corner-low C good pr k 1 b (omega arith)) in
          let hi : larger Q c ≡ larger Q d = rw z at (corner-high C good pr k 0 b (omega arith)) ∙ sym (corner-high C good pr k 1 b (omega arith)) in
          let l : c < d = before-less (smaller Q) (larger Q) c d ((sorted C).order (2 * k) (2 * k + 1) (omega arith) (omega arith)) lo hi in
          let r : request_of c < first_of np nq Q t = rw (own_is, ← back, ← e) (less c d l) in
          (first-of C t h).least (request_of c) r (key-corner np Q c ∙ rw (lo, hi) (sym (key-corner np Q d)) ∙ ap (key_at np Q) (ap request_of e ∙ back))

  module _ (P : List Float) (labels : List ℕ) where
    -- the point of edge k
    edge-is : (k : ℕ) → k < 2 * nq → edge_at P Q labels (get_or (edge_order np nq Q) (2 * k) 0) (get_or (edge_order np nq Q) (2 * k + 1) 0)
        ≡ edge_in (flat_sheet np nq P Q labels) (smaller Q (get_or (edge_order np nq Q) (2 * k) 0)) (larger Q (get_or (edge_order np nq Q) (2 * k) 0))
    unfolding edge_at edge_place is_crease corner_centre
    edge-is k h =
        let z : 2 * k + 0 ≡ 2 * k = omega arith in
        let c< : get_or (edge_order np nq Q) (2 * k) 0 < 4 * nq = (sorted C).below (2 * k) (omega arith) in
        let d< : get_or (edge_order np nq Q) (2 * k + 1) 0 < 4 * nq = (sorted C).below (2 * k + 1) (omega arith) in
        let lo : smaller Q (get_or (edge_order np nq Q) (2 * k) 0) ≡ (edge_no C good pr k).low = rw z at (corner-low C good pr k 0 h (omega arith)) in
        let hi : larger Q (get_or (edge_order np nq Q) (2 * k) 0) ≡ (edge_no C good pr k).high = rw z at (corner-high C good pr k 0 h (omega arith)) in
        let l< : (edge_no C good pr k).low < np = rw lo at (low_of C (get_or (edge_order np nq Q) (2 * k) 0) c<) in
        let h< : (edge_no C good pr k).high < np = rw hi at (high-of C (get_or (edge_order np nq Q) (2 * k) 0) c<) in
        rw (
          lo,
          hi,
          (edge_of C good pr k h).joined,
          label_of C good pr P labels k 0 h (omega arith),
          label_of C good pr P labels k 1 h (omega arith),
          quad-of C good pr P labels k 0 h (omega arith),
          quad-of C good pr P labels k 1 h (omega arith),
          z,
          centre-is C P labels (get_or (edge_order np nq Q) (2 * k) 0 / 4) (omega arith),
          centre-is C P labels (get_or (edge_order np nq Q) (2 * k + 1) 0 / 4) (omega arith),
          point_is C P labels (edge_no C good pr k).low l<,
          point_is C P labels (edge_no C good pr k).high h<,
        )

    -- the point of a first request
    module _ (D : List ℕ) (seconds : (k : ℕ) → k < 2 * nq → get_or D (get_or (edge_order np nq Q) (2 * k) 0) 0 ≡ get_or (edge_order np nq Q) (2 * k + 1) 0) where
      place_is : (t : ℕ) → t < 5 * nq → own (firsts_of np nq Q) t ≡ true → place_at P Q labels D t ≡ new_in (flat_sheet np nq P Q labels) (key_at np Q t)
      unfolding place_at new_place
      place_is t h o = ⊎_elim
          (λ (e : t % 5 ≡ 4).
          let s : np * np + t / 5 - np * np ≡ t / 5 = omega arith in
          rw (e, key-centre np Q t e, length-points np P, le-ltb (np * np + t / 5) (np * np) (omega arith), s) (centre-is C P labels (t / 5) (omega arith)))
          (λ (ne : t % 5 ≡ 4 → ⊥).
          let F = first-corner t h ne o in
          let c = get_or (edge_order np nq Q) (2 * F.k) 0 in
          let c< : c < 4 * nq = (sorted C).below (2 * F.k) (omega (arith, F.k<)) in
          let sl = low_of C c c< in
          let ll = high-of C c c< in
          let back : request_of (corner_of t) ≡ t = omega arith in
          let key : key_at np Q t ≡ smaller Q c * np + larger Q c = ap (key_at np Q) (sym (ap request_of F.at ∙ back)) ∙ key-corner np Q c in
          let q : (smaller Q c * np + larger Q c) / np ≡ smaller Q c = omega (arith, mul-add-div_right {m = np} (omega arith) (smaller Q c) (larger Q c), div-eq_of_lt {n = larger Q c} {m = np} ll) in
          let r : (smaller Q c * np + larger Q c) % np ≡ larger Q c = mul-add-mod_self_right (smaller Q c) np (larger Q c) ∙ mod-eq_of_lt ll in
          rw (ne_eqb (t % 5) 4 ne, key, length-points np P, lt-ltb (smaller Q c * np + larger Q c) (np * np) (edge-below np (smaller Q c) (larger Q c) sl ll), q, r, ← F.at, seconds F.k F.k<) (edge-is F.k F.k<))
          (eq-or-ne (t % 5) 4)

      -- the points of the smoothed sheet
      pub points-are : (H : List ℕ) (m : ℕ → ℕ) → Ends nq Q (edge_order np nq Q) H → ((v : ℕ) → v < np → m v ≡ mask_of (quads_of nq Q) (flat_sheet np nq P Q labels).labels v)
          → tabulate (λ v. moved_point nq P Q labels (edge_order np nq Q) H (m v) v) np ++ made_to (firsts_of np nq Q) (place_at P Q labels D) (5 * nq) ≡ (smooth_sheet (flat_sheet np nq P Q labels)).points
      unfolding smooth_sheet smooth_places
      points-are H m ends masks =
          rw (
            length-points np P,
            tab-ext _ (old_in (flat_sheet np nq P Q labels)) np (λ v b. moved-is C good pr P labels H ends v b (m v) (masks v b)),
            made-ext (firsts_of np nq Q) (place_at P Q labels D) (λ t. new_in (flat_sheet np nq P Q labels) (key_at np Q t)) (5 * nq) (λ t b o. place_is t b o),
            asked-keys C,
            made-map (firsts_of np nq Q) (new_in (flat_sheet np nq P Q labels)) (key_at np Q) (5 * nq),
          )

-- What the functions over one point and over one request read, and what they answer. Assumes nothing.
use Prim.Native.Nat.{ℕ, zero, suc, ◌+◌, ◌-◌, ◌*◌, ◌/◌, ◌%◌, ◌≤◌, ◌<◌}
use mathlib.Core.Path.{◌≡◌, refl, sym, ap, ◌∙◌}
use mathlib.Core.Bool.{Bool, true, false}
use mathlib.Core.List.{List, [], ◌∷◌, map}
use native.Mathlib.Omega.{arith}
use lib.ListN.{length, get_or, length-map}
use lib.Ieee.{Float}
use borrow.Author.Tests.{eq-eqb, ne_eqb, lt-ltb, le-ltb}
use Rattle.points.specs.declared.Point.{Point}
use Rattle.points.specs.Points.{point_at, halfway_p}
use Rattle.lists.specs.Sort.{cons_if, tabulate, itself, keep}
use Rattle.lists.specs.Regions.{part}
use Rattle.lists.proofs.Order.{Each, each-bucket, below-tab}
use Rattle.lists.proofs.Regions.{part_of, part-len, part-get}
use Rattle.rule_sheet.specs.Flat.{quad_at}
use Rattle.sheet.specs.Edges.{point_corners}
use Rattle.incidence.specs.Corners.{key_of, Positioned}
use Rattle.incidence.specs.Marks.{Incident}
use Rattle.incidence.specs.declared.Key.TheVariants.{Smaller, Larger}
use Rattle.incidence.proofs.Marks.{around}
use Rattle.incidence.proofs.Corners.{key_below}
use Rattle.smoothing.specs.Smooth.{sum_of, halfway, edge_point, interior_by, interior, by_creases, smooth}
use Rattle.smoothing.specs.Rounded.{pointwise}
use Rattle.smoothing.proofs.Coordinates.{halfway-by}
use Rattle.refine.specs.Loops.{order_at}
use Rattle.subdivide_points.specs.declared.Creases.{Creases}
use Rattle.rule_sheet.specs.Places.{centre_of}
use Rattle.subdivide_points.specs.Steps.{ones_of, corner_centre, other_end, halfway_to, crease_at, crease_ends, creases_of, moved_by, interior_at, moved_point, edge_at, corner_of, place_at, masks_at, Spans, Lead, moved_in}
use Rattle.subdivide_points.proofs.Moved.{map-map}

-- ---- the corners of a point

pub span_of : {np nq : ℕ} {Q : List ℕ} {v starts list : ℕ} {w : List ℕ} (s e : ℕ) → Incident np nq Q starts list 0 w → v < np → s ≡ get_or w (starts + v) 0 → e ≡ get_or w (starts + v + 1) 0
    → Spans nq Q v (part (list + s) (list + e - (list + s)) w)
span_of {np} {nq} {Q} {v} {starts} {list} {w} s e I h es ee =
    let A = around I h in
    let d : list + e - (list + s) ≡ e - s = omega arith in
    let P = part_of (list + s) (e - s) w (omega (arith, es, ee, A.s≤, A.e≤, A.fits)) in
    let n : length (part (list + s) (e - s) w) ≡ e - s = part-len P in
    let is : part (list + s) (e - s) w ≡ point_corners Q nq v = rw (es, ee) A.list in
    rw d (record {
      is = is;
      low = λ j b. let l : j < get_or w (starts + v + 1) 0 - get_or w (starts + v) 0 = omega arith in rw (es, ee) (A.marking.known j l);
      few = omega (arith, A.e≤);
    })

-- ---- inside one label

halves_are : (p : Point) (P : List Float) (H l : List ℕ) → map (halfway pointwise p) (map (point_at P) (map (other_end H) l)) ≡ map (halfway_to p P H) l
unfolding halfway_to
halves_are p P H l = rw (map-map (point_at P) (other_end H) l, map-map (halfway pointwise p) (λ i. point_at P (other_end H i)) l)

pub interior-is : {nq : ℕ} {Q H : List ℕ} {v n m : ℕ} {x y : List ℕ} (P : List Float) (p faces edges r : Point) → Spans nq Q v x → Spans nq H v y → n ≡ length x → m ≡ length y → p ≡ point_at P v
    → faces ≡ sum_of pointwise (map (corner_centre P Q) x) → edges ≡ sum_of pointwise (map (halfway_to p P H) y) → r ≡ interior_by pointwise p n faces m edges → r ≡ interior_at nq P Q H v
unfolding interior_at interior
interior-is {nq} {Q} {H} {v} {n} {m} {x} {y} P p faces edges r A B en em ep ef ee er =
    let k : length (map (corner_centre P Q) (point_corners Q nq v)) ≡ n = length-map (point_corners Q nq v) (corner_centre P Q) ∙ sym (en ∙ ap length A.is) in
    let l : length (map (point_at P) (map (other_end H) (point_corners H nq v))) ≡ m = length-map (map (other_end H) (point_corners H nq v)) (point_at P) ∙ length-map (point_corners H nq v) (other_end H) ∙ sym (em ∙ ap length B.is) in
    rw (k, l, halves_are (point_at P v) P H (point_corners H nq v), ← ep, ← A.is, ← B.is, ← ef, ← ee) er

-- ---- by the creases

moved-creases : (P : List Float) (l : List ℕ) (p q : Point) → moved_by P (creases_of l) p q ≡ by_creases pointwise p q (map (point_at P) l)
unfolding moved_by creases_of
moved-creases P [] p q = refl
moved-creases P (a ∷ []) p q = refl
moved-creases P (a ∷ b ∷ []) p q = refl
moved-creases P (a ∷ b ∷ c ∷ l) p q = refl

-- ---- by the labels and the creases

module _ (np nq : ℕ) (P : List Float) (Q labels H w : List ℕ) (v : ℕ) where
  pub old-stays : (m : ℕ) (r : Point) → m ≡ ones_of (get_or w (masks_at np nq + v) 0) → 2 < m → r ≡ point_at P v → r ≡ moved_in np nq P Q labels H w v
  unfolding moved_point smooth
  old-stays m r em h er = rw (← em, lt-ltb 2 m h) er

  pub old-moved : {l : List ℕ} (m : ℕ) (c : Creases) (r : Point) → m ≡ ones_of (get_or w (masks_at np nq + v) 0) → m ≤ 2 → Spans nq H v l
      → c ≡ creases_of (crease_ends labels (part (order_at np nq) (4 * nq) w) H l) → r ≡ moved_by P c (point_at P v) (interior_at nq P Q H v) → r ≡ moved_in np nq P Q labels H w v
  unfolding moved_point smooth interior_at
  old-moved {l} m c r em h S ec er =
      rw (← em, le-ltb 2 m h, ← S.is, ← moved-creases P (crease_ends labels (part (order_at np nq) (4 * nq) w) H l) (point_at P v), ← ec) (rw (← S.is) at er)

-- the creases lead to points
module _ (np nq : ℕ) (labels E H : List ℕ) (low : (i : ℕ) → i < 4 * nq → get_or H i 0 < np) (some : 0 < np) where
  other-low : (i : ℕ) → i < 4 * nq → other_end H i < np
  unfolding other_end
  other-low i h = low (i / 2 * 2 + (i + 1) % 2) (omega arith)

  ends_low : (l : List ℕ) → Each 0 (λ i. i < 4 * nq) l → (k : ℕ) → get_or (crease_ends labels E H l) k 0 < np
  ends_low [] h k = some
  ends_low (x ∷ l) h k = go (crease_at labels E x) k (ends_low l (λ i b. h (suc i) (omega arith)))
    where
      go : (b : Bool) (k : ℕ) → ((k : ℕ) → get_or (crease_ends labels E H l) k 0 < np) → get_or (map (other_end H) (cons_if b x (keep (crease_at labels E) l))) k 0 < np
      go true zero f = other-low x (h 0 (omega arith))
      go true (suc k) f = f k
      go false k f = f k

  lead_to : (l : List ℕ) → ((k : ℕ) → get_or l k 0 < np) → Lead np (creases_of l)
  unfolding creases_of
  lead_to [] f = tt
  lead_to (a ∷ []) f = tt
  lead_to (a ∷ b ∷ []) f = (f 0, f 1)
  lead_to (a ∷ b ∷ c ∷ l) f = tt

  pub creases-low : {v : ℕ} {l : List ℕ} (c : Creases) → Spans nq H v l → c ≡ creases_of (crease_ends labels E H l) → Lead np c
  creases-low {v} {l} c S e =
      let each = each-bucket 0 (λ x. x < 4 * nq) (λ i. get_or H i 0) v (tabulate itself (4 * nq)) (below-tab (4 * nq)).each in
      rw (e, S.is) (lead_to (crease_ends labels E H (point_corners H nq v)) (ends_low (point_corners H nq v) each))

-- ---- the point of an edge

-- the ends of a corner's edge are points
pub edge-low : {np nq : ℕ} {P : List Float} {Q : List ℕ} (c k : ℕ) → Positioned np nq P Q → c < 4 * nq → k ≡ key_of Q Smaller c → k * 3 + 3 ≤ length P
edge-low c k h b e = omega (arith, h.points, key_below Smaller c h.cornered b)

pub edge-high : {np nq : ℕ} {P : List Float} {Q : List ℕ} (c k : ℕ) → Positioned np nq P Q → c < 4 * nq → k ≡ key_of Q Larger c → k * 3 + 3 ≤ length P
edge-high c k h b e = omega (arith, h.points, key_below Larger c h.cornered b)

module _ (P : List Float) (Q labels : List ℕ) (c d k l x y : ℕ) (a b : Point) (ek : k ≡ key_of Q Smaller c) (el : l ≡ key_of Q Larger c) (ea : a ≡ point_at P k) (eb : b ≡ point_at P l)
    (ex : x ≡ get_or labels (c / 4) 0) (ey : y ≡ get_or labels (d / 4) 0) where
  pub edge-crease : (r : Point) → (x ≡ y → ⊥) → r ≡ halfway_p a b → r ≡ edge_at P Q labels c d
  unfolding edge_at key_of
  edge-crease r t er = rw (← ex, ← ey, ne_eqb x y t, ← ek, ← el, ← ea, ← eb, halfway-by) er

  pub edge-inside : (f g r : Point) → x ≡ y → f ≡ corner_centre P Q c → g ≡ corner_centre P Q d → r ≡ edge_point pointwise a b f g → r ≡ edge_at P Q labels c d
  unfolding edge_at key_of
  edge-inside f g r t ef eg er = rw (← ex, ← ey, eq-eqb x y t, ← ek, ← el, ← ea, ← eb, ← ef, ← eg) er

pub centre-of : (P : List Float) (Q : List ℕ) (c : ℕ) (r : Point) → r ≡ centre_of (point_at P) (quad_at Q (c / 4)) → r ≡ corner_centre P Q c
unfolding corner_centre
centre-of P Q c r e = e

-- ---- the point of a request

module _ (P : List Float) (Q labels : List ℕ) (t : ℕ) (r : Point) where
  pub place-centre : (D : List ℕ) → t % 5 ≡ 4 → r ≡ centre_of (point_at P) (quad_at Q (t / 5)) → r ≡ place_at P Q labels D t
  unfolding place_at
  place-centre D e er = rw e er

  pub place-edge : (nq second : ℕ) (w : List ℕ) (d : ℕ) → second + 4 * nq ≤ length w → t < 5 * nq → (t % 5 ≡ 4 → ⊥) → d ≡ get_or w (second + corner_of t) 0 → r ≡ edge_at P Q labels (corner_of t) d
      → r ≡ place_at P Q labels (part second (4 * nq) w) t
  unfolding place_at
  place-edge nq second w d h b ne ed er = rw (ne_eqb (t % 5) 4 ne, ← part-get 0 (corner_of t) (part_of second (4 * nq) w h) (omega arith), ← ed) er

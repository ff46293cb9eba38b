-- The cells, drawn one after the other: their points, and the numbers in their slots. Assumes nothing.
use Prim.Native.Nat.{ℕ, ◌+◌, ◌*◌, ◌/◌, ◌%◌, ◌≤◌, ◌<◌}
use mathlib.Core.Path.{◌≡◌, refl, sym, ap, ◌∙◌}
use mathlib.Core.Bool.{true}
use mathlib.Core.Logic.{⊎_elim}
use mathlib.Core.List.{List, ◌++◌}
use native.Mathlib.Omega.{arith}
use native.Mathlib.Numerals.{add-one}
use lib.ListN.{length, get_or, length-append}
use lib.Ieee.{Float}
use Rattle.lists.proofs.Laws.{eq-or-ne}
use Rattle.rule_sheet.specs.Edges.{join_to}
use Rattle.rule_sheet.specs.Sheet.{flat_points}
use Rattle.sheet.specs.Results.{Front}
use Rattle.rule_extract.specs.declared.Grid.{Grid}
use Rattle.rule_extract.specs.Lattice.{site_at}
use Rattle.rule_extract.specs.Paths.{edge_crosses}
use Rattle.extract_paths.specs.Paths.{Pathed}
use Rattle.rule_extract.specs.Drawing.{points_in, points_to}
use Rattle.extract_points.specs.Slots.{CellPaths, put_points, slot_number, Numbered}
use Rattle.extract_points.proofs.Putting.{put-append, put_front}
use Rattle.extract_grid.proofs.Joins.{join-below}
use Rattle.extract_points.specs.Vertices.{AllNumbered}

-- the first e cells are drawn: v and s are the slots and the coordinates as they came
pub record Drawn (g : Grid) (n : ℕ) (v : List ℕ) (s : List Float) (w : List ℕ) (t : List Float) (place e : ℕ) : Type 0 where
  pub place_is : place ≡ length (points_to g n e)
  pub put : t ≡ put_points (points_to g n e) 0 s
  pub done : (i j : ℕ) → i < e → j < 12 → edge_crosses g (site_at n i) j ≡ true → get_or w (12 * i + j) 0 ≡ slot_number g n (site_at n i) j
  pub rest : (k : ℕ) → 12 * e ≤ k → get_or w k 0 ≡ get_or v k 0

pub drawn-start : (g : Grid) (n : ℕ) (v : List ℕ) (s : List Float) → Drawn g n v s v s 0 0
unfolding points_to join_to put_points
drawn-start g n v s = record {
  place_is = refl;
  put = refl;
  done = λ i j h l x. absurd (omega arith);
  rest = λ k h. refl;
}

-- ---- what a cell asks

module _ {g : Grid} {n : ℕ} {v : List ℕ} {s : List Float} {w : List ℕ} {t : List Float} {place e : ℕ} (D : Drawn g n v s w t place e) (h : e < n * n * n) where
  -- its slots have the paths still
  pub cell-paths : Pathed g n v (12 * (n * n * n)) → length w ≡ length v → CellPaths g (site_at n e) e w
  cell-paths P l = record {
    fits = let a = P.fits in omega arith;
    is = λ j b x.
        let q : (12 * e + j) / 12 ≡ e = omega arith in
        let r : (12 * e + j) % 12 ≡ j = omega arith in
        D.rest (12 * e + j) (omega arith) ∙ (rw (q, r) at (P.is (12 * e + j) (omega arith)) x);
  }

  -- its points are among all points
  pub place-room : place + length (points_in g n e) ≤ length (points_to g n (n * n * n))
  unfolding points_to
  place-room = let b = join-below (points_in g n) e (n * n * n) h in let q = D.place_is in omega arith

  -- ---- and what it leaves

  joined : points_to g n (e + 1) ≡ points_to g n e ++ points_in g n e
  unfolding points_to join_to
  joined = rw (add-one e)

  pub drawn-turn : {z : List ℕ} {u : List Float} {r : ℕ} → (r ≡ place + length (points_in g n e)) × ((u ≡ put_points (points_in g n e) place t) × Numbered g n (site_at n e) e w z)
      → Drawn g n v s z u r (e + 1)
  drawn-turn E = record {
    place_is = E.0 ∙ rw (D.place_is, joined) (sym (length-append (points_to g n e) (points_in g n e)));
    put = let z : 0 + place ≡ place = omega arith in E.1.0 ∙ rw (joined, put-append (points_to g n e) (points_in g n e) 0 s, ← D.put, ← D.place_is, z);
    done = λ i j a b x. ⊎_elim
        (λ (q : i ≡ e). rw q (E.1.1.is j b (rw q at x)))
        (λ (q : i ≡ e → ⊥). E.1.1.below (12 * i + j) (omega arith) ∙ D.done i j (omega arith) b x)
        (eq-or-ne i e);
    rest = λ k a. E.1.1.above k (omega arith) ∙ D.rest k (omega arith);
  }

-- all cells are drawn
pub drawn-end : {g : Grid} {n : ℕ} {v : List ℕ} {s : List Float} {w : List ℕ} {t : List Float} {place e : ℕ} → Drawn g n v s w t place e → e ≡ n * n * n
    → Pathed g n v (12 * (n * n * n)) → length w ≡ length v → 3 * length (points_to g n (n * n * n)) ≤ length s
    → (place ≡ length (points_to g n (n * n * n))) × (Front (flat_points (points_to g n (n * n * n))) t × AllNumbered g n w)
drawn-end {g} {n} {v} {s} {w} {t} {place} {e} D q P l r = (
  D.place_is ∙ ap (λ m. length (points_to g n m)) q,
  (
    rw (D.put, q) (put_front (points_to g n (n * n * n)) s r),
    record { fits = let f = P.fits in omega arith; is = λ i j b h x. D.done i j (omega arith) h x },
  ),
)

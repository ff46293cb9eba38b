-- The projection of points in place, one after the other. Assumes nothing.
use Prim.Native.Nat.{ℕ, ◌+◌, ◌*◌, ◌≤◌, ◌<◌}
use mathlib.Core.Path.{◌≡◌, refl, sym, ◌∙◌}
use mathlib.Core.Bool.{true, false}
use mathlib.Core.List.{List}
use native.Mathlib.Omega.{arith}
use native.Mathlib.Numerals.{add-one}
use lib.ListN.{length, get_or, set}
use lib.Seq.{get_or-set_other}
use lib.Ieee.{Float, nan}
use Rattle.lists.specs.Sort.{tabulate}
use Rattle.lists.specs.Every.{every}
use Rattle.lists.proofs.Laws.{length-tab, tab-suc}
use Rattle.lists.proofs.Every.{every-zero, every-suc, every-fails}
use Rattle.points.specs.declared.Point.{Point}
use Rattle.points.specs.Points.{point_at}
use Rattle.points.specs.Steps.{with_point}
use Rattle.band.specs.declared.Band.{Band}
use Rattle.band.specs.Bands.{length_of}
use Rattle.projection.specs.Project.{longest_move, look_count, project_with, project_of, onto_of}
use Rattle.rule_sheet.specs.Sheet.{flat_points}
use Rattle.sheet.specs.Results.{Front}
use Rattle.sheet.proofs.Fronts.{front-none, front-point, length-with}
use Rattle.subdivide.specs.Steps.{land_at, lands_of, landed_to}
use Rattle.std.specs.Prelude.{Some, None, Option}

-- a point put elsewhere leaves this one
with-other : (s : List Float) (v u : ℕ) (p : Point) → (u ≡ v → ⊥) → point_at (with_point s v p) u ≡ point_at s u
unfolding point_at with_point
with-other s v u p ne = simp (at (u * 3) (λ e. omega arith) (λ e. omega arith) (λ e. omega arith), at (u * 3 + 1) (λ e. omega arith) (λ e. omega arith) (λ e. omega arith), at (u * 3 + 2) (λ e. omega arith) (λ e. omega arith) (λ e. omega arith))
  where
    at : (k : ℕ) → (k ≡ v * 3 → ⊥) → (k ≡ v * 3 + 1 → ⊥) → (k ≡ v * 3 + 2 → ⊥)
        → get_or (set (set (set s (v * 3) p.x) (v * 3 + 1) p.y) (v * 3 + 2) p.z) k nan ≡ get_or s k nan
    at k a b c = rw (get_or-set_other (set (set s (v * 3) p.x) (v * 3 + 1) p.y) (v * 3 + 2) k p.z nan c, get_or-set_other (set s (v * 3) p.x) (v * 3 + 1) k p.y nan b, get_or-set_other s (v * 3) k p.x nan a)

-- the projection that the code asks for
pub project-is : (b : Band) (s : List Float) (v k : ℕ) (len : Float) (p : Point) (r : Option Point) → r ≡ project_with b len longest_move look_count p k → len ≡ length_of b → p ≡ point_at s v
    → r ≡ project_with b (length_of b) longest_move look_count (point_at s v) k
project-is b s v k len p r er el ep = er ∙ rw (el, ep)

-- the first v of n points are projected, the others are as they were in P
pub record Landed (b : Band) (P : List Float) (M : List ℕ) (n : ℕ) (s : List Float) (v : ℕ) : Type 0 where
  pub v≤ : v ≤ n
  pub len : length s ≡ length P
  pub front : Front (flat_points (landed_to b P M v)) s
  pub rest : (u : ℕ) → v ≤ u → point_at s u ≡ point_at P u
  pub all : every (lands_of b P M) v ≡ true

pub landed-start : (b : Band) (P : List Float) (M : List ℕ) (n : ℕ) → Landed b P M n P 0
unfolding landed_to tabulate flat_points
landed-start b P M n = record {
  v≤ = omega arith;
  len = refl;
  front = front-none P;
  rest = λ u h. refl;
  all = every-zero (lands_of b P M);
}

module _ {b : Band} {P : List Float} {M : List ℕ} {n : ℕ} {s : List Float} {v : ℕ} (I : Landed b P M n s v) (r : Option Point) (k : ℕ) (e : k ≡ get_or M v 0) (er : r ≡ project_with b (length_of b) longest_move look_count (point_at s v) k) where
  land-is : r ≡ land_at b P M v
  unfolding land_at project_of
  land-is = er ∙ rw (e, I.rest v (omega arith))

  pub landed-turn : (p : Point) (s' : List Float) → v < n → 3 * n ≤ length P → r ≡ Some p → s' ≡ with_point s v p → Landed b P M n s' (v + 1)
  unfolding landed_to
  landed-turn p s' h room eo es =
      let l : land_at b P M v ≡ Some p = sym land-is ∙ eo in
      record {
        v≤ = omega arith;
        len = rw es (length-with s v p ∙ I.len);
        front = rw (add-one v, tab-suc (λ u. onto_of (land_at b P M u)) v, l, es) (front-point (landed_to b P M v) v p I.front (sym (length-tab _ v)) (omega (arith, I.len)));
        rest = λ u g. rw es (with-other s v u p (λ q. omega arith) ∙ I.rest u (omega arith));
        all = every-suc (lands_of b P M) v I.all (rw l);
      }

  pub landed-fails : v < n → r ≡ None → false ≡ every (lands_of b P M) n
  landed-fails h eo =
      let l : land_at b P M v ≡ None = sym land-is ∙ eo in
      sym (every-fails (lands_of b P M) n v h (rw l))

pub landed-end : {b : Band} {P : List Float} {M : List ℕ} {n : ℕ} {s : List Float} {v : ℕ} → Landed b P M n s v → n ≤ v → (true ≡ every (lands_of b P M) n) × Front (flat_points (landed_to b P M n)) s
landed-end {b} {P} {M} {n} {s} {v} I h = let e : v ≡ n = omega (arith, I.v≤) in (sym (rw e at I.all), rw e at I.front)

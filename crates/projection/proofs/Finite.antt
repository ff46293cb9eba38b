-- A projection that is not refused is finite. Assumes nothing.
use Prim.Native.Nat.{ℕ, ◌%◌}
use mathlib.Core.Path.{◌≡◌, refl, ap}
use mathlib.Core.Bool.{Bool, true, false, cond, not, ◌&&◌, false≢true, and-eq-true_iff}
use lib.Dec.{eqb}
use lib.Ieee.{Float, lt}
use Rattle.numeric.specs.Num.{finite_of}
use Rattle.points.specs.declared.Point.{Point}
use Rattle.points.specs.Points.{◌⊕◌, ◌⊖◌, ◌⊗◌, finite_p}
use Rattle.band.specs.declared.Band.{Band}
use Rattle.band.specs.Bands.{length_of}
use Rattle.projection.specs.Project.{longest_move, look_count, beyond, free_part_of, on_faces_of, target_of, walk_from, within_of, inside_of, close_of, close_after, project_with, project_of, is_onto, onto_of}
use Rattle.std.specs.Prelude.{Some, None, Option}

coordinate-finite : (v lo hi slack : Float) → within_of v lo hi slack ≡ true → finite_of v ≡ true
unfolding within_of
coordinate-finite v lo hi slack e =
    let low = not (lt v (lo ⊖ slack)) in
    ((and-eq-true_iff (finite_of v) low).0 ((and-eq-true_iff (finite_of v && low) (not (lt (hi ⊕ slack) v))).0 e).0).0

within-finite : (low high p : Point) (len : Float) → inside_of low high p len ≡ true → finite_p p ≡ true
unfolding inside_of finite_p
within-finite low high p len e =
    let x = within_of p.x low.x high.x (len ⊗ beyond) in
    let y = within_of p.y low.y high.y (len ⊗ beyond) in
    let xyz = (and-eq-true_iff (x && y) (within_of p.z low.z high.z (len ⊗ beyond))).0 e in
    let xy = (and-eq-true_iff x y).0 xyz.0 in
    rw (coordinate-finite p.x _ _ _ xy.0, coordinate-finite p.y _ _ _ xy.1, coordinate-finite p.z _ _ _ xyz.1)

close-finite : (low high p : Point) (len : Float) (r : Point) → close_of low high p len ≡ Some r → finite_p r ≡ true
unfolding close_of
close-finite low high p len r = go (inside_of low high p len) refl
  where
    go : (t : Bool) → inside_of low high p len ≡ t → cond t (Some p) None ≡ Some r → finite_p r ≡ true
    go true i e = let q : p ≡ r = ap onto_of e in rw (← q) (within-finite low high p len i)
    go false i e = absurd (false≢true (ap is_onto e))

after-finite : (low high : Point) (len : Float) (x : Option Point) (r : Point) → close_after low high len x ≡ Some r → finite_p r ≡ true
after-finite low high len (Some q) r e = close-finite low high q len r e
after-finite low high len None r e = absurd (false≢true (ap is_onto e))

either : (t : Bool) (r : Point) (x y : Option Point) → (x ≡ Some r → finite_p r ≡ true) → (y ≡ Some r → finite_p r ≡ true) → cond t x y ≡ Some r → finite_p r ≡ true
either true r x y f g e = f e
either false r x y f g e = g e

pub project-finite : (b : Band) (p : Point) (mask : ℕ) (r : Point) → project_of b p mask ≡ Some r → finite_p r ≡ true
unfolding project_of project_with
project-finite b p mask r =
    let q = on_faces_of b.low b.high p mask in
    let walked = walk_from look_count b.field (length_of b) longest_move (target_of b.lower b.upper mask) (free_part_of mask) q in
    either (eqb (mask % 4) 0) r _ _ (close-finite b.low b.high q (length_of b) r) (after-finite b.low b.high (length_of b) walked r)

-- the same of the point that a projection leads to
pub onto-finite : (b : Band) (p : Point) (mask : ℕ) → is_onto (project_of b p mask) ≡ true → finite_p (onto_of (project_of b p mask)) ≡ true
onto-finite b p mask = go (project_of b p mask) (project-finite b p mask)
  where
    go : (x : Option Point) → ((r : Point) → x ≡ Some r → finite_p r ≡ true) → is_onto x ≡ true → finite_p (onto_of x) ≡ true
    go (Some r) f e = f r refl
    go None f e = absurd (false≢true e)

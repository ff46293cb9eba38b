-- A walk after some of its looks, by one look more, and a walk whose looks are all taken. Assumes nothing.
use mathlib.Core.Path.{◌≡◌, refl}
use Prim.Native.Nat.{ℕ, suc, ◌+◌, ◌-◌, ◌<◌, ◌≤◌}
use native.Mathlib.Omega.{arith}
use lib.Ieee.{Float}
use Rattle.points.specs.declared.Point.{Point}
use Rattle.field.specs.declared.Field.{Field}
use Rattle.projection.specs.Project.{walk_from, look_of, after_look}
use Rattle.std.specs.Prelude.{None}

pub walk_step : (n i : ℕ) (f : Field) (len longest t : Float) (free q : Point) → i < n
    → walk_from (n - i) f len longest t free q ≡ after_look (look_of f len longest t free q) q (walk_from (n - (i + 1)) f len longest t free)
unfolding walk_from
walk_step n i f len longest t free q h = let e : n - i ≡ suc (n - (i + 1)) = omega arith in rw e refl

pub walk_none : (n i : ℕ) (f : Field) (len longest t : Float) (free q : Point) → n ≤ i → walk_from (n - i) f len longest t free q ≡ None
unfolding walk_from
walk_none n i f len longest t free q h = let e : n - i ≡ 0 = omega arith in rw e refl

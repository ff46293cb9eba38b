-- `band::levels_valid` meets its contract. Assumes nothing.
use mathlib.Core.Path.{◌≡◌}
use mathlib.Core.Bool.{Bool, ◌&&◌}
use lib.Ieee.{Float, lt}
use Rattle.numeric.specs.Num.{finite_of}
use Rattle.band.specs.Bands.{levels_valid_of}
use Rattle.band.proofs.levels_valid.Goals as goal

by_parts : (l u : Float) {f g : Bool} → f ≡ finite_of l → g ≡ finite_of u → (f && g && lt l u) ≡ levels_valid_of l u
unfolding levels_valid_of
by_parts l u e h = rw (e, h)

pub returns : goal.returns
returns c = by_parts _ _ c.is_finite.ensures c.is_finite-2.ensures

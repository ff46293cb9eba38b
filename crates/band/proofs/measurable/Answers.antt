-- `band::measurable` meets its contract. Assumes nothing.
use mathlib.Core.Path.{◌≡◌}
use mathlib.Core.Bool.{Bool, ◌&&◌}
use Rattle.band.specs.declared.Band.{Band}
use Rattle.band.specs.Bands.{box_valid_of, measurable_levels_of, measurable_of}
use Rattle.band.proofs.measurable.Goals as goal

by_parts : (b : Band) {l x : Bool} → l ≡ measurable_levels_of b.lower b.upper → x ≡ box_valid_of b → (l && x) ≡ measurable_of b
unfolding measurable_of
by_parts b e h = rw (e, h)

pub returns : goal.returns
returns c = by_parts _ c.measurable_levels.ensures c.box_valid.ensures

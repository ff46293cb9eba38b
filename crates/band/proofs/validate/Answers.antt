-- `band::validate` meets its contract. Assumes nothing.
use mathlib.Core.Path.{◌≡◌}
use mathlib.Core.Bool.{Bool, ◌&&◌}
use Rattle.band.specs.declared.Band.{Band}
use Rattle.band.specs.Bands.{box_valid_of, levels_valid_of, valid_of}
use Rattle.band.proofs.validate.Goals as goal

by_parts : (b : Band) {l x : Bool} → l ≡ levels_valid_of b.lower b.upper → x ≡ box_valid_of b → (l && x) ≡ valid_of b
unfolding valid_of
by_parts b e h = rw (e, h)

pub returns : goal.returns
returns c = by_parts _ c.levels_valid.ensures c.box_valid.ensures

-- A test as a number. Assumes nothing.
use mathlib.Core.Path.{◌≡◌, refl}
use mathlib.Core.Bool.{Bool, true, false}
use Rattle.std.specs.Int.{from_bool}
use Rattle.rule_sheet.specs.Quads.{num}

-- std's number of a test is the rules'
pub bit-num : (b : Bool) → from_bool b ≡ num b
bit-num true = refl
bit-num false = refl

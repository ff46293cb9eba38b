-- `export_band::at_or_nan` meets its contract. Assumes nothing.
use native.Mathlib.Omega.{arith}
use Rattle.std.proofs.lemmas.Grind.{common_steps}
use Rattle.std.proofs.lemmas.Option.{unwrap_or-slice_get}
use Rattle.export_band.proofs.Told.{nan-bits}
use Rattle.export_band.proofs.at_or_nan.Goals as goal

pub returns : goal.returns
returns c = let e = rw nan-bits at c.unwrap_or.ensures in grind (arith, common_steps, unwrap_or-slice_get)

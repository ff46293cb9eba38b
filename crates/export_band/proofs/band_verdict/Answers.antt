-- `export_band::band_verdict` meets its contract. Assumes nothing.
use mathlib.Core.Path.{sym, ◌∙◌}
use Rattle.export_band.proofs.band_verdict.Goals as goal

pub returns-then-is_short_told : goal.returns-then-is_short_told
returns-then-is_short_told c = rw (sym c.is_short_told.ensures ∙ c.if-is_short_told.true)

pub returns : goal.returns
returns c = rw (sym c.is_short_told.ensures ∙ c.if-is_short_told.false)

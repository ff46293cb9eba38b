-- `export_band::band_of` meets its contract. Assumes nothing.
use mathlib.Core.Path.{ap, ◌∙◌}
use Rattle.rule_exports.specs.Told.{field_of}
use Rattle.export_band.proofs.Told.{band-read}
use Rattle.export_band.proofs.band_of.Goals as goal

pub returns : goal.returns
returns c =
    band-read c.args.kind c.args.numbers.now c.args.bounds.now c.args.lower c.args.upper c.at_or_nan.ensures c.at_or_nan-2.ensures c.at_or_nan-3.ensures c.at_or_nan-4.ensures c.at_or_nan-5.ensures c.at_or_nan-6.ensures (c.field_of-field.ensures ∙ ap (field_of c.args.kind) c.coefficients.ensures) c.lower_of.ensures

-- `extract_points::slot_label` meets its contract. Assumes nothing.
use native.Mathlib.Omega.{arith}
use mathlib.Core.Path.{◌∙◌}
use Rattle.extract_points.proofs.Numbers.{label_is, no_label}
use Rattle.extract_points.proofs.slot_label.Goals as goal

pub crossing_at-requires : goal.crossing_at-requires
crossing_at-requires c =
    record { cell_at = c.requires.cell_at; e_bound = c.requires.e_bound; e_value = c.requires.e_value }

pub returns-then-e-eq0 : goal.returns-then-e-eq0
returns-then-e-eq0 c =
    let the_pair = label_is _ _ _ c.if-e-eq0.true c.sample.ensures c.crossing_at.ensures in record { value = c.from.ensures ∙ the_pair.0; upper_bound = rw c.from.ensures the_pair.1 }

pub returns : goal.returns
returns c = record { value = no_label _ _ _ c.if-e-eq0.false; upper_bound = omega arith }

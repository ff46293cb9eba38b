-- `extract_points::cell_count` meets its contract. Assumes nothing.
use native.Mathlib.Omega.{arith}
use mathlib.Core.Logic.{inl, inr}
use Rattle.extract_grid.proofs.Places.{some-side}
use Rattle.extract_paths.proofs.Slots.{case-read, cell-read}
use Rattle.extract_points.proofs.Counts.{no-points, known-cell, counted, near-read}
use Rattle.extract_points.proofs.cell_count.Goals.{then-case-eq0-via-then-case-eq0, then-case-eq0-via-else-case-eq0+then-case-eq255}
use Rattle.extract_points.proofs.cell_count.Goals as goal

pub site_at-c-requires : goal.site_at-c-requires
site_at-c-requires c = some-side _ _ c.requires.e_bound

pub case_at-case-requires : goal.case_at-case-requires
case_at-case-requires c = cell-read _ _ c.requires.samples c.requires.e_bound c.site_at-c.ensures

pub returns-then-case-eq0 : goal.returns-then-case-eq0
returns-then-case-eq0 c =
    record { value = no-points _ _ c.site_at-c.ensures (case-read _ _ c.requires.samples c.requires.e_bound c.site_at-c.ensures c.case_at-case.ensures) (elim c.then-case-eq0.branch [ then-case-eq0-via-then-case-eq0 w ↦ inl w.if-case-eq0.true | then-case-eq0-via-else-case-eq0+then-case-eq255 w ↦ inr w.if-case-eq255.true ]); upper_bound = omega arith }

pub cell_groups-groups-requires : goal.cell_groups-groups-requires
cell_groups-groups-requires c =
    record {
      near = near-read _ _ c.requires.samples c.requires.e_bound c.site_at-c.ensures;
      case_value = case-read _ _ c.requires.samples c.requires.e_bound c.site_at-c.ensures c.case_at-case.ensures;
      kind_value = c.cell_kind-kind.ensures;
    }

pub returns : goal.returns
returns c =
    record { value = counted _ c.site_at-c.ensures (known-cell (case-read _ _ c.requires.samples c.requires.e_bound c.site_at-c.ensures c.case_at-case.ensures) c.cell_kind-kind.ensures c.cell_groups-groups.ensures) c.rank.ensures.value; upper_bound = c.rank.ensures.upper_bound }

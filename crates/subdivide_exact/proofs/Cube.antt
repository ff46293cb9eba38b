-- There are sheets that the theorem speaks of at every point: the unit cube with one label. Assumes nothing.
use Prim.Native.Nat.{ℕ, ◌<◌}
use mathlib.Core.Path.{◌≡◌, refl}
use mathlib.Core.Bool.{true}
use lib.ListN.{length, replicate}
use lib.Ieee.{of_bits}
use Rattle.lists.specs.Every.{every}
use Rattle.points.specs.Points.{finite_p}
use Rattle.smoothing.specs.Fractions.{Fraction}
use Rattle.rule_sheet.specs.Quads.{mask_of, pack_to}
use Rattle.rule_sheet.specs.Edges.{edges_of, join_to}
use Rattle.rule_sheet.specs.Tests.{good_corners, good_masks, in_range, distinct, good_mask}
use Rattle.rule_sheet.specs.Sheet.{Sheet, is_bare}
use Rattle.rule_sheet.specs.Lent.{is_large}
use Rattle.rule_sheet.specs.Sound.{AcceptedSheet}
use Rattle.rule_finer.specs.Smoothed.{edge_quads, paired}
use Rattle.cases.specs.Cases.{cube}
use Rattle.subdivide_exact.specs.Paper.{NoCrease, VertexPoint, EverySheet, OneLabel}
use Rattle.subdivide_exact.proofs.Paper.{catmull-clark}
use Rattle.subdivide_exact.proofs.OneLabel.{one_label}

-- the unit cube, all its quads labelled 0
abbrev pub cube_sheet : Sheet
cube_sheet = record { points = cube.points; quads = cube.quads; labels = replicate 6 0 }

cube-accepted : AcceptedSheet cube_sheet
unfolding cube is_large is_bare good_corners good_masks in_range distinct good_mask mask_of pack_to every finite_p of_bits
cube-accepted = record { not_large = refl; not_bare = refl; corners = refl; masks = refl }

cube-paired : paired (length cube_sheet.points) cube_sheet.quads ≡ true
unfolding cube paired edges_of join_to edge_quads
cube-paired = refl

-- no crease is in the way
pub cube-free : NoCrease cube_sheet
unfolding OneLabel
cube-free = one_label cube_sheet 0 cube-accepted cube-paired refl

-- so each of its eight points comes to the paper's new vertex point
pub cube-points : (at : ℕ → Fraction) (v : ℕ) → v < length cube_sheet.points → VertexPoint cube_sheet at v
unfolding EverySheet
cube-points at v h = (catmull-clark cube_sheet at cube-accepted cube-paired).vertex_points v h (cube-free.points v).0 (cube-free.points v).1

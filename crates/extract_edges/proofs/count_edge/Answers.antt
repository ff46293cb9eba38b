-- `extract_edges::count_edge` meets its contract. Assumes nothing.
use native.Mathlib.Omega.{arith}
use mathlib.Core.Bool.{not, beq}
use mathlib.Core.Path.{refl}
use Rattle.extract_edges.proofs.Counts.{edge-crosses, counted-by, byte-le, edge-lt, edges_few}
use Rattle.extract_edges.proofs.count_edge.Goals as goal

pub begins_inside-requires : goal.begins_inside-requires
begins_inside-requires c =
    record { samples = c.requires.samples; row_in = c.requires.row_at.within; j_bound = c.requires.j_bound }

pub ends_inside-requires : goal.ends_inside-requires
ends_inside-requires c =
    record { samples = c.requires.samples; row_in = c.requires.row_at.within; j_bound = c.requires.j_bound }

pub overflow_add-result : goal.overflow_add-result
overflow_add-result c =
    let l = edge-lt _ _ _ c.requires.row_at.r< c.requires.j_bound in
    let m = edges_few _ c.requires.row_at.within.n≤ in
    let k = byte-le (not (beq c.begins_inside.result c.ends_inside.result)) in
    omega (arith, c.requires.counted.count≤, c.from.ensures)

pub returns : goal.returns
returns c =
    counted-by _ c.requires.counted (edge-crosses _ _ _ c.requires.row_at c.requires.j_bound c.begins_inside.ensures c.ends_inside.ensures refl).1 c.from.ensures

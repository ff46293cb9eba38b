-- `extract_quads::put_edge` meets its contract. Assumes nothing.
use native.Mathlib.Omega.{arith}
use Rattle.extract_edges.proofs.Counts.{edge-crosses, edge-lt, edges_few}
use Rattle.extract_quads.proofs.Turns.{drawn-fits, drawn-same, drawn-more}
use Rattle.extract_quads.proofs.put_edge.Goals as goal

pub begins_inside-sign-requires : goal.begins_inside-sign-requires
begins_inside-sign-requires c =
    record { samples = c.requires.samples; row_in = c.requires.row_at.within; j_bound = c.requires.j_bound }

pub ends_inside-requires : goal.ends_inside-requires
ends_inside-requires c =
    record { samples = c.requires.samples; row_in = c.requires.row_at.within; j_bound = c.requires.j_bound }

pub returns-then-sign-ends_inside : goal.returns-then-sign-ends_inside
returns-then-sign-ends_inside c =
    drawn-same c.requires.drawn (edge-crosses _ _ _ c.requires.row_at c.requires.j_bound c.begins_inside-sign.ensures c.ends_inside.ensures c.if-sign-ends_inside.true).1

pub put_quad-requires : goal.put_quad-requires
put_quad-requires c =
    let X = edge-crosses _ _ _ c.requires.row_at c.requires.j_bound c.begins_inside-sign.ensures c.ends_inside.ensures c.if-sign-ends_inside.false in
    let F = drawn-fits _ c.requires.drawn c.requires.row_at c.requires.j_bound X.1 in
    record { all_numbered = c.requires.all_numbered; row_in = c.requires.row_at.within; j_bound = c.requires.j_bound; axis_value = X.0; sign_value = c.begins_inside-sign.ensures; place_in_bounds = F.quads; place_in_bounds_2 = F.labels< }

pub overflow_add-result : goal.overflow_add-result
overflow_add-result c =
    let l = edge-lt _ _ _ c.requires.row_at.r< c.requires.j_bound in let m = edges_few _ c.requires.row_at.within.n≤ in omega (arith, c.requires.drawn.counted.count≤)

pub returns : goal.returns
returns c =
    let X = edge-crosses _ _ _ c.requires.row_at c.requires.j_bound c.begins_inside-sign.ensures c.ends_inside.ensures c.if-sign-ends_inside.false in
    drawn-more _ c.requires.drawn c.requires.row_at c.requires.j_bound X.1 (c.put_quad.ensures.quads_after, c.put_quad.ensures.labels_after)

-- `rows_copies::inward_at` meets its contract. Assumes nothing.
use native.Mathlib.Omega.{arith}
use Rattle.rows_copies.proofs.Copies.{inward-by}
use Rattle.rows_copies.proofs.inward_at.Goals as goal

pub span_at-s-requires : goal.span_at-s-requires
span_at-s-requires c = record { incident = c.requires.incident; v_lt_np = c.requires.v_lt_np }

pub centres_at-c-requires : goal.centres_at-c-requires
centres_at-c-requires c =
    record { positioned = c.requires.labelled.held; nq_in_bounds = c.requires.labelled.labelled; low = c.span_at-s.ensures.low; few = omega (arith, c.span_at-s.ensures.few, c.requires.labelled.held.cornered.few) }

pub point_at-requires : goal.point_at-requires
point_at-requires c = omega (arith, c.requires.labelled.held.points, c.requires.v_lt_np)

pub returns : goal.returns
returns c =
    inward-by c.args.points.now c.args.labels.now c.args.l _ _ _ _ c.span_at-s.ensures c.centres_at-c.ensures c.mean-mean.ensures c.point_at.ensures c.sub.ensures

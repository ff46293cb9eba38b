-- `coarsen_bars::touch_quad` meets its contract. Assumes nothing.
use Rattle.pass_map.specs.Regions.{was_in, was_at}
use Rattle.coarsen_merge.specs.Regions.{touched_in}
use Rattle.coarsen_bars.proofs.Bars.{touch-marking, quad-listed}
use Rattle.coarsen_bars.proofs.Marks.{quad-marks}
use Prim.Native.Nat.{◌+◌, ◌*◌}
use Rattle.lists.specs.Regions.{part}
use Rattle.coarsen_bars.proofs.touch_quad.Goals as goal

pub mark_points-requires : goal.mark_points-requires
mark_points-requires c = touch-marking _ c.requires.start_holds c.requires.q_lt_nq

pub returns : goal.returns
returns c =
    record { part = quad-marks (was_in c.args.np c.args.nq c.args.w.now) (touched_in c.args.np c.args.nq c.args.w.now) (part (was_at c.args.np c.args.nq + 4 * c.args.q) 4 c.args.w.now) c.args.q (λ j l. quad-listed c.args.q j c.requires.start_holds c.requires.q_lt_nq l) c.mark_points.ensures.part; kept = c.mark_points.ensures.kept }

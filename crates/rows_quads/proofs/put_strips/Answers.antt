use native.Mathlib.Omega.{arith}
use mathlib.Core.Path.{◌≡◌}
use Rattle.lists.specs.Regions.{part}
use Rattle.refine.proofs.Loops.{quads-none, quads-more}
use Rattle.rows_gather.specs.Steps.{seams_of, masks_at}
use Rattle.rows_quads.specs.Steps.{strip_in}
use Rattle.rows_quads.proofs.Strips.{seam-read, seam-low, map-own}
use Rattle.rows_quads.proofs.put_strips.Goals as goal

pub loop-t-init : goal.loop-t-init
loop-t-init c = quads-none _ _

pub put_strip-requires : goal.put_strip-requires
put_strip-requires c =
    record { gathered = c.requires.gathered; c_bound = seam-low c.requires.gathered _ _ (omega (arith, c.requires.m_value)) c.at-c.ensures; i_in_bounds = omega arith }

pub loop-t-preserved : goal.loop-t-preserved
loop-t-preserved c =
    quads-more _ _ _ _ c.loop-t.invariant (omega arith) (rw (seam-read c.requires.gathered _ _ (omega (arith, c.requires.m_value)) c.at-c.ensures) at c.put_strip.ensures)

pub returns : goal.returns
returns c =
    let e : c.loop-t.t ≡ c.args.m = omega arith in
    rw (e, map-own (strip_in c.args.np c.args.quads.now c.args.labels.now (part (masks_at c.args.np c.args.nq) c.args.np c.args.w.now)) (seams_of c.args.np c.args.nq c.args.quads.now c.args.labels.now) c.args.m c.requires.m_value) at c.loop-t.invariant

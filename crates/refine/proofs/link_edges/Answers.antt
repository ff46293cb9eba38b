use native.Mathlib.Omega.{arith}
use Rattle.lists.proofs.Regions.{kept_refl, kept_then}
use Rattle.refine.proofs.Loops.{link-next, link-end}
use Rattle.refine.proofs.link_edges.Goals as goal

pub loop-i-init : goal.loop-i-init
loop-i-init c = (c.requires, kept_refl _ _)

pub link-requires : goal.link-requires
link-requires c = record { linking = c.loop-i.invariant.0; i_bound = c.loop-i-test.true }

pub loop-i-preserved : goal.loop-i-preserved
loop-i-preserved c =
    (link-next c.loop-i.invariant.0 c.loop-i-test.true (c.link.ensures.part, c.link.ensures.kept), kept_then c.loop-i.invariant.1 c.link.ensures.kept (λ j o. (o, o)))

pub returns : goal.returns
returns c =
    record { part = link-end c.loop-i.invariant.0 (omega arith); kept = c.loop-i.invariant.1 }

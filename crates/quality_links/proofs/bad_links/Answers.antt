use native.Mathlib.Omega.{arith}
use Prim.Native.Nat.{◌+◌, ◌-◌}
use mathlib.Core.Path.{◌∙◌}
use borrow.Rule.Slice.PartMut.{put_mid}
use Rattle.lists.proofs.Regions.{kept_then}
use Rattle.quality_counts.proofs.Tests.{bit-num}
use Rattle.quality_links.proofs.Linked.{LinksTo, links-start, links-here, links-turn, links_end}
use Rattle.quality_links.proofs.bad_links.Goals.{After-slice_known-2-1}
use Rattle.quality_links.proofs.bad_links.Goals as goal

start-at : (c : After-slice_known-2-1) → LinksTo c.args.np c.args.nq c.args.quads.now c.args.starts c.args.order c.args.deg c.args.acc c.args.w.now (put_mid c.args.deg (c.args.deg + c.args.np - c.args.deg) c.args.w.now c.clear.new.s) 0 0
start-at c = links-start _ c.requires c.clear.ensures

pub loop-v-init : goal.loop-v-init
loop-v-init c = links-here (start-at c)

pub loop-v-preserved : goal.loop-v-preserved
loop-v-preserved c =
    links-turn _ _ _ c.loop-v.invariant c.loop-v-test.true (c.is_good_link.ensures.value, (c.is_good_link.ensures.unjoined_2, c.is_good_link.ensures.kept)) (c.from-count.ensures ∙ bit-num _)

pub returns : goal.returns
returns c =
    let E = links_end c.loop-v.invariant (omega arith) in
    record { value = E.0; kept = kept_then (start-at (goal.at.returns c).After-slice_known-2-1).kept E.1 (λ i o. (o, o)) }

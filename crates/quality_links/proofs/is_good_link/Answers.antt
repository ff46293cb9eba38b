-- `quality_links::is_good_link` meets its contract. Assumes nothing.
use native.Mathlib.Omega.{arith}
use Prim.Native.Nat.{◌+◌, ◌-◌}
use mathlib.Core.Path.{refl, ◌∙◌}
use Rattle.lists.proofs.Regions.{kept_refl, kept_then}
use Rattle.quality_links.specs.Links.{OneLink}
use Rattle.quality_links.proofs.Joining.{joining-own}
use Rattle.quality_links.proofs.Linked.{AtLink, at-link, one_link, joining-part, degrees-part, link-empty, link-good}
use Rattle.quality_links.proofs.is_good_link.Goals.{After-at, After-slice_known-2-1}
use Rattle.quality_links.proofs.is_good_link.Goals as goal

at_at : (c : After-at) → AtLink c.args.np c.args.nq c.args.quads.now c.args.v c.args.order c.args.deg c.args.acc c.args.w.now c.at-s.result c.at.result
at_at c = at-link _ _ c.requires.link_room c.requires.v_lt_np c.at-s.ensures c.at.ensures

link_at : (c : After-slice_known-2-1) → OneLink c.args.np c.args.nq c.args.quads.now c.args.v (c.args.order + c.at-s.result) (c.at.result - c.at-s.result) c.args.deg c.args.acc c.join_all.new.w
link_at c = one_link c.requires.link_room (at_at (goal.at.After-slice_known-2-1 c).After-at) c.if-m-eq0.false c.join_all.ensures.joins c.join_all.ensures.kept

pub overflow_add-starts : goal.overflow_add-starts
overflow_add-starts c = omega arith

pub at-s-requires : goal.at-s-requires
at-s-requires c = omega arith

pub overflow_add-starts-2 : goal.overflow_add-starts-2
overflow_add-starts-2 c = omega arith

pub overflow_add-starts-3 : goal.overflow_add-starts-3
overflow_add-starts-3 c = omega arith

pub at-requires : goal.at-requires
at-requires c = omega arith

pub overflow_sub-m : goal.overflow_sub-m
overflow_sub-m c = let t = at_at c in omega (arith, t.le)

pub shape_of-w-then-m-eq0 : goal.shape_of-w-then-m-eq0
shape_of-w-then-m-eq0 c = refl

pub returns-then-m-eq0 : goal.returns-then-m-eq0
returns-then-m-eq0 c =
    record { value = link-empty (at_at (goal.at.returns-then-m-eq0 c).After-at) c.if-m-eq0.true; unjoined_2 = c.requires.unjoined; kept = kept_refl _ _ }

pub overflow_add-order : goal.overflow_add-order
overflow_add-order c = let t = at_at (goal.at.overflow_add-order c).After-at in omega (arith, t.fits)

pub join_all-requires : goal.join_all-requires
join_all-requires c =
    record { joining = joining-own (at_at (goal.at.join_all-requires c).After-at).joining; unjoined = c.requires.unjoined }

pub overflow_add-order-2 : goal.overflow_add-order-2
overflow_add-order-2 c = let t = at_at (goal.at.overflow_add-order-2 c).After-at in omega (arith, t.fits)

pub is_round-r-requires : goal.is_round-r-requires
is_round-r-requires c = link_at c

pub overflow_add-order-3 : goal.overflow_add-order-3
overflow_add-order-3 c = let t = at_at (goal.at.overflow_add-order-3 c).After-at in omega (arith, t.fits)

pub clear_joins-requires : goal.clear_joins-requires
clear_joins-requires c =
    let l = link_at (goal.at.clear_joins-requires c).After-slice_known-2-1 in
    record { joining = joining-part l; by_index = degrees-part l }

pub shape_of-w : goal.shape_of-w
shape_of-w c = c.clear_joins.ensures.kept.len ∙ c.join_all.ensures.kept.len

pub returns : goal.returns
returns c =
    record { value = link-good (link_at (goal.at.returns c).After-slice_known-2-1) c.is_round-r.ensures; unjoined_2 = c.clear_joins.ensures.unjoined; kept = kept_then c.join_all.ensures.kept c.clear_joins.ensures.kept (λ i o. (o, o.0)) }

-- `coarsen_compact::compact` meets its contract. Assumes nothing.
use native.Mathlib.Omega.{arith}
use Prim.Native.Nat.{◌+◌, ◌-◌, ◌*◌, ◌≤◌}
use mathlib.Core.Path.{sym, ◌∙◌}
use lib.Seq.{length-take-le}
use borrow.Rule.Slice.PartMut.{put_mid}
use Rattle.lists.proofs.Regions.{Lent, lent-all, kept_then}
use Rattle.coarsen_compact.proofs.Sheet.{compact-numbering, compact-few, compact-begins}
use lib.ListN.{length, replicate}
use Rattle.coarsen_compact.proofs.Packing.{front-copied}
use Rattle.coarsen_compact.proofs.compact.Goals.{After-clear, After-number_corners-used}
use Rattle.coarsen_compact.proofs.compact.Goals as goal

cleared : (c : After-clear) →
    Lent c.args.numbers c.args.np c.args.w.now (replicate c.args.np 0) (put_mid c.args.numbers (c.args.numbers + c.args.np - c.args.numbers) c.args.w.now c.clear.new.s)
cleared c = lent-all 0 _ _ c.args.w.now _ c.requires.in_numbers c.clear.ensures

few : (c : After-number_corners-used) → c.number_corners-used.result ≤ c.args.np
few c = compact-few c.args.points.now c.args.labels.now c.requires c.pack-m.ensures.value c.pack-m.ensures.front c.number_corners-used.ensures.value

pub number_corners-used-requires : goal.number_corners-used-requires
number_corners-used-requires c =
    compact-numbering c.args.points.now c.args.labels.now c.requires c.pack-m.ensures.value c.pack-m.ensures.front (cleared (goal.at.number_corners-used-requires c).After-clear).part

pub overflow_mul-end : goal.overflow_mul-end
overflow_mul-end c =
    let f = few (goal.at.overflow_mul-end c).After-number_corners-used in
    omega arith

few-points : (c : After-number_corners-used) → 3 * c.number_corners-used.result ≤ length c.args.points.now
few-points c = let f = few c in omega (arith, c.requires.held)

few-floats : (c : After-number_corners-used) → 3 * c.number_corners-used.result ≤ length c.number_corners-used.new.floats
few-floats c = let f = few c in omega (arith, c.requires.floats, c.number_corners-used.auto.floats)

pub slice_bounds-copy-end : goal.slice_bounds-copy-end
slice_bounds-copy-end c = few-points (goal.at.slice_bounds-copy-end c).After-number_corners-used

pub slice_bounds-copy-end-2 : goal.slice_bounds-copy-end-2
slice_bounds-copy-end-2 c =
    sym (length-take-le _ _ (few-points (goal.at.slice_bounds-copy-end-2 c).After-number_corners-used))

pub slice_bounds-copy-end-3 : goal.slice_bounds-copy-end-3
slice_bounds-copy-end-3 c = few-floats (goal.at.slice_bounds-copy-end-3 c).After-number_corners-used

pub slice_bounds-copy-end-4 : goal.slice_bounds-copy-end-4
slice_bounds-copy-end-4 c =
    sym (length-take-le _ _ (few-floats (goal.at.slice_bounds-copy-end-4 c).After-number_corners-used))

pub copy-requires : goal.copy-requires
copy-requires c =
    let C = (goal.at.copy-requires c).After-number_corners-used in
    length-take-le _ _ (few-points C) ∙ sym (length-take-le _ _ (few-floats C))

pub returns : goal.returns
returns c =
    record { begins = compact-begins c.args.points.now c.args.labels.now c.requires c.pack-m.ensures.value c.pack-m.ensures.front c.pack-kept.ensures.value c.pack-kept.ensures.front c.number_corners-used.ensures.value c.number_corners-used.ensures.front c.number_corners-used.ensures.front_2 (front-copied _ _ c.copy.ensures); kept = kept_then (cleared (goal.at.returns c).After-clear).kept c.number_corners-used.ensures.kept (λ i o. (o, o)) }

use native.Mathlib.Omega.{arith}
use mathlib.Core.Path.{◌≡◌, refl}
use Rattle.rule_sheet.specs.Quads.{pack_to}
use Rattle.extract_cells.proofs.Bits.{packed-more, packed-room}
use Rattle.extract_grid.specs.Lattice.{centre_bit}
use Rattle.extract_grid.proofs.face_centres.Goals as goal

pub loop-f-init : goal.loop-f-init
unfolding pack_to
loop-f-init c = refl

pub overflow_add-centres : goal.overflow_add-centres
overflow_add-centres c =
    record { fits = packed-room (centre_bit c.args.g c.args.c c.args.kind) c.centre_bit.result c.loop-f.invariant (omega arith) c.centre_bit.ensures c.from.ensures }

pub loop-f-preserved : goal.loop-f-preserved
loop-f-preserved c =
    packed-more (centre_bit c.args.g c.args.c c.args.kind) c.centre_bit.result c.loop-f.invariant (omega arith) c.centre_bit.ensures c.from.ensures

pub returns : goal.returns
returns c = let e : c.loop-f.f ≡ 6 = omega arith in rw e at c.loop-f.invariant

use mathlib.Core.Path.{◌≡◌, refl}
use native.Mathlib.Omega.{arith}
use Rattle.rule_sheet.specs.Quads.{pack_to}
use Rattle.rule_extract.specs.Cells.{bit_of}
use Rattle.extract_cells.specs.Cells.{kind_bit, kind_of}
use Rattle.extract_cells.proofs.Bits.{packed-more, packed-room}
use Rattle.extract_cells.proofs.cell_kind.Goals as goal

pub loop-i-init : goal.loop-i-init
unfolding pack_to
loop-i-init c = refl

pub overflow_add-kind : goal.overflow_add-kind
overflow_add-kind c =
    record { fits = packed-room (kind_bit (bit_of c.args.case)) c.kind_bit.result c.loop-i.invariant (omega arith) c.kind_bit.ensures c.from.ensures }

pub loop-i-preserved : goal.loop-i-preserved
loop-i-preserved c =
    packed-more (kind_bit (bit_of c.args.case)) c.kind_bit.result c.loop-i.invariant (omega arith) c.kind_bit.ensures c.from.ensures

pub returns : goal.returns
unfolding kind_of
returns c = let e : c.loop-i.i ≡ 18 = omega arith in rw e at c.loop-i.invariant

-- `edges::halved` meets its contract. Assumes nothing.
use native.Mathlib.Omega.{arith}
use Rattle.edges.proofs.Maps.{Seen, narrow-up, narrow-down}
use Prim.Native.Nat.{◌+◌, ◌-◌, ◌/◌}
use Rattle.edges.proofs.halved.Goals.{After-key_at}
use Rattle.edges.proofs.halved.Goals as goal

-- the corner in the middle
seen_at : (c : After-key_at) →
    Seen c.args.quads.now c.args.corners.now (c.args.s.lo + (c.args.s.hi - c.args.s.lo) / 2) c.at-c.result c.key_at.result
seen_at c = record { corner = c.at-c.ensures; key = c.key_at.ensures }

pub returns-then-key_at-b : goal.returns-then-key_at-b
returns-then-key_at-b c =
    record { narrowed_2 = narrow-up c.requires.ascending c.requires.narrowed (seen_at (goal.at.returns-then-key_at-b c).After-key_at) (omega arith) c.if-key_at-b.true; lo_bound = omega arith }

pub returns : goal.returns
returns c =
    record { narrowed_2 = narrow-down c.requires.ascending c.requires.narrowed (seen_at (goal.at.returns c).After-key_at) (omega arith) (omega arith) (omega arith); lo_bound = omega arith }

-- `edges::has_larger` meets its contract. Assumes nothing.
use native.Mathlib.Omega.{arith}
use Rattle.edges.proofs.Maps.{Seen, found_at, found_none}
use Rattle.edges.proofs.has_larger.Goals.{After-key_at}
use Rattle.edges.proofs.has_larger.Goals as goal

-- the corner that was found
seen_at : (c : After-key_at) →
    Seen c.args.quads.now c.args.corners.now c.first_from-i.result c.at-c.result c.key_at.result
seen_at c = record { corner = c.at-c.ensures; key = c.key_at.ensures }

pub returns-then-i-corners : goal.returns-then-i-corners
returns-then-i-corners c = found_at c.first_from-i.ensures c.requires (seen_at c) c.if-i-corners.true

pub returns : goal.returns
returns c = found_none c.first_from-i.ensures (omega arith)

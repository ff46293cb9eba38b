-- `quality_links::bad_links` meets its contract. Assumes nothing.
use Rattle.quality_links.proofs.Linked.{LinksTo}
use Rattle.quality_links.proofs.bad_links.Given as goal

abbrev pub invariant-loop-v : goal.invariant-loop-v
invariant-loop-v l = LinksTo l.np l.nq l.quads l.starts l.order l.deg l.acc l.initial.w l.w l.count l.v

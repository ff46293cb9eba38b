use mathlib.Core.Path.{sym, ◌∙◌}
use native.Mathlib.Omega.{arith}
use Rattle.edges.proofs.Walk.{walked-of, tally-start, tally-turn, tally-end}
use Rattle.edges.specs.declared.EdgeKind.TheVariants.{Nothing, Boundary, Opposite, Turned, Nonmanifold}
use Rattle.edges.proofs.edge_counts.Goals.{in-Nothing, in-Boundary, in-Opposite, in-Turned, in-Nonmanifold}
use Rattle.edges.proofs.edge_counts.Goals as goal

pub loop-i-init : goal.loop-i-init
loop-i-init c = tally-start _ _ _

pub kind_at-requires : goal.kind_at-requires
kind_at-requires c =
    record { walk_asks = walked-of c.requires.cornered c.requires.part; i_lt_n = c.loop-i-test.true }

pub loop-i-preserved : goal.loop-i-preserved
loop-i-preserved c = elim c.match-kind_at.branch [
  | in-Nothing w ↦ tally-turn Nothing c.loop-i.invariant c.loop-i-test.true (sym w.in-Nothing.is ∙ c.kind_at.ensures) (omega arith) (omega arith) (omega arith)
  | in-Boundary w ↦ tally-turn Boundary c.loop-i.invariant c.loop-i-test.true (sym w.in-Boundary.is ∙ c.kind_at.ensures) (omega arith) (omega arith) (omega arith)
  | in-Opposite w ↦ tally-turn Opposite c.loop-i.invariant c.loop-i-test.true (sym w.in-Opposite.is ∙ c.kind_at.ensures) (omega arith) (omega arith) (omega arith)
  | in-Turned w ↦ tally-turn Turned c.loop-i.invariant c.loop-i-test.true (sym w.in-Turned.is ∙ c.kind_at.ensures) (omega arith) (omega arith) (omega arith)
  | in-Nonmanifold w ↦ tally-turn Nonmanifold c.loop-i.invariant c.loop-i-test.true (sym w.in-Nonmanifold.is ∙ c.kind_at.ensures) (omega arith) (omega arith) (omega arith)
]

pub returns : goal.returns
returns c =
    tally-end c.requires.cornered c.requires.quads_value c.requires.part c.loop-i.invariant (omega arith)

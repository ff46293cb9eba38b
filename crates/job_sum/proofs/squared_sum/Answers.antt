-- `job_sum::squared_sum` meets its contract. Assumes nothing.
use Prim.Native.Nat.{◌*◌}
use mathlib.Core.Path.{ap, ◌∙◌}
use lib.ListN.{length}
use Rattle.rule_sheet.specs.Quads.{sum}
use Rattle.rule_sheet.specs.Squared.{sq}
use Rattle.job_sum.specs.Steps.{named_in}
use Rattle.job_sum.proofs.Counting.{squared-counts, counts-fit, zeros-again}
use Rattle.job_sum.proofs.squared_sum.Goals as goal

pub add_squares-sum-requires : goal.add_squares-sum-requires
add_squares-sum-requires c =
    rw c.count_corners.ensures (counts-fit c.args.nq (length c.args.counts.now) c.args.corners.now c.requires.nq_le_limit c.requires.counts_len_bound)

pub returns : goal.returns
returns c =
    record { value = c.add_squares-sum.ensures ∙ ap (sum sq) c.count_corners.ensures ∙ squared-counts c.args.nq (length c.args.counts.now) c.args.corners.now; counts_unchanged = zeros-again (named_in c.args.corners.now (4 * c.args.nq)) c.count_corners.ensures c.requires.counts_value c.clear.ensures }

-- `refine::put_points` meets its contract. Assumes nothing.
use Rattle.std.proofs.Common.{rules}
use Rattle.points.specs.Points.{point_at}
use Rattle.rule_sheet.specs.Sheet.{points_of}
use Rattle.sheet.proofs.Tests.{length-points}
use Rattle.refine.specs.Requests.{position_at}
use Rattle.refine.proofs.put_points.Goals as goal

pub returns : goal.returns
returns c =
    c.put_new.ensures (points_of c.args.np c.args.points.now) (position_at (point_at c.args.points.now) c.args.quads.now) (length-points _ _) c.requires.front (λ k p h o e. search rules)

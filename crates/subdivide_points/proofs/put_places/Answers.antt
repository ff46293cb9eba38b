-- `subdivide_points::put_places` meets its contract. Assumes nothing.
use Rattle.std.proofs.Common.{rules, ◌*◌}
use Rattle.lists.specs.Regions.{part}
use Rattle.rule_sheet.specs.Sheet.{points_of}
use Rattle.sheet.proofs.Fronts.{front-points}
use Rattle.sheet.proofs.Tests.{length-points}
use Rattle.subdivide_points.specs.Steps.{place_at}
use Rattle.subdivide_points.proofs.put_places.Goals as goal

pub returns : goal.returns
returns c =
    c.put_new.ensures (points_of c.args.np c.args.out.now) (place_at c.args.points.now c.args.quads.now c.args.labels.now (part c.args.second (4 * c.args.nq) c.args.w.now)) (length-points _ _)
    (front-points _ _ c.requires.np_in_bounds) (λ k p h o e. search rules)

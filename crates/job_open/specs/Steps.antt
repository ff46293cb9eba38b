-- What the slices of a job hold, step by step.
use Rattle.std.specs.Prelude.{ℕ, ◌*◌, ◌≡◌, List, ◌++◌, drop, replicate}
use Rattle.rule_job.specs.Files.{Job}
use Rattle.rule_job.specs.Jobs.{JobRoom}

-- the slices of this room are zeros
pub record Zeros (r : JobRoom) (H P Q L : List ℕ) : Type 0 where
  pub header : H ≡ replicate r.header 0
  pub points : P ≡ replicate r.sheet.points 0
  pub quads : Q ≡ replicate r.sheet.quads 0
  pub labels : L ≡ replicate r.sheet.labels 0

-- a job is read into the fronts of the slices; H, P, Q and L are those before, the others those after
pub record Reads (j : Job) (H P Q L H' P' Q' L' : List ℕ) : Type 0 where
  pub header : H' ≡ j.header ++ drop 8 H
  pub points : P' ≡ j.points ++ drop (3 * j.counts.points) P
  pub quads : Q' ≡ j.quads ++ drop (4 * j.counts.quads) Q
  pub labels : L' ≡ j.labels ++ drop j.counts.labels L

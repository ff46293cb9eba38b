-- What the functions over a record's sheet ask. Assumes nothing.
use Rattle.std.specs.Prelude.{◌≤◌}
use Rattle.replay_records.specs.declared.sheets.Sizes.{Sizes}

-- the sizes of a sheet that is taken
pub record Small (n : Sizes) : Type 0 where
  pub points≤ : n.points ≤ 64
  pub quads≤ : n.quads ≤ 64
  pub labels≤ : n.labels ≤ 64

-- the sizes of a finer sheet that is compared
pub record Finer (n : Sizes) : Type 0 where
  pub points≤ : n.points ≤ 384
  pub quads≤ : n.quads ≤ 256
  pub labels≤ : n.labels ≤ 256

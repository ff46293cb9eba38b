-- What a merge's rule reads of the points, and the position of the merged point. Document 01, "The merged sheet".
use Rattle.std.specs.Prelude.{ℕ, Bool, false, not, cond, ◌||◌, List, length, get_or, eqb, Float, Some, None, Option}
use Rattle.lists.specs.Every.{every}
use Rattle.points.specs.declared.Point.{Point}
use Rattle.points.specs.Points.{halfway_p, point_in}
use Rattle.field.specs.declared.Field.{Field}
use Rattle.setting.specs.Settings.{Setting, band_in, domain_in}
use Rattle.band.specs.Bands.{length_of, normal_with}
use Rattle.projection.specs.Project.{project_of, onto_of}
use Rattle.rule_sheet.specs.Quads.{Quad, has_label, pack}
use Rattle.rule_sheet.specs.Sheet.{Sheet}
use Rattle.rule_passes.specs.Choices.{none_quad}
use Rattle.rule_coarsen.specs.Coarse.{has_corner, MergeFits, Position}
use Rattle.rule_coarsen.specs.declared.Merge.{Merge}
use Rattle.rule_passes.specs.Shapes.{quad_shape, no_worse}
use Rattle.rule_sheet.specs.Places.{centre_of}

-- "The joined mask": the labels of either point
unfoldable pub joined_mask : List Quad → List ℕ → ℕ → ℕ → ℕ
joined_mask S labels a c = pack (λ l. has_label S labels a l || has_label S labels c l)

-- the projection of the halfway point of a and c, with the joined mask of the sheet at the pass's start
unfoldable pub moved_to : Setting → Sheet → List Point → ℕ → ℕ → Option Point
moved_to w s ps a c = project_of w (halfway_p (point_in ps a) (point_in ps c)) (joined_mask s.quads s.labels a c)

-- the places with the merged point in place of both
unfoldable pub moved_at : (ℕ → Point) → Merge → ℕ → Point
moved_at at m v = cond (eqb v m.a || eqb v m.c) m.to (at v)

-- a quad of the label l, measured with the normal "at the old quad's centre", does not fall "below the smaller of
-- its old shape and 0.25"
unfoldable pub quad_stays : Field → Float → (ℕ → Point) → ℕ → Quad → Merge → Bool
quad_stays f len at l q m =
    let n = normal_with f len (centre_of at q) l in
    no_worse (quad_shape (moved_at at m) n q) (quad_shape at n q)

-- "No other quad at either": quad j is the merge's own, or is at neither point, or stays
abbrev pub other_stays : Setting → Sheet → List Point → Merge → ℕ → Bool
other_stays w s ps m j =
    let b = band_in (domain_in w) in
    eqb j m.face || not (has_corner (get_or s.quads j none_quad) m.a
    || has_corner (get_or s.quads j none_quad) m.c)
    || quad_stays b.field (length_of b) (point_in ps) (get_or s.labels j 0) (get_or s.quads j none_quad) m

-- the merge of the corners a and c of quad f at p
abbrev pub merge_at : ℕ → ℕ → ℕ → Point → Merge
merge_at f a c p = record { face = f; a = a; c = c; to = p }

-- "If projecting the halfway point is refused, that diagonal is passed over."
abbrev pub fits_at : Setting → Sheet → List Point → ℕ → ℕ → ℕ → Option Point → Bool
fits_at w s ps f a c (Some p) = every (other_stays w s ps (merge_at f a c p)) (length s.quads)
fits_at w s ps f a c None = false

-- the part of the merges' rule that reads the points
unfoldable pub merge_fits : Setting → Sheet → MergeFits
merge_fits w s ps S f a c = fits_at w s ps f a c (moved_to w s ps a c)

-- the position of the merged point
unfoldable pub merge_position : Setting → Sheet → Position
merge_position w s ps a c = onto_of (moved_to w s ps a c)

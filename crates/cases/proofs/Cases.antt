-- The theorem about the table of cases, by computation. Assumes nothing.
use Prim.Native.Nat.{ℕ}
use mathlib.Core.Path.{◌≡◌, refl, ap}
use mathlib.Core.List.{[], ◌∷◌, zip_with}
use lib.ListN.{get_or}
use lib.Ieee.{of_bits, to_bits, add, sub, mul, div, neg, lt, le, eq, ne, of_int}
use Rattle.lists.specs.Every.{every, some, count_to}
use Rattle.lists.specs.Sort.{tabulate, bucket}
use Rattle.numeric.specs.Num.{float, min_of, max_of, halfway_of}
use Rattle.numeric.specs.Root.{sqrt_of}
use Rattle.points.specs.Points.{add_p, sub_p, mul_p, times_p, dot_p, cross_p, norm_p, halfway_p, centre_p, finite_p, point_at}
use Rattle.band.specs.Bands.{length_of, face_normal_of, side_of, normal_with, normal_of, axis_valid_of, box_valid_of, levels_valid_of, measurable_levels_of, valid_of, measurable_of}
use Rattle.projection.specs.Project.{axis_bits, on_face_of, on_faces_of, within_of, inside_of, close_of, project_with, project_of}
use Rattle.shape.specs.Shapes.{corner_of, shape_of}
use Rattle.smoothing.specs.Rounded.{reciprocal_of}
use Rattle.smoothing.specs.Smooth.{sum_of, quad_centre}
use Rattle.rule_sheet.specs.Quads.{mask_of, pack_to}
use Rattle.rule_sheet.specs.Edges.{edges_of, join_to, join_of}
use Rattle.rule_sheet.specs.Flat.{quads_of, flat_quads}
use Rattle.rule_sheet.specs.Places.{centre_of}
use Rattle.rule_sheet.specs.Tests.{in_range, distinct, good_corners, good_mask, good_masks}
use Rattle.rule_sheet.specs.Sheet.{points_of, flat_points, is_bare, quads_verdict, sheet_verdict}
use Rattle.rule_sheet.specs.Lent.{is_large, is_short, is_short_work, lent_verdict, before_verdict}
use Rattle.rule_sheet.specs.Results.{padded}
use Rattle.rule_sheet.specs.Squared.{squared}
use Rattle.rule_admission.specs.Admission.{domain_verdict, measurable_verdict, admits_after}
use Rattle.rule_passes.specs.Shapes.{quad_shape, no_worse}
use Rattle.rule_regularize.specs.Swaps.{swap_gain, swap_pass}
use Rattle.rule_regularize.specs.SwapFits.{lesser_shape, held_of, next_shape, shape_fits, next_fits, fits_with, swap_fits}
use Rattle.rule_regularize.specs.Rule.{swap_rule}
use Rattle.rule_coarsen.specs.Coarse.{merge_gain, merge_pass}
use Rattle.rule_coarsen.specs.MergeFits.{joined_mask, moved_to, moved_at, quad_stays, merge_fits}
use Rattle.rule_coarsen.specs.Rule.{coarsen_verdict, coarsen_rule}
use Rattle.rule_finer.specs.Finer.{asked, mid_of, cen_of, finer, new_points, finer_sheet, refined, refine_rule}
use Rattle.rule_finer.specs.Subdivide.{subdivide_rule}
use Rattle.rule_finer.specs.Smoothed.{those, edge_quads, point_quads, paired, label_count, centre_at}
use Rattle.rule_rows.specs.Rows.{is_copied, copies, number_of, label_centres, inward, try_from, copy_of, copied_quads, sides_of, edge_sides, row_sides, strip_at, rows_sheet, rows_made, rowed, rows_rule}
use Rattle.rule_quality.specs.Census.{is_closed, reached, connected, good_link, bad_links, tight}
use Rattle.rule_quality.specs.Measure.{corners_of, cells_of, good_normal, measure_rule}
use Rattle.rule_quality.specs.declared.report.Quality.{Quality}
use Rattle.rule_quality.specs.Quality.{quality_of, eight_counts, quality_rule}
use Rattle.rule_corners.specs.Corners.{ratio_of, corners_rule}
use Rattle.rule_page.specs.Page.{column_of, line_of, line, joined, page_of}
use Rattle.encoding.specs.Encoding.{little, number, littles, numbers}
use Rattle.rule_job.specs.Files.{trailer_bytes, file_with, good_starts, counts_by, starts_at, trailer_by, trailer_of, job_in}
use Rattle.rule_job.specs.Jobs.{is_short_job, save_rule, summed, open_with}
use Rattle.cases.specs.Cases.{cube, nothing, turned_cube, pillow, two_pillows, swap_patch, merge_patch, AllHold, cases}

-- the lines of a record, by its counts
page-lines : (q : Quality) {a b c d e f g h : ℕ} → eight_counts q ≡ a ∷ b ∷ c ∷ d ∷ e ∷ f ∷ g ∷ h ∷ []
    → page_of q ≡ joined (line "quads" a ∷ line "irregular" b ∷ line "boundary" c ∷ line "nonmanifold" d ∷ line "orientation" e ∷ line "links" f ∷ line "duplicates" g ∷ line "invalid" h ∷ [])
unfolding page_of
page-lines q k = let at : (i : ℕ) → _ = λ i. ap (λ l. get_or l i 0) k in rw (at 0, at 1, at 2, at 3, at 4, at 5, at 6, at 7)

pub cases-hold : AllHold cases
unfolding cube nothing turned_cube pillow two_pillows swap_patch merge_patch cases of_bits to_bits add sub mul div neg lt le eq ne of_int every some count_to tabulate bucket
    float min_of max_of halfway_of sqrt_of add_p sub_p mul_p times_p dot_p cross_p norm_p halfway_p centre_p finite_p point_at
    length_of face_normal_of side_of normal_with normal_of axis_valid_of box_valid_of levels_valid_of measurable_levels_of
    valid_of measurable_of axis_bits on_face_of on_faces_of within_of
    inside_of close_of project_with project_of corner_of shape_of reciprocal_of sum_of quad_centre mask_of pack_to edges_of join_to join_of
    quads_of flat_quads centre_of in_range distinct good_corners good_mask good_masks points_of flat_points is_bare quads_verdict
    sheet_verdict is_large is_short is_short_work lent_verdict squared domain_verdict measurable_verdict admits_after quad_shape no_worse swap_gain
    swap_pass lesser_shape held_of next_shape shape_fits next_fits fits_with swap_fits swap_rule merge_gain merge_pass joined_mask
    moved_to moved_at quad_stays merge_fits coarsen_verdict coarsen_rule asked mid_of cen_of finer new_points finer_sheet
    refined refine_rule subdivide_rule those edge_quads point_quads paired label_count centre_at is_copied copies number_of label_centres
    inward try_from copy_of copied_quads sides_of edge_sides row_sides strip_at rows_sheet rows_made rowed rows_rule is_closed
    reached connected good_link bad_links tight corners_of cells_of good_normal measure_rule quality_of quality_rule zip_with ratio_of
    corners_rule padded column_of line_of little number littles numbers trailer_bytes file_with good_starts counts_by starts_at trailer_by
    trailer_of job_in is_short_job save_rule summed open_with before_verdict
cases-hold = (
  (refl, refl, refl, refl, refl, refl),
  (
    (refl, refl, refl),
    (
      (refl, refl),
      (
        (refl, refl, refl, refl),
        (
          (refl, refl, refl, refl),
          (
            (refl, refl, refl, refl),
            (
              (refl, refl, refl),
              (
                (refl, refl, refl),
                (
                  (refl, refl, refl),
                  (refl, (refl, ((refl, (refl, refl)), ((refl, (refl, refl)), ((refl, (refl, refl)), ((refl, (refl, refl)), ((refl, refl), ((refl, refl), ((λ q e. page-lines q e), ((λ q e. page-lines q e), ((refl, refl, refl), ((refl, refl, refl), ((refl, refl, refl), ((refl, refl, refl), (refl, (refl, (refl, (refl, ((refl, (refl, refl), refl, refl, refl, refl, refl, refl), tt))))))))))))))))))),
                ),
              ),
            ),
          ),
        ),
      ),
    ),
  ),
)

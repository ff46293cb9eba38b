-- `subdivide::land` meets its contract. Assumes nothing.
use mathlib.Core.Path.{sym, ◌∙◌}
use lib.Seq.{length-take-le}
use Rattle.subdivide.proofs.Rule.{land-refused, land-masked, land-astray, land-done}
use Rattle.sheet.proofs.Tests.{masks-told}
use Rattle.lists.proofs.Regions.{front-room}
use Rattle.rule_sheet.proofs.Exits.{exited}
use Rattle.subdivide.proofs.land.Goals as goal

pub slice_bounds-constraints-end-2 : goal.slice_bounds-constraints-end-2
slice_bounds-constraints-end-2 c = sym (length-take-le _ _ c.requires.points_in_bounds)

pub constraints-requires : goal.constraints-requires
constraints-requires c =
    record { lent_sheet = c.requires.lent_sheet; masks_len = length-take-le _ _ c.requires.points_in_bounds }

pub returns-in_err-constraints : goal.returns-in_err-constraints
returns-in_err-constraints c =
    rw (exited _ _ c.from_residual.ensures.1)
    (land-refused _ _ _ _ _ c.requires.lent_sheet _ _ _ _ (sym c.constraints.ensures.value ∙ c.in_err-constraints.was))

pub slice_bounds-project_points-end-2 : goal.slice_bounds-project_points-end-2
slice_bounds-project_points-end-2 c =
    sym (length-take-le _ _ (front-room _ c.args.c.points c.args.w.now c.constraints.new.masks c.constraints.auto.masks c.requires.points_in_bounds))

pub project_points-requires : goal.project_points-requires
project_points-requires c =
    record { n_in_bounds = c.requires.lent_sheet.points; masked = land-masked c.args.b c.args.c c.args.points.now c.args.quads.now c.args.labels.now c.requires.lent_sheet _ _ (masks-told c.in_ok-constraints.was c.constraints.ensures.masks_if) }

pub returns-then-project_points : goal.returns-then-project_points
returns-then-project_points c =
    land-done c.args.b _ _ _ _ c.requires.lent_sheet _ _ (masks-told c.in_ok-constraints.was c.constraints.ensures.masks_if) _ c.project_points.ensures.value (sym c.constraints.ensures.value ∙ c.in_ok-constraints.was) _ c.if-project_points.true c.project_points.ensures.front

pub returns : goal.returns
returns c =
    land-astray c.args.b _ _ _ _ c.requires.lent_sheet _ _ (masks-told c.in_ok-constraints.was c.constraints.ensures.masks_if) _ c.project_points.ensures.value (sym c.constraints.ensures.value ∙ c.in_ok-constraints.was) _ _ _ c.if-project_points.false

-- `subdivide::subdivide` meets its contract. Assumes nothing.
use mathlib.Core.Path.{◌∙◌}
use Rattle.sheet.proofs.Results.{shown-room, leaves_of}
use Rattle.subdivide.proofs.subdivide.Goals as goal

pub clear_unused-requires : goal.clear_unused-requires
clear_unused-requires c = shown-room c.subdivide_or_refusal-r.ensures c.shown_counts.ensures

pub shape_of-new_points : goal.shape_of-new_points
shape_of-new_points c = c.clear_unused.auto.points ∙ c.subdivide_or_refusal-r.auto.new_points

pub shape_of-new_quads : goal.shape_of-new_quads
shape_of-new_quads c = c.clear_unused.auto.quads ∙ c.subdivide_or_refusal-r.auto.new_quads

pub shape_of-new_labels : goal.shape_of-new_labels
shape_of-new_labels c = c.clear_unused.auto.labels ∙ c.subdivide_or_refusal-r.auto.new_labels

pub returns : goal.returns
returns c =
    record { sheet = leaves_of _ _ _ c.subdivide_or_refusal-r.ensures c.shown_counts.ensures c.subdivide_or_refusal-r.auto.new_points c.subdivide_or_refusal-r.auto.new_quads c.subdivide_or_refusal-r.auto.new_labels (c.clear_unused.ensures.points_after, (c.clear_unused.ensures.quads_after, c.clear_unused.ensures.labels_after)); cleared = record { work = rw c.subdivide_or_refusal-r.auto.w at c.clear_work.ensures.work; floats = c.clear_work.ensures.floats } }

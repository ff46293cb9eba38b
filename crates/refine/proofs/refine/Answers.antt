-- `refine::refine` meets its contract. Assumes nothing.
use Rattle.sheet.proofs.Results.{shown-room, leaves_of}
use mathlib.Core.Path.{◌∙◌}
use Rattle.refine.proofs.refine.Goals as goal

pub clear_unused-requires : goal.clear_unused-requires
clear_unused-requires c = shown-room c.refine_or_refusal-r.ensures c.shown_counts.ensures

pub shape_of-new_points : goal.shape_of-new_points
shape_of-new_points c = c.clear_unused.auto.points ∙ c.refine_or_refusal-r.auto.new_points

pub shape_of-new_quads : goal.shape_of-new_quads
shape_of-new_quads c = c.clear_unused.auto.quads ∙ c.refine_or_refusal-r.auto.new_quads

pub shape_of-new_labels : goal.shape_of-new_labels
shape_of-new_labels c = c.clear_unused.auto.labels ∙ c.refine_or_refusal-r.auto.new_labels

pub returns : goal.returns
returns c =
    record { sheet = leaves_of _ _ _ c.refine_or_refusal-r.ensures c.shown_counts.ensures c.refine_or_refusal-r.auto.new_points c.refine_or_refusal-r.auto.new_quads c.refine_or_refusal-r.auto.new_labels (c.clear_unused.ensures.points_after, (c.clear_unused.ensures.quads_after, c.clear_unused.ensures.labels_after)); cleared = record { work = rw c.refine_or_refusal-r.auto.w at c.clear_work.ensures.work; floats = c.clear_work.ensures.floats } }

-- `extract::extract_candidate` meets its contract. Assumes nothing.
use mathlib.Core.Path.{◌∙◌}
use Rattle.sheet.proofs.Results.{shown-room, leaves_of}
use Rattle.extract.proofs.extract_candidate.Goals as goal

pub clear_unused-requires : goal.clear_unused-requires
clear_unused-requires c = shown-room c.extract_or_refusal-r.ensures c.shown_counts.ensures

pub shape_of-new_points : goal.shape_of-new_points
shape_of-new_points c = c.clear_unused.auto.points ∙ c.extract_or_refusal-r.auto.new_points

pub shape_of-new_quads : goal.shape_of-new_quads
shape_of-new_quads c = c.clear_unused.auto.quads ∙ c.extract_or_refusal-r.auto.new_quads

pub shape_of-new_labels : goal.shape_of-new_labels
shape_of-new_labels c = c.clear_unused.auto.labels ∙ c.extract_or_refusal-r.auto.new_labels

pub returns : goal.returns
returns c =
    record { sheet = leaves_of _ _ _ c.extract_or_refusal-r.ensures c.shown_counts.ensures c.extract_or_refusal-r.auto.new_points c.extract_or_refusal-r.auto.new_quads c.extract_or_refusal-r.auto.new_labels (c.clear_unused.ensures.points_after, (c.clear_unused.ensures.quads_after, c.clear_unused.ensures.labels_after)); cleared = record { work = rw c.extract_or_refusal-r.auto.w at c.clear_work.ensures.work; floats = rw c.extract_or_refusal-r.auto.floats at c.clear_work.ensures.floats } }

-- `coarsen_search::visit` meets its contract. Assumes nothing.
use mathlib.Core.Path.{sym, ◌∙◌}
use Rattle.coarsen_search.proofs.Steps.{searching-of, takeable-of, visit-none, visit-taken, holds-noted, visit-noted, by_length}
use Rattle.coarsen_search.proofs.visit.Goals as goal

pub is_tried-requires : goal.is_tried-requires
is_tried-requires c =
    record { start_holds = c.requires.merge_pass_holds.start; cornered = c.requires.merge_pass_holds.sheet; f_lt_nq = c.requires.f_lt_nq }

pub search-found-requires : goal.search-found-requires
search-found-requires c =
    record { start_holds = c.requires.merge_pass_holds.start; search_asks = searching-of _ _ _ _ _ _ _ c.requires.merge_pass_holds c.requires.f_lt_nq (sym c.is_tried.ensures ∙ c.if-is_tried.true); holding = record { points = c.requires.merge_pass_holds.points; quads = c.requires.merge_pass_holds.sheet.quads; labels = c.requires.merge_pass_holds.labelled }; touched_holds = c.requires.merge_pass_holds.touched }

pub take-made-requires : goal.take-made-requires
take-made-requires c =
    record {
      start_holds = c.requires.merge_pass_holds.start;
      take_asks = takeable-of c.args.b _ _ c.args.f c.args.points.now c.args.labels.now c.args.quads.now c.args.w.now c.requires.merge_pass_holds c.requires.f_lt_nq (sym c.is_tried.ensures ∙ c.if-is_tried.true) _
          (by_length c.args.b _ _ c.args.f c.args.points.now c.args.labels.now c.args.quads.now c.args.w.now _ _ c.requires.len_value c.search-found.ensures.choice_value);
      touched_holds = c.requires.merge_pass_holds.touched;
    }

pub remember-requires : goal.remember-requires
remember-requires c =
    let F = visit-taken c.args.b _ _ c.args.f c.args.points.now c.args.labels.now c.args.quads.now c.args.w.now c.requires.merge_pass_holds c.requires.f_lt_nq (sym c.is_tried.ensures ∙ c.if-is_tried.true) _ _ _ _ _
    (by_length c.args.b _ _ c.args.f c.args.points.now c.args.labels.now c.args.quads.now c.args.w.now _ _ c.requires.len_value c.search-found.ensures.choice_value) c.take-made.ensures in
    record { start_holds = F.holds.start; noted = c.search-found.ensures.noted }

pub remember-requires-then-is_tried : goal.remember-requires-then-is_tried
remember-requires-then-is_tried c =
    let F = visit-taken c.args.b _ _ c.args.f c.args.points.now c.args.labels.now c.args.quads.now c.args.w.now c.requires.merge_pass_holds c.requires.f_lt_nq (sym c.is_tried.ensures ∙ c.if-is_tried.true) _ _ _ _ _
    (by_length c.args.b _ _ c.args.f c.args.points.now c.args.labels.now c.args.quads.now c.args.w.now _ _ c.requires.len_value c.search-found.ensures.choice_value) c.take-made.ensures in
    record { start_holds = (holds-noted F.holds c.remember.ensures).start; noted = c.search-found.ensures.noted_2 }

pub returns-then-is_tried : goal.returns-then-is_tried
returns-then-is_tried c =
    let F = visit-taken c.args.b _ _ c.args.f c.args.points.now c.args.labels.now c.args.quads.now c.args.w.now c.requires.merge_pass_holds c.requires.f_lt_nq (sym c.is_tried.ensures ∙ c.if-is_tried.true) _ _ _ _ _
    (by_length c.args.b _ _ c.args.f c.args.points.now c.args.labels.now c.args.quads.now c.args.w.now _ _ c.requires.len_value c.search-found.ensures.choice_value) c.take-made.ensures in
    visit-noted (visit-noted F c.remember.ensures) c.remember-then-is_tried.ensures

pub returns : goal.returns
returns c =
    visit-none c.args.b _ _ _ _ _ _ _ c.requires.merge_pass_holds c.requires.f_lt_nq (sym c.is_tried.ensures ∙ c.if-is_tried.false)

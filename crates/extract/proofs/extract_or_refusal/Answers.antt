-- `extract::extract_or_refusal` meets its contract. Assumes nothing.
use native.Mathlib.Omega.{arith}
use borrow.Author.Tests.{not-true, not-false}
use Prim.Native.Nat.{◌+◌}
use mathlib.Core.Path.{◌≡◌, sym, ◌∙◌}
use mathlib.Core.Bool.{true}
use lib.Seq.{length-take-le}
use Rattle.band.specs.Bands.{valid_of}
use Rattle.rule_sheet.specs.Lent.{work_of}
use Rattle.rule_extract.specs.Drawing.{good_cells}
use Rattle.extract.proofs.Stages.{cube, rule-box, rule-cells, rule-short, rule-sampled, few-cells, CellsFit, cells_fit, sample-ready}
use Rattle.extract.proofs.extract_or_refusal.Goals.{After-grid_of-g, Else-not-good_cells, Else-not-validate}
use Rattle.extract.proofs.extract_or_refusal.Goals as goal

valid : (c : Else-not-validate) → valid_of c.args.b ≡ true
valid c = sym c.validate.ensures ∙ c.if-not-validate.false

good : (c : Else-not-good_cells) → good_cells c.args.cells ≡ true
good c = sym c.good_cells.ensures ∙ c.if-not-good_cells.false

fit : (c : After-grid_of-g) → CellsFit c.args.cells (work_of c.args.w.now c.args.floats.now)
fit c = cells_fit _ _ (good (goal.at.After-grid_of-g c).Else-not-good_cells) (sym c.is_short_work.ensures ∙ c.if-is_short_work.false)

pub returns-then-not-validate : goal.returns-then-not-validate
returns-then-not-validate c = rule-box _ _ _ _ _ _ _ (sym c.validate.ensures ∙ c.if-not-validate.true)

pub returns-then-not-good_cells : goal.returns-then-not-good_cells
returns-then-not-good_cells c =
    rule-cells _ _ _ _ _ _ _ (valid (goal.at.returns-then-not-good_cells c).Else-not-validate) (sym c.good_cells.ensures ∙ c.if-not-good_cells.true)

pub is_short_work-requires : goal.is_short_work-requires
is_short_work-requires c = few-cells _ (good c)

pub returns-then-is_short_work : goal.returns-then-is_short_work
returns-then-is_short_work c =
    rule-short _ _ _ _ _ _ _ (valid (goal.at.returns-then-is_short_work c).Else-not-validate) (good (goal.at.returns-then-is_short_work c).Else-not-good_cells) (sym c.is_short_work.ensures ∙ c.if-is_short_work.true)

pub overflow_add-m : goal.overflow_add-m
overflow_add-m c = let r = (fit c).few in omega arith

pub overflow_mul-count : goal.overflow_mul-count
overflow_mul-count c = let r = (fit c).few in let m = cube (c.args.cells + 3) (omega arith) in omega arith

pub overflow_mul-count-2 : goal.overflow_mul-count-2
overflow_mul-count-2 c = let r = (fit c).few in let m = cube (c.args.cells + 3) (omega arith) in omega arith

pub overflow_add-cells : goal.overflow_add-cells
overflow_add-cells c = let r = (fit c).few in omega arith

pub slice_bounds-sample_or_refusal-end : goal.slice_bounds-sample_or_refusal-end
slice_bounds-sample_or_refusal-end c = (fit c).floats

pub slice_bounds-sample_or_refusal-end-2 : goal.slice_bounds-sample_or_refusal-end-2
slice_bounds-sample_or_refusal-end-2 c =
    sym (length-take-le _ _ (fit (goal.at.slice_bounds-sample_or_refusal-end-2 c).After-grid_of-g).floats)

pub sample_or_refusal-requires : goal.sample_or_refusal-requires
sample_or_refusal-requires c =
    let the_pair = sample-ready _ _ _ (fit (goal.at.sample_or_refusal-requires c).After-grid_of-g) in record { n_bound = the_pair.0; samples_len = the_pair.1.0; n_in_bounds = the_pair.1.1 }

pub returns : goal.returns
returns c =
    rule-sampled _ _ _ _ _ _ _ (valid (goal.at.returns c).Else-not-validate) (good (goal.at.returns c).Else-not-good_cells) _ (sym c.is_short_work.ensures ∙ c.if-is_short_work.false) c.grid_of-g.ensures c.sample_or_refusal.ensures

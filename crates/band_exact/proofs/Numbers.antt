-- No operation refuses with 2. Assumes nothing.
use Prim.Native.Nat.{ℕ, ◌+◌}
use native.Mathlib.Omega.{arith}
use mathlib.Core.Path.{refl, ap, sym, ◌∙◌}
use mathlib.Core.Logic.{◌≢◌, inl, inr}
use mathlib.Core.Bool.{Bool, cond, not, ◌||◌}
use mathlib.Core.List.{List}
use lib.Dec.{eqb, ltb}
use lib.ListN.{length}
use Rattle.lists.specs.Every.{every}
use Rattle.band.specs.Bands.{valid_of, measurable_of}
use Rattle.setting.specs.Settings.{Domain, Setting, band_in, domain_in, setting_of}
use Rattle.rule_sheet.specs.declared.Counts.{Counts}
use Rattle.rule_sheet.specs.Quads.{all}
use Rattle.rule_sheet.specs.Tests.{in_range, good_masks}
use Rattle.rule_sheet.specs.Sheet.{counts_of, is_bare}
use Rattle.rule_sheet.specs.Lent.{Lent, Work, Room, work_with, held, room_in, is_large, is_short, lent_verdict}
use Rattle.rule_sheet.specs.Outcomes.{Outcome, refuses, gives, with_room}
use Rattle.rule_admission.specs.Admission.{domain_verdict, measurable_verdict, admits, measurable}
use Rattle.rule_admission.proofs.Numbers.{Number, Refuses, accepted, refused, given, refusing, either_number, either-refusal, after-refusal, said}
use Rattle.rule_admission.proofs.Numbers.{SheetNumbers, lent-number, before-number, sheet-number, admits-number}
use Rattle.rule_regularize.specs.Swaps.{regularize_gain, improve_gain}
use Rattle.rule_regularize.specs.Rule.{swap_rule}
use Rattle.rule_coarsen.specs.Rule.{coarsen_verdict, coarsen_rule}
use Rattle.rule_finer.specs.Finer.{finer_sheet, refined, refine_rule}
use Rattle.rule_finer.specs.Smoothed.{paired, smooth_sheet}
use Rattle.rule_finer.specs.Subdivide.{lands_at, projected, subdivided, subdivide_rule}
use Rattle.projection.specs.Project.{is_onto}
use Rattle.rule_rows.specs.Rows.{copies, copy_of, rows_sheet, rows_made, rowed, rows_rule}
use Rattle.rule_quality.specs.declared.report.Assessment.{Assessment}
use Rattle.rule_quality.specs.Quality.{quality_rule}
use Rattle.rule_quality.proofs.Numbers.{measured-number}
use Rattle.rule_corners.specs.Corners.{corners_rule}
use Rattle.rule_page.specs.Page.{page_size, page_outcome, page_rule}
use Rattle.rule_extract.specs.Grids.{grid_of}
use Rattle.rule_extract.specs.Drawing.{good_cells, short_work, finite_samples, drawn_sheet, extract_rule}
use Rattle.rule_job.specs.Files.{Job, sum_of, trailer_of, job_in}
use Rattle.rule_job.specs.Jobs.{JobRoom, is_short_job, is_other, summed, open_with, save_rule, sum_by}
use Rattle.rule_exports.specs.Told.{Told, band_of, is_short_told}
use Rattle.rule_exports.specs.Exports.{is_short_answer}
use Rattle.rule_exports.proofs.Refusals.{number-tells}
use Rattle.band_exact.specs.Exact.{OfDrawing, DrawingNumbers, NeverBottomless, NeverShown}
use Rattle.std.specs.Prelude.{Err, Some, None, Option}
use Rattle.rule_job.specs.declared.Trailer.{Trailer}
use Rattle.rule_sheet.specs.declared.Refusal.TheVariants as refusals
use Rattle.rule_sheet.specs.declared.Refusal.TheVariants.{Box, Bottomless, Cells, Samples, Bare, Corner, Clash, Edge, Astray, Row, Short}
use Rattle.rule_sheet.specs.Numbers.{refusal_number}
use Rattle.rule_sheet.specs.declared.Refusal.{Refusal}
use Rattle.rule_sheet.specs.Verdicts.{Accepted}

-- ---- the numbers of a drawing

drawn-by : (d : Domain) (cells : ℕ) (w : Work) (room : Room) → Refuses OfDrawing (extract_rule d cells w room)
unfolding extract_rule
drawn-by d cells w room =
    let g = grid_of d cells in
    let s = drawn_sheet g (cells + 2) in
    let c = counts_of s in
    let short-drawn : OfDrawing Short = inr (inr (inl refl)) in
    either-refusal OfDrawing (not (valid_of (band_in d))) (refusing OfDrawing Box (inl refl))
    (either-refusal OfDrawing (not (good_cells cells)) (refusing OfDrawing Cells (inr (inl refl)))
    (either-refusal OfDrawing (short_work cells w) (refusing OfDrawing Short short-drawn)
    (either-refusal OfDrawing (not (finite_samples g (cells + 3))) (refusing OfDrawing Samples (inr (inr (inr (inl refl)))))
    (either-refusal OfDrawing (is_large c || is_short c room) (refusing OfDrawing Short short-drawn)
    (either-refusal OfDrawing (is_bare s) (refusing OfDrawing Bare (inr (inr (inr (inr (inl refl))))))
    (either-refusal OfDrawing (good_masks (length s.points) s.quads s.labels) (given OfDrawing s)
    (refusing OfDrawing Clash (inr (inr (inr (inr (inr refl))))))))))))

pub drawing-numbers : DrawingNumbers
unfolding DrawingNumbers
drawing-numbers d cells w room n e = said OfDrawing (drawn-by d cells w room) e

-- ---- 2 is none of them

abbrev Other : Refusal → Type 0
Other n = n ≢ Bottomless

sheet-numbers : SheetNumbers Other
sheet-numbers = record {
  at_large = λ e. let z = ap refusal_number e in omega arith;
  at_short = λ e. let z = ap refusal_number e in omega arith;
  at_bare = λ e. let z = ap refusal_number e in omega arith;
  is_corner = λ e. let z = ap refusal_number e in omega arith;
  is_clash = λ e. let z = ap refusal_number e in omega arith;
}

never : {A : Type 0} {o : Outcome A} → Refuses Other o → o ≢ refuses Bottomless
never p e = said Other p e refl

apart : (n : Refusal) → OfDrawing n → Other n
apart n (inl e) k = let z = ap refusal_number (sym e ∙ k) in omega arith
apart n (inr (inl e)) k = let z = ap refusal_number (sym e ∙ k) in omega arith
apart n (inr (inr (inl e))) k = let z = ap refusal_number (sym e ∙ k) in omega arith
apart n (inr (inr (inr (inl e)))) k = let z = ap refusal_number (sym e ∙ k) in omega arith
apart n (inr (inr (inr (inr (inl e))))) k = let z = ap refusal_number (sym e ∙ k) in omega arith
apart n (inr (inr (inr (inr (inr e))))) k = let z = ap refusal_number (sym e ∙ k) in omega arith

-- ---- the tests of a call

box-other : Number Other (Err Box)
box-other = refused Other Box (λ e. let z = ap refusal_number e in omega arith)

domain-number : (d : Domain) → Number Other (domain_verdict d)
unfolding domain_verdict
domain-number d = either_number Other (valid_of (band_in d)) (accepted Other) box-other

measurable-number : (d : Domain) → Number Other (measurable_verdict d)
unfolding measurable_verdict
measurable-number d = either_number Other (measurable_of (band_in d)) (accepted Other) box-other

admitted : (s : Setting) (x : Lent) (w : Work) → Number Other (admits s x w)
admitted s x w = admits-number Other sheet-numbers x w (domain-number (domain_in s))

measured-by : (d : Domain) (x : Lent) (w : Work) → Number Other (measurable d x w)
measured-by d x w = admits-number Other sheet-numbers x w (measurable-number d)

lent_by : (x : Lent) (w : Work) → Number Other (lent_verdict x.counts (room_in x) w)
lent_by x w = lent-number Other sheet-numbers x.counts (room_in x) w

room_for : {A : Type 0} (c : Counts) (r : Room) {o : Outcome A} → Refuses Other o → Refuses Other (with_room c r o)
room_for c r p = either-refusal Other (is_large c || is_short c r) (refusing Other Short (λ e. let z = ap refusal_number e in omega arith)) p

-- ---- the operations

swapped : (g : ℕ) (s : Setting) (k : ℕ) (x : Lent) (w : Work) → Refuses Other (swap_rule g s k x w)
unfolding swap_rule
swapped g s k x w = after-refusal Other (admitted s x w) (given Other _)

coarsened : (s : Setting) (k : ℕ) (x : Lent) (w : Work) → Refuses Other (coarsen_rule s k x w)
unfolding coarsen_rule coarsen_verdict
coarsened s k x w = after-refusal Other (either_number Other (eqb k 0) (lent_by x w) (admitted s x w)) (given Other _)

refined-by : (x : Lent) (w : Work) (room : Room) → Refuses Other (refine_rule x w room)
unfolding refine_rule refined
refined-by x w room =
    let s = held x in
    after-refusal Other (lent_by x w) (either-refusal Other (eqb (length s.labels) (length s.quads))
    (either-refusal Other (all (in_range (length s.points)) s.quads) (room_for (counts_of (finer_sheet s)) room (given Other _))
    (refusing Other Corner (λ e. let z = ap refusal_number e in omega arith))) (refusing Other Bare (λ e. let z = ap refusal_number e in omega arith)))

subdivided-by : (s : Setting) (x : Lent) (w : Work) (room : Room) → Refuses Other (subdivide_rule s x w room)
unfolding subdivide_rule subdivided projected
subdivided-by s x w room =
    let t = smooth_sheet (held x) in
    after-refusal Other (admitted s x w) (room_for (counts_of (finer_sheet (held x))) room
    (either-refusal Other (paired (length (held x).points) (held x).quads)
    (after-refusal Other (sheet-number Other sheet-numbers t)
    (either-refusal Other (every (lands_at s t) (length t.points)) (given Other _) (refusing Other Astray (λ e. let z = ap refusal_number e in omega arith))))
    (refusing Other Edge (λ e. let z = ap refusal_number e in omega arith))))

rows-by : (s : Setting) (x : Lent) (w : Work) (room : Room) → Refuses Other (rows_rule s x w room)
unfolding rows_rule rowed rows_made
rows-by s x w room =
    let t = rows_sheet s (held x) in
    after-refusal Other (admitted s x w) (room_for (counts_of t) room
    (either-refusal Other (all (λ k. is_onto (copy_of s (held x) k)) (copies (held x)))
    (either-refusal Other (paired (length (held x).points) (held x).quads)
    (after-refusal Other (sheet-number Other sheet-numbers t) (given Other t)) (refusing Other Edge (λ e. let z = ap refusal_number e in omega arith)))
    (refusing Other Row (λ e. let z = ap refusal_number e in omega arith))))

quality-by : (d : Domain) (x : Lent) (w : Work) → Refuses Other (quality_rule d x w)
unfolding quality_rule
quality-by d x w = after-refusal Other (measured-by d x w) (measured-number Other (λ e. let z = ap refusal_number e in omega arith) (length (held x).points) (held x).quads d (held x))

corners-by : (d : Domain) (x : Lent) (w : Work) → Refuses Other (corners_rule d x w)
unfolding corners_rule
corners-by d x w = after-refusal Other (measured-by d x w) (given Other _)

paged : {o : Outcome Assessment} → Refuses Other o → Refuses Other (page_outcome o)
paged {o = refuses n} p = record { is = p.is }
paged {o = gives a} p = given Other _

page-by : (d : Domain) (x : Lent) (w : Work) (n : ℕ) → Refuses Other (page_rule d x w n)
unfolding page_rule
page-by d x w n = after-refusal Other (before-number Other sheet-numbers x.counts (ltb n page_size)) (paged (quality-by d x w))

saved-by : (j : Job) (w n : ℕ) → Refuses Other (save_rule j w n)
unfolding save_rule
saved-by j w n = after-refusal Other (before-number Other sheet-numbers j.counts _) (given Other _)

opened-by : (F : List ℕ) (room : JobRoom) (t : Option Trailer) → Refuses Other (open_with F room t)
unfolding open_with summed
opened-by F room (Some t) =
    after-refusal Other (before-number Other sheet-numbers t.counts (is_short_job t.counts room))
    (either-refusal Other (is_other t.sum (sum_of (job_in F t.counts))) (refusing Other refusals.Sum (λ e. let z = ap refusal_number e in omega arith)) (given Other _))
opened-by F room None = refusing Other refusals.Trailer (λ e. let z = ap refusal_number e in omega arith)

summed_by : (t : Option Trailer) (too_short : Bool) → Refuses Other (sum_by t too_short)
unfolding sum_by
summed_by (Some t) too_short = either-refusal Other too_short (refusing Other Short (λ e. let z = ap refusal_number e in omega arith)) (given Other t.sum)
summed_by None too_short = refusing Other refusals.Trailer (λ e. let z = ap refusal_number e in omega arith)

pub never-bottomless : NeverBottomless
never-bottomless = record {
  extract = λ d cells w room e. apart Bottomless (said OfDrawing (drawn-by d cells w room) e) refl;
  refine = λ x w room. never (refined-by x w room);
  subdivide = λ s x w room. never (subdivided-by s x w room);
  rows = λ s x w room. never (rows-by s x w room);
  regularize = λ s k x w. never (swapped regularize_gain s k x w);
  improve = λ s k x w. never (swapped improve_gain s k x w);
  coarsen = λ s k x w. never (coarsened s k x w);
  quality = λ d x w. never (quality-by d x w);
  corners = λ d x w. never (corners-by d x w);
  page = λ d x w n. never (page-by d x w n);
  save = λ j w n. never (saved-by j w n);
  opened = λ F room. never (opened-by F room (trailer_of F));
  sum = λ F too_short. never (summed_by (trailer_of F) too_short);
}

-- ---- the exports

other-refusal : {A : Type 0} (o : Outcome A) → o ≢ refuses Bottomless → Refuses Other o
other-refusal (refuses n) p = refusing Other n (λ e. p (ap refuses e))
other-refusal (gives x) p = given Other x

short-told : (t : Told) → Number Other (cond (is_short_told t) (Err Short) Accepted)
short-told t = either_number Other (is_short_told t) (refused Other Short (λ e. let z = ap refusal_number e in omega arith)) (accepted Other)

pub never-shown : NeverShown
never-shown = record {
  number = λ n e. number-tells n Bottomless e;
  answered = λ c l o p. never (after-refusal Other (before-number Other sheet-numbers c (is_short_answer l)) (other-refusal o p));
  told = λ c few t rule p.
      let s = setting_of (band_of t) in
      never (after-refusal Other (before-number Other sheet-numbers c (few || is_short_told t)) (other-refusal (rule s) (p s)));
  drawn = λ few t w rule p.
      let s = setting_of (band_of t) in
      let v = cond few (work_with 0 0) w in
      never (after-refusal Other (short-told t) (other-refusal (rule s v) (p s v)));
}

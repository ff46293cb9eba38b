-- What `quads_save_job`, `quads_open_job` and `quads_job_sum` show, from what their operations do. Assumes nothing.
use Prim.Native.Nat.{ℕ}
use mathlib.Core.Path.{◌≡◌, refl}
use mathlib.Core.Bool.{true, false}
use mathlib.Core.List.{List, [], ◌∷◌}
use lib.ListN.{replicate}
use Rattle.rule_sheet.specs.declared.Counts.{Counts}
use Rattle.rule_sheet.specs.Lent.{before_verdict}
use Rattle.rule_sheet.specs.Outcomes.{Outcome, gives, after_test}
use Rattle.sheet.proofs.Results.{pad-none}
use Rattle.rule_job.specs.Files.{Job}
use Rattle.rule_job.specs.Jobs.{JobRoom, Saves, Opens, sum_by}
use Rattle.rule_exports.specs.Exports.{is_short_answer, with_answer, Shows}
use Rattle.rule_exports.specs.Measured.{fronted}
use Rattle.rule_exports.specs.Jobs.{ExportSaves, ExportOpens, is_short_sum, sum_shown, sum_answered, ShowsSum}
use Rattle.std.specs.Prelude.{Err, Some, None, Option}
use Rattle.rule_sheet.specs.Verdicts.{Verdict, Answer}
use Rattle.rule_job.specs.declared.Trailer.{Trailer}
use Rattle.rule_sheet.specs.Numbers.{refusal_number}
use Rattle.rule_sheet.specs.declared.Refusal.{Refusal}
use Rattle.rule_sheet.specs.declared.Refusal.TheVariants as refusals

-- a refusal leaves zeros
pub refused-saves : (o : Outcome Job) {v : Verdict} {k : Refusal} {n : ℕ} {F : List ℕ} → v ≡ Err k → F ≡ replicate n 0 → Saves (after_test v o) n (Err k) F
refused-saves o {v} {k} {n} e f = rw e (record { answer = refl; file = pad-none 0 n f })

saved-shows : {o : Outcome Job} {m n : ℕ} {r : Answer} {F l l' : List ℕ} → Saves o m r F → Shows r l n l' → ExportSaves o m l n F l'
saved-shows S H = record { shows = rw S.answer at H; saves = record { answer = refl; file = S.file } }

-- by the test before it
pub answer-saves : (c : Counts) (o : Outcome Job) {v : Verdict} {m n : ℕ} {r : Answer} {F l l' : List ℕ} → v ≡ before_verdict c (is_short_answer l)
    → Saves (after_test v o) m r F → Shows r l n l' → ExportSaves (with_answer c l o) m l n F l'
answer-saves c o e S H = saved-shows (rw e at S) H

pub opened-shows : {o : Outcome Job} {room : JobRoom} {n : ℕ} {r : Answer} {H P Q L l l' : List ℕ} → Opens o room r H P Q L → Shows r l n l' → ExportOpens o room l n H P Q L l'
opened-shows O S = record {
  shows = rw O.answer at S;
  opens = record { answer = refl; header = O.header; points = O.points; quads = O.quads; labelled = O.labelled };
}

-- ---- the sum alone, by the length of its slice and by the trailer

module _ (t : Option Trailer) (l : List ℕ) where
  pub few-shows : is_short_sum l ≡ true → {n : ℕ} → n ≡ sum_answered (sum_by t true) → ShowsSum (sum_by t (is_short_sum l)) l n l
  few-shows h e = rw h (record { number = e; answer = rw h })

  pub found-shows : is_short_sum l ≡ false → {u : Trailer} {l' : List ℕ} → t ≡ Some u → l' ≡ fronted (sum_shown (gives u.sum)) l
      → ShowsSum (sum_by t (is_short_sum l)) l 0 l'
  unfolding sum_by sum_answered
  found-shows h e f = rw (h, e) (record { number = refl; answer = rw h f })

  pub broken-shows : is_short_sum l ≡ false → {l' : List ℕ} → t ≡ None → l' ≡ fronted (0 ∷ 0 ∷ []) l → ShowsSum (sum_by t (is_short_sum l)) l (refusal_number refusals.Trailer) l'
  unfolding sum_by sum_answered sum_shown
  broken-shows h e f = rw (h, e) (record { number = refl; answer = rw h f })

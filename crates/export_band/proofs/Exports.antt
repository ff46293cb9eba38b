-- What an export shows and leaves, from what its operation does. Assumes nothing.
use Prim.Native.Nat.{ℕ, ◌*◌}
use mathlib.Core.Bool.{Bool, cond, ◌||◌}
use mathlib.Core.Path.{◌≡◌, refl}
use mathlib.Core.List.{List}
use lib.Ieee.{Float}
use Rattle.numeric.specs.Num.{zero_f}
use Rattle.band.specs.declared.Band.{Band}
use Rattle.setting.specs.Settings.{Setting, setting_of}
use Rattle.rule_sheet.specs.declared.Counts.{Counts}
use Rattle.rule_sheet.specs.Sheet.{Sheet}
use Rattle.rule_sheet.specs.Lent.{Lent, Room, Work, room_of, work_with, before_verdict}
use Rattle.rule_sheet.specs.Outcomes.{Outcome, refuses, RunEnd, after_test}
use Rattle.rule_sheet.specs.Results.{shown_counts, Makes, Alters, AltersQuads}
use Rattle.rule_exports.specs.Told.{Told, band_of, is_short_told, by_told, drawn_by_told}
use Rattle.rule_exports.specs.Exports.{Shows, is_short_answer, with_answer, ExportMakes, ExportAlters, ExportAltersQuads}
use Rattle.sheet.specs.Results.{cleared}
use Rattle.sheet.proofs.Results.{refused-fills, fills-leaves}
use Rattle.std.specs.Prelude.{Err}
use Rattle.rule_sheet.specs.Verdicts.{Verdict, Answer, Accepted}
use Rattle.rule_sheet.specs.declared.Refusal.{Refusal}
use Rattle.rule_sheet.specs.declared.Refusal.TheVariants.{Short}

-- cleared slices are what a refusal leaves
pub cleared-makes : (n : Refusal) (P : List Float) (Q L : List ℕ) {P' : List Float} {Q' L' : List ℕ} → P' ≡ cleared zero_f (3 * 0) P → Q' ≡ cleared 0 (4 * 0) Q → L' ≡ cleared 0 0 L
    → Makes (refuses n) (room_of P Q L) (Err n) P' Q' L'
unfolding shown_counts
cleared-makes n P Q L e f g = rw (e, f, g) (fills-leaves (refused-fills n P Q L))

-- the tests that come before an operation on a lent sheet
abbrev Before : Counts → Bool → Told → Verdict
Before c few t = before_verdict c (few || is_short_told t)

-- ---- exports that make a sheet

pub shown-makes : {o : Outcome Sheet} {room : Room} {r : Answer} {P : List Float} {Q L l l' : List ℕ} {n : ℕ} → Makes o room r P Q L → Shows r l n l' → ExportMakes o room l n P Q L l'
shown-makes M S = record { shows = rw M.answer at S; makes = record { answer = refl; points = M.points; quads = M.quads; labelled = M.labelled } }

pub told-makes : (c : Counts) (few : Bool) (t : Told) (rule : Setting → Outcome Sheet) {v : Verdict} {b : Band} {room : Room} {r : Answer} {P : List Float} {Q L l l' : List ℕ} {n : ℕ} → v ≡ Before c few t → b ≡ band_of t
    → Makes (after_test v (rule (setting_of b))) room r P Q L → Shows r l n l' → ExportMakes (by_told c few t rule) room l n P Q L l'
told-makes c few t rule ev eb M S = shown-makes (rw (ev, eb) at M) S

pub answer-makes : (c : Counts) (o : Outcome Sheet) {v : Verdict} {room : Room} {r : Answer} {P : List Float} {Q L l l' : List ℕ} {n : ℕ} → v ≡ before_verdict c (is_short_answer l)
    → Makes (after_test v o) room r P Q L → Shows r l n l' → ExportMakes (with_answer c l o) room l n P Q L l'
answer-makes c o ev M S = shown-makes (rw ev at M) S

pub drawn-makes : (few : Bool) (t : Told) (w : Work) (rule : Setting → Work → Outcome Sheet) {v : Verdict} {b : Band} {room : Room} {r : Answer} {P : List Float} {Q L l l' : List ℕ} {n : ℕ}
    → v ≡ cond (is_short_told t) (Err Short) Accepted → b ≡ band_of t → Makes (after_test v (rule (setting_of b) (cond few (work_with 0 0) w))) room r P Q L → Shows r l n l'
    → ExportMakes (drawn_by_told few t w rule) room l n P Q L l'
drawn-makes few t w rule ev eb M S = shown-makes (rw (ev, eb) at M) S

-- ---- exports that alter a sheet

pub told-alters : (c : Counts) (few : Bool) (t : Told) (rule : Setting → Outcome (RunEnd Sheet)) {v : Verdict} {b : Band} {x : Lent} {r : Answer} {P : List Float} {Q L l l' : List ℕ} {n : ℕ} → v ≡ Before c few t → b ≡ band_of t
    → Alters (after_test v (rule (setting_of b))) x r P Q L → Shows r l n l' → ExportAlters (by_told c few t rule) x l n P Q L l'
told-alters c few t rule {v} {b} {x} {r} {P} {Q} {L} {l} {l'} {n} ev eb A S = go (rw (ev, eb) at A)
  where
    go : Alters (by_told c few t rule) x r P Q L → ExportAlters (by_told c few t rule) x l n P Q L l'
    go B = record { shows = rw B.answer at S; alters = record { answer = refl; points = B.points; quads = B.quads; labelled = B.labelled } }

pub told-quads : (c : Counts) (few : Bool) (t : Told) (rule : Setting → Outcome (RunEnd Sheet)) {v : Verdict} {b : Band} {x : Lent} {r : Answer} {Q l l' : List ℕ} {n : ℕ} → v ≡ Before c few t → b ≡ band_of t
    → AltersQuads (after_test v (rule (setting_of b))) x r Q → Shows r l n l' → ExportAltersQuads (by_told c few t rule) x l n Q l'
told-quads c few t rule {v} {b} {x} {r} {Q} {l} {l'} {n} ev eb A S = go (rw (ev, eb) at A)
  where
    go : AltersQuads (by_told c few t rule) x r Q → ExportAltersQuads (by_told c few t rule) x l n Q l'
    go B = record { shows = rw B.answer at S; alters = record { answer = refl; quads = B.quads } }

-- A slice that was cleared behind the sheet is the padded sheet. Assumes nothing.
use Prim.Native.Nat.{ℕ, zero, suc, ◌-◌, ◌*◌, ◌≤◌}
use mathlib.Core.Path.{◌≡◌, refl, sym, ap, ◌∙◌}
use mathlib.Core.List.{List, [], ◌∷◌, ◌++◌}
use native.Mathlib.Omega.{arith}
use lib.ListN.{length, take, drop, replicate, take-append-drop}
use lib.Seq.{length-take-le}
use lib.Ieee.{Float}
use borrow.Rule.Slice.PartMut.{mid_of, put_mid}
use Rattle.lists.proofs.Parts.{tail-same}
use Rattle.numeric.specs.Num.{zero_f}
use Rattle.points.specs.declared.Point.{Point}
use Rattle.rule_sheet.specs.declared.Counts.{Counts}
use Rattle.rule_sheet.specs.Quads.{Quad, quad}
use Rattle.rule_sheet.specs.Flat.{flat_quads}
use Rattle.rule_sheet.specs.Sheet.{Sheet, flat_points}
use Rattle.rule_sheet.specs.Outcomes.{Outcome, refuses, gives}
use Rattle.rule_sheet.specs.Lent.{room_with, room_of}
use Rattle.sheet.specs.Results.{cleared, HoldsCounts, Front, Fills}
use Rattle.rule_sheet.specs.Results.{shown_counts, answer_of, made, shown, padded, Makes}
use Rattle.std.specs.Prelude.{Err}
use Rattle.rule_sheet.specs.Verdicts.{Answer}
use Rattle.rule_sheet.specs.declared.Refusal.{Refusal}

-- `clear(&mut s[n..])`
pub behind : {A : Type 0} (x : A) (n : ℕ) (s z : List A) → n ≤ length s → z ≡ replicate (length (mid_of n (length s - n) s)) x → put_mid n (length s - n) s z ≡ cleared x n s
unfolding cleared
behind x n s z h e = tail-same x n (take n s) s s z (length-take-le n s h) h (sym (take-append-drop n s)) e

pub length-flat-points : (ps : List Point) → length (flat_points ps) ≡ 3 * length ps
unfolding flat_points
length-flat-points [] = refl
length-flat-points (p ∷ ps) = omega (arith, length-flat-points ps)

pub length-flat-quads : (S : List Quad) → length (flat_quads S) ≡ 4 * length S
unfolding flat_quads
length-flat-quads [] = refl
length-flat-quads (quad a b c d ∷ S) = omega (arith, length-flat-quads S)

-- a slice that begins with the elements of l, once it is cleared behind them
pub pad : {A : Type 0} (x : A) (n : ℕ) (l s : List A) → Front l s → n ≡ length l → cleared x n s ≡ padded x (length s) l
unfolding cleared padded
pad x n l s F e = rw (e, F.is)

-- what an answer shows is what its outcome shows
pub shown-is : (o : Outcome Sheet) → shown_counts (answer_of (made o)) ≡ record { points = length (shown o).points; quads = length (shown o).quads; labels = length (shown o).labels }
unfolding shown_counts
shown-is (refuses n) = refl
shown-is (gives s) = refl

-- the slices have room for what the answer shows
pub fills-room : {o : Outcome Sheet} {r : Answer} {P : List Float} {Q labels : List ℕ} → Fills o r P Q labels → HoldsCounts (shown_counts r) (length P) (length Q) (length labels)
fills-room {o} F =
    rw (F.answer, shown-is o) (record {
      points = omega (arith, F.points.fits, length-flat-points (shown o).points);
      quads = omega (arith, F.quads.fits, length-flat-quads (shown o).quads);
      labels = F.labelled.fits;
    })

-- the slices once they are cleared
pub fills-leaves : {o : Outcome Sheet} {r : Answer} {P : List Float} {Q labels : List ℕ} → Fills o r P Q labels
    → Makes o (room_of P Q labels) r (cleared zero_f (3 * (shown_counts r).points) P) (cleared 0 (4 * (shown_counts r).quads) Q) (cleared 0 (shown_counts r).labels labels)
fills-leaves {o} {r} {P} {Q} {labels} F =
    let e : shown_counts r ≡ record { points = length (shown o).points; quads = length (shown o).quads; labels = length (shown o).labels } = ap shown_counts F.answer ∙ shown-is o in
    record {
      answer = F.answer;
      points = pad zero_f _ _ P F.points (rw e (sym (length-flat-points (shown o).points)));
      quads = pad 0 _ _ Q F.quads (rw e (sym (length-flat-quads (shown o).quads)));
      labelled = pad 0 _ _ labels F.labelled (rw e);
    }

-- the same, by the counts that are shown
pub shown-room : {o : Outcome Sheet} {r : Answer} {P : List Float} {Q labels : List ℕ} {k : Counts} → Fills o r P Q labels → k ≡ shown_counts r → HoldsCounts k (length P) (length Q) (length labels)
shown-room F e = rw e (fills-room F)

pub leaves_of : {o : Outcome Sheet} {r : Answer} {P A : List Float} {Q labels B D : List ℕ} {k : Counts} (p q l : ℕ) → Fills o r P Q labels → k ≡ shown_counts r
    → length P ≡ p → length Q ≡ q → length labels ≡ l
    → (A ≡ cleared zero_f (3 * k.points) P) × ((B ≡ cleared 0 (4 * k.quads) Q) × (D ≡ cleared 0 k.labels labels)) → Makes o (room_with p q l) r A B D
leaves_of {o} {r} {P} {A} {Q} {labels} {B} {D} {k} p q l F e ep eq el E = rw (← ep, ← eq, ← el, E.0, E.1.0, E.1.1, e) (fills-leaves F)

-- a refusal shows nothing, whatever the slices hold
pub refused-fills : (n : Refusal) (P : List Float) (Q labels : List ℕ) → Fills (refuses n) (Err n) P Q labels
unfolding flat_points flat_quads
refused-fills n P Q labels = record {
  answer = refl;
  points = record { fits = omega arith; is = refl };
  quads = record { fits = omega arith; is = refl };
  labelled = record { fits = omega arith; is = refl };
}

-- ---- a slice of zeros

drop-same : {A : Type 0} (m n : ℕ) (x : A) → drop m (replicate n x) ≡ replicate (n - m) x
drop-same zero n x = let e : n - 0 ≡ n = omega arith in rw e
drop-same (suc m) zero x = let e : 0 - suc m ≡ 0 = omega arith in rw e
drop-same (suc m) (suc n) x = let e : suc n - suc m ≡ n - m = omega arith in rw e (drop-same m n x)

-- the elements of l are written to its front
pub pad-over : {A : Type 0} (x : A) (m n : ℕ) (l : List A) {s r : List A} → s ≡ replicate n x → length l ≡ m → r ≡ l ++ drop m s → r ≡ padded x n l
unfolding padded
pad-over x m n l e k h = h ∙ rw (e, drop-same m n x, k)

-- nothing is
pub pad-none : {A : Type 0} (x : A) (n : ℕ) {s : List A} → s ≡ replicate n x → s ≡ padded x n []
unfolding padded
pad-none x n e = let z : n - 0 ≡ n = omega arith in rw z e

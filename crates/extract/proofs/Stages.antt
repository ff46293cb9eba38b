-- The stages of extraction, from its last tests to the outcome of its rule. Assumes nothing.
use Prim.Native.Nat.{ℕ, ◌+◌, ◌*◌, ◌≤◌, ◌<◌}
use mathlib.Core.Path.{◌≡◌, refl, sym, ap, ◌∙◌}
use mathlib.Core.Bool.{Bool, true, false, cond, ◌||◌}
use mathlib.Core.List.{List}
use native.Mathlib.Omega.{arith}
use native.Mathlib.Nat.{mul-le-mul_right}
use lib.Dec.{leb, ltb}
use lib.ListN.{length, get_or, take}
use lib.Seq.{length-take-le}
use lib.Ieee.{Float, nan}
use borrow.Author.Tests.{leb-true, ltb-false}
use Rattle.numeric.specs.Num.{finite_of}
use Rattle.lists.specs.Sort.{tabulate}
use Rattle.lists.specs.Every.{every}
use Rattle.lists.proofs.Laws.{length-tab, get_or-tab}
use Rattle.lists.proofs.Every.{and_right, every-ext}
use Rattle.band.specs.Bands.{valid_of}
use Rattle.setting.specs.Settings.{Domain, band_in}
use Rattle.rule_sheet.specs.declared.Counts.{Counts}
use Rattle.rule_sheet.specs.Flat.{quads_of, flat_quads}
use Rattle.sheet.specs.Flat.{Holds}
use Rattle.rule_sheet.specs.Edges.{join_to}
use Rattle.rule_sheet.specs.Tests.{good_corners, good_masks}
use Rattle.rule_sheet.specs.Sheet.{Sheet, sheet_of, counts_of, points_of, flat_points, is_bare}
use Rattle.rule_sheet.specs.Lent.{Room, Work, room_with, work_with, is_large, is_short}
use Rattle.sheet.specs.Sheet.{bare_by, LentSheet}
use Rattle.sheet.proofs.Flat.{length-quads}
use Rattle.sheet.proofs.Tests.{or_left, or_right, holds_of, length-points, bare-is, labels-match, holds-quads}
use Rattle.rule_sheet.specs.Outcomes.{Outcome, refuses, gives}
use Rattle.rule_sheet.specs.Results.{answer_of, made}
use Rattle.sheet.specs.Results.{Front, Fills}
use Rattle.sheet.proofs.Results.{refused-fills}
use Rattle.sheet.proofs.Fronts.{points-front, quads-front}
use Rattle.rule_extract.specs.declared.Grid.{Grid}
use Rattle.rule_extract.specs.Grids.{grid_of}
use Rattle.rule_extract.specs.Lattice.{sample_at}
use Rattle.extract_grid.specs.Lattice.{finite_in, Samples}
use Rattle.rule_extract.specs.Drawing.{points_to, inner_count, quad_if, drawn_sheet, good_cells, short_work, finite_sample, finite_samples, drawn_or, extract_rule}
use Rattle.extract_quads.proofs.Turns.{labels-many}
use Rattle.extract_quads.proofs.Good.{drawn-good}
use Rattle.extract.specs.Stages.{tested_or, sampled_or}
use Rattle.std.specs.Prelude.{Ok, Err}
use Rattle.rule_sheet.specs.Verdicts.{Answer}
use Rattle.rule_sheet.specs.declared.Refusal.TheVariants.{Bare, Box, Cells, Clash, Short}
use Rattle.rule_sheet.specs.declared.Refusal.TheVariants as refusals

-- ---- grids

-- the numbers of samples and slots fit
pub cube : (m : ℕ) → m ≤ 131 → (m * m ≤ 17161) × (m * m * m ≤ 2248091)
cube m h =
    let a : m * m ≤ 131 * m = mul-le-mul_right m h in
    let b : m * m * m ≤ 17161 * m = mul-le-mul_right m (omega arith) in
    (omega arith, omega arith)

-- ---- 5 and 7, of a sheet that its slices hold

module _ (c : Counts) (P : List Float) (Q labels : List ℕ) (L : LentSheet c (length P) (length Q) (length labels)) where
  pub tested-bare : bare_by c P ≡ true → Err Bare ≡ answer_of (made (tested_or (sheet_of c P Q labels)))
  unfolding tested_or
  tested-bare e = rw (← bare-is c P Q labels L.labels, e)

  counts-read : counts_of (sheet_of c P Q labels) ≡ c
  counts-read = rw (length-points c.points P, length-quads c.quads Q, length-take-le c.labels labels L.labels)

  module _ (e : bare_by c P ≡ false) (w : List ℕ) (h : c.points ≤ length w) where
    pub masks-ready : good_corners c.points (quads_of c.quads Q) (take c.labels labels) ≡ true
        → Holds c.quads Q labels × (good_corners (length (take c.points w)) (quads_of c.quads Q) (take c.quads labels) ≡ true)
    masks-ready k = (holds-quads c P Q labels (length P) L e, rw (length-take-le c.points w h) (rw (labels-match c P e) at k))

    module _ (r : Bool) (k : r ≡ good_masks (length (take c.points w)) (quads_of c.quads Q) (take c.quads labels)) where
      good-is : good_masks (length (points_of c.points P)) (quads_of c.quads Q) (take c.labels labels) ≡ r
      good-is = rw (length-points c.points P, labels-match c P e) (sym (rw (length-take-le c.points w h) at k))

      pub tested-done : r ≡ true → Ok (record { count = 0; sheet = c }) ≡ answer_of (made (tested_or (sheet_of c P Q labels)))
      unfolding tested_or
      tested-done t = rw (← bare-is c P Q labels L.labels, e, good-is, t) (ap (λ (k : Counts). Ok (record { count = 0; sheet = k })) (sym counts-read))

      pub tested-clash : r ≡ false → Err Clash ≡ answer_of (made (tested_or (sheet_of c P Q labels)))
      unfolding tested_or
      tested-clash t = rw (← bare-is c P Q labels L.labels, e, good-is, t)

-- ---- 5 and 7, of a sheet in the result slices

module _ (s : Sheet) (c : Counts) (A : List Float) (B D : List ℕ) (e : c ≡ counts_of s) (F : Front (flat_points s.points) A × (Front (flat_quads s.quads) B × Front s.labels D)) where
  -- what the slices are read as
  read_is : sheet_of c A B D ≡ s
  read_is =
      let x = points-front s.points A c.points F.0 (ap (λ (k : Counts). k.points) (sym e)) in
      let y = quads-front s.quads B c.quads F.1.0 (ap (λ (k : Counts). k.quads) (sym e)) in
      let z : take c.labels D ≡ s.labels = rw e F.1.1.is in
      rw (x, y, z)

  corners-read : good_corners (length s.points) s.quads s.labels ≡ true → good_corners c.points (quads_of c.quads B) (take c.labels D) ≡ true
  corners-read h =
      let y : quads_of c.quads B ≡ s.quads = ap (λ (t : Sheet). t.quads) read_is in
      let z : take c.labels D ≡ s.labels = ap (λ (t : Sheet). t.labels) read_is in
      rw (y, z, ap (λ (k : Counts). k.points) e) h

  by : (b m : Bool) → let o = cond b (refuses Bare) (cond m (gives s) (refuses Clash)) in Fills o (answer_of (made o)) A B D
  by true m = refused-fills Bare A B D
  by false true = record { answer = refl; points = F.0; quads = F.1.0; labelled = F.1.1 }
  by false false = refused-fills Clash A B D

  tested-fills : (r : Answer) → r ≡ answer_of (made (tested_or (sheet_of c A B D))) → Fills (tested_or s) r A B D
  unfolding tested_or
  tested-fills r q =
      let a : r ≡ answer_of (made (tested_or s)) = q ∙ ap (λ (t : Sheet). answer_of (made (tested_or t))) read_is in
      rw a (by (is_bare s) (good_masks (length s.points) s.quads s.labels))

-- ---- the sheet and its counts

pub counts-are : (g : Grid) (n p q : ℕ) → p ≡ length (points_to g n (n * n * n)) → q ≡ length (join_to (quad_if g n) (inner_count n))
    → record { points = p; quads = q; labels = q } ≡ counts_of (drawn_sheet g n)
unfolding drawn_sheet
counts-are g n p q e f = rw (e, f, labels-many g n (inner_count n))

-- 6 never arises
corners-good : (g : Grid) (n : ℕ) → good_corners (length (drawn_sheet g n).points) (drawn_sheet g n).quads (drawn_sheet g n).labels ≡ true
unfolding drawn_sheet
corners-good g n = drawn-good g n

-- ---- the result's 13

module _ (g : Grid) (n : ℕ) (c : Counts) (e : c ≡ counts_of (drawn_sheet g n)) (p q l : ℕ) (o : Bool) (u : o ≡ (is_large c || is_short c (room_with p q l))) where
  pub drawn-over : (A : List Float) (B D : List ℕ) → o ≡ true → Fills (drawn_or (drawn_sheet g n) (room_with p q l)) (Err Short) A B D
  drawn-over A B D h = rw (← e, ← u, h) (refused-fills Short A B D)

  module _ (h : o ≡ false) where
    holds : LentSheet c p q l
    holds = let k = sym u ∙ h in holds_of c p q l (or_left _ _ k) (or_right (is_large c) _ k)

    pub drawn-room : LentSheet (counts_of (drawn_sheet g n)) p q l
    drawn-room = rw (← e) holds

    -- what the tests of the drawn sheet ask
    pub tested-ready : (A : List Float) (B D : List ℕ) (w v : ℕ) → length A ≡ p → length B ≡ q → length D ≡ l → w ≡ v
        → Front (flat_points (drawn_sheet g n).points) A × (Front (flat_quads (drawn_sheet g n).quads) B × Front (drawn_sheet g n).labels D)
        → 12 * (n * n * n) ≤ v → c.points ≤ 12 * (n * n * n)
        → LentSheet c (length A) (length B) (length D) × ((c.points ≤ w) × (good_corners c.points (quads_of c.quads B) (take c.labels D) ≡ true))
    tested-ready A B D w v ep eq el ew F i j = (rw (ep, eq, el) holds, (omega arith, corners-read (drawn_sheet g n) c A B D e F (corners-good g n)))

    pub drawn-tested : (A : List Float) (B D : List ℕ) (r : Answer) → Front (flat_points (drawn_sheet g n).points) A × (Front (flat_quads (drawn_sheet g n).quads) B × Front (drawn_sheet g n).labels D)
        → r ≡ answer_of (made (tested_or (sheet_of c A B D))) → Fills (drawn_or (drawn_sheet g n) (room_with p q l)) r A B D
    unfolding tested_or
    drawn-tested A B D r F t = rw (← e, ← u, h) (tested-fills (drawn_sheet g n) c A B D e F r t)

-- ---- 4

module _ (g : Grid) (m : ℕ) (F : List Float) (e : F ≡ tabulate (sample_at g m) (m * m * m)) where
  many : length F ≡ m * m * m
  many = ap length e ∙ length-tab (sample_at g m) (m * m * m)

  at : (t : ℕ) → t < m * m * m → get_or F t nan ≡ sample_at g m t
  at t h = rw e (get_or-tab (sample_at g m) (m * m * m) t nan h)

  pub samples-are : m ≤ 131 → Samples g m F
  samples-are h = record { m≤ = h; fits = omega (arith, many); is = at }

  pub finite-are : every (finite_in F) (length F) ≡ finite_samples g m
  finite-are = rw many (every-ext (finite_in F) (finite_sample g m) (m * m * m) (λ t h. ap finite_of (at t h)))

module _ (g : Grid) (n : ℕ) (room : Room) (A : List Float) (B D : List ℕ) where
  pub sampled-refused : finite_samples g (n + 1) ≡ false → Fills (sampled_or g n room) (Err refusals.Samples) A B D
  unfolding sampled_or
  sampled-refused e = rw e (refused-fills refusals.Samples A B D)

  pub sampled-drawn : (r : Answer) → finite_samples g (n + 1) ≡ true → Fills (drawn_or (drawn_sheet g n) room) r A B D → Fills (sampled_or g n room) r A B D
  unfolding sampled_or
  sampled-drawn r e F = rw e F

-- ---- 1, 3 and 13

pub few-cells : (cells : ℕ) → good_cells cells ≡ true → cells ≤ 128
few-cells cells h = leb-true cells 128 (and_right (leb 4 cells) (leb cells 128) h)

-- the work slices hold the samples and the slots
pub record CellsFit (cells : ℕ) (w : Work) : Type 0 where
  pub few : cells ≤ 128
  pub floats : (cells + 3) * (cells + 3) * (cells + 3) ≤ w.floats
  pub work : 12 * ((cells + 2) * (cells + 2) * (cells + 2)) ≤ w.numbers

pub cells_fit : (cells : ℕ) (w : Work) → good_cells cells ≡ true → short_work cells w ≡ false → CellsFit cells w
cells_fit cells w h k = record {
  few = few-cells cells h;
  floats = ltb-false w.floats _ (or_left _ _ k);
  work = ltb-false w.numbers _ (or_right (ltb w.floats ((cells + 3) * (cells + 3) * (cells + 3))) _ k);
}

pub sample-ready : (cells w : ℕ) (F : List Float) → CellsFit cells (work_with w (length F))
    → (cells + 2 ≤ 130) × ((length (take ((cells + 3) * (cells + 3) * (cells + 3)) F) ≡ (cells + 2 + 1) * (cells + 2 + 1) * (cells + 2 + 1)) × (12 * ((cells + 2) * (cells + 2) * (cells + 2)) ≤ w))
sample-ready cells w F R =
    let z : cells + 2 + 1 ≡ cells + 3 = omega arith in
    let h = R.few in
    (omega arith, (rw z (length-take-le _ F R.floats), R.work))

module _ (d : Domain) (cells : ℕ) (w : Work) (room : Room) (A : List Float) (B D : List ℕ) where
  abbrev Rule : Outcome Sheet
  Rule = extract_rule d cells w room

  pub rule-box : valid_of (band_in d) ≡ false → Fills Rule (Err Box) A B D
  unfolding extract_rule
  rule-box e = rw e (refused-fills Box A B D)

  module _ (e : valid_of (band_in d) ≡ true) where
    pub rule-cells : good_cells cells ≡ false → Fills Rule (Err Cells) A B D
    unfolding extract_rule
    rule-cells h = rw (e, h) (refused-fills Cells A B D)

    module _ (h : good_cells cells ≡ true) where
      pub rule-short : short_work cells w ≡ true → Fills Rule (Err Short) A B D
      unfolding extract_rule
      rule-short k = rw (e, h, k) (refused-fills Short A B D)

      pub rule-sampled : {g : Grid} (r : Answer) → short_work cells w ≡ false → g ≡ grid_of d cells → Fills (sampled_or g (cells + 2) room) r A B D → Fills Rule r A B D
      unfolding extract_rule sampled_or
      rule-sampled r k eg F =
          let z : cells + 2 + 1 ≡ cells + 3 = omega arith in
          rw (e, h, k) (rw (eg, z) at F)

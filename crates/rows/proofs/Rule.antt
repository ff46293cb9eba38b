-- From the three slices to the sheet with rows, and to the rule. Assumes nothing.
use Prim.Native.Nat.{ℕ, ◌+◌, ◌-◌, ◌*◌, ◌≤◌}
use mathlib.Core.Path.{◌≡◌, refl, sym, ap, ◌∙◌}
use mathlib.Core.Bool.{Bool, true, false, not, ◌||◌}
use mathlib.Core.List.{List, [], ◌∷◌, ◌++◌, map}
use native.Mathlib.Omega.{arith}
use lib.ListN.{length, take, length-append, length-map}
use lib.Seq.{length-take-le}
use lib.Ieee.{Float}
use borrow.Author.Tests.{leb-true}
use Rattle.lists.specs.Sort.{tabulate}
use Rattle.lists.specs.Every.{every}
use Rattle.lists.specs.Regions.{part}
use Rattle.lists.proofs.Every.{and_left, every-at}
use Rattle.lists.proofs.Regions.{part_of}
use Rattle.setting.specs.Settings.{Setting}
use Rattle.rule_sheet.specs.declared.Counts.{Counts}
use Rattle.rule_sheet.specs.Quads.{Quad, quad, all}
use Rattle.sheet.specs.Tests.{good_quad_at}
use Rattle.rule_sheet.specs.Tests.{good_corners}
use Rattle.rule_sheet.specs.Flat.{quads_of, flat_quads}
use Rattle.rule_sheet.specs.Sheet.{Sheet, points_of, flat_points, sheet_of, counts_of, sheet_verdict}
use Rattle.rule_sheet.specs.Lent.{Lent, Work, lent_of, Room, room_with, is_large, is_short}
use Rattle.sheet.specs.Sheet.{masks_of, LentSheet}
use Rattle.sheet.proofs.Tests.{or_left, or_right, holds_of, length-points, bare-is, labels-match, tested, some-quad, proper-of, corners-tested}
use Rattle.rule_sheet.specs.Outcomes.{gives, after_test}
use Rattle.sheet.specs.Results.{Front, Fills}
use Rattle.rule_admission.specs.Admission.{setting_verdict, admits}
use Rattle.admission.specs.Clauses.{MasksAt}
use Rattle.admission.proofs.Admitted.{admitted}
use Rattle.incidence.proofs.Corners.{cornered}
use Rattle.refine.proofs.Edges.{sorted}
use Rattle.sheet.proofs.Results.{refused-fills}
use Rattle.rule_finer.specs.Smoothed.{paired}
use Rattle.subdivide_points.specs.Steps.{flat_sheet}
use Rattle.sheet.proofs.Fronts.{points-front, quads-front}
use Rattle.rule_rows.specs.Rows.{copies, number_of, copy_of, copied_quads, label_of, strip_at, row_sides, rows_sheet, rows_made, rowed, rows_rule}
use Rattle.projection.specs.Project.{is_onto}
use Rattle.rows_gather.specs.Steps.{number_in, points_after, corner_label, seams_of, masks_at, counts_after, Worked, Gathered, Gathering}
use Rattle.rows_copies.specs.Steps.{found_at, copies_to}
use Rattle.rows_quads.specs.Steps.{corner_in, strip_in}
use Rattle.rows.specs.Steps.{made_by, Finished, Tested}
use Rattle.rows_gather.proofs.Numbers.{number-le}
use Rattle.rows.proofs.Seams.{side_at, row-sides}
use Rattle.rows_copies.proofs.Put.{length-rows}
use Rattle.rows.proofs.Flat.{number_is, found-is, copies-are, copied-quads, length-copied, strips-are, strip-labels}
use Rattle.std.specs.Prelude.{Ok, Err}
use Rattle.rule_sheet.specs.Verdicts.{Verdict, Answer, Accepted}
use Rattle.rule_sheet.specs.declared.Refusal.{Refusal}
use Rattle.rule_sheet.specs.declared.Refusal.TheVariants.{Edge, Row, Short}

-- ---- the three slices

flat_append : (S T : List Quad) → flat_quads (S ++ T) ≡ flat_quads S ++ flat_quads T
unfolding flat_quads
flat_append [] T = refl
flat_append (quad a b c d ∷ S) T = rw (flat_append S T)

-- a slice that begins with a list, by its length
front-take : {A : Type 0} (l s : List A) (n : ℕ) → Front l s → n ≡ length l → take n s ≡ l
front-take l s n F e = rw e F.is

module _ {np nq : ℕ} {P : List Float} {Q labels M w : List ℕ} (G : Gathered np nq P Q labels M w) (em : M ≡ masks_of np (quads_of nq Q) (take nq labels)) (b : Setting) where
  abbrev s : Sheet
  s = flat_sheet np nq P Q labels

  abbrev t : Sheet
  t = rows_sheet b s

  pub points-are : points_of np P ++ copies_to b nq P Q labels M (8 * np) ≡ t.points
  unfolding rows_sheet
  points-are = rw (em, copies-are G.sheet b)

  pub quads_are : tabulate (corner_in np Q labels M) (4 * nq) ++ flat_quads (map (strip_in np Q labels M) (seams_of np nq Q labels)) ≡ flat_quads t.quads
  unfolding rows_sheet
  quads_are = rw (em, flat_append (copied_quads s) (map (strip_at s) (row_sides s)), copied-quads G.sheet, strips-are G.sheet G.some)

  pub labels-are : take nq labels ++ map (corner_label labels) (seams_of np nq Q labels) ≡ t.labels
  unfolding rows_sheet
  labels-are = rw (strip-labels G.sheet)

  seams-count : length (row_sides s) ≡ length (seams_of np nq Q labels)
  seams-count = rw (row-sides np nq P Q labels (sorted G.sheet.held.cornered).len) (length-map (seams_of np nq Q labels) (side_at Q labels))

  -- its counts
  pub counts_of_lem : counts_of t ≡ counts_after np nq Q labels M
  unfolding rows_sheet copies number_of
  counts_of_lem =
      let x : length t.points ≡ points_after np M = rw (em, number_is G.sheet (8 * np) (omega arith)) (points-count) in
      let y : length t.quads ≡ nq + length (seams_of np nq Q labels) = length-append (copied_quads s) (map (strip_at s) (row_sides s)) ∙ omega (arith, length-copied G.sheet, length-map (row_sides s) (strip_at s), seams-count) in
      let z : length t.labels ≡ nq + length (seams_of np nq Q labels) = length-append (take nq labels) (map label_of (row_sides s)) ∙ omega (arith, length-take-le nq labels G.sheet.labelled, length-map (row_sides s) label_of, seams-count) in
      rw (x, y, z)
    where
      points-count : length t.points ≡ number_of s (8 * np)
      points-count = length-rows b s ∙ ap (λ (k : ℕ). number_of s (8 * k)) (length-points np P)

  module _ {A : List Float} {B D : List ℕ} (FA : Front (flat_points t.points) A) (FB : Front (flat_quads t.quads) B) (FD : Front t.labels D) (c : Counts) (ec : c ≡ counts_of t) where
    sheet-is : sheet_of c A B D ≡ t
    sheet-is = rw (ec, points-front t.points A (length t.points) FA refl, quads-front t.quads B (length t.quads) FB refl, front-take t.labels D (length t.labels) FD refl)

    made-fills : (v : Verdict) (r : Answer) → r ≡ made_by c v → Fills (after_test v (gives t)) r A B D
    made-fills (Ok u) r er = record { answer = er ∙ ap (λ (k : Counts). Ok (record { count = 0; sheet = k })) ec; points = FA; quads = FB; labelled = FD }
    made-fills (Err n) r er = rw er (refused-fills n A B D)

    -- all copies are found, and the edges have two quads each
    pub rows-done : (r : Answer) → every (found_at b nq P Q labels M) (8 * np) ≡ true → paired np (quads_of nq Q) ≡ true → r ≡ made_by c (sheet_verdict (sheet_of c A B D)) → Fills (rows_made b s) r A B D
    unfolding rows_made
    rows-done r f pr er =
        let g : all (λ k. is_onto (copy_of b s k)) (copies s) ≡ true = sym (found-is G.sheet b) ∙ rw em at f in
        rw (g, length-points np P, pr) (made-fills (sheet_verdict t) r (rw sheet-is at er))

  -- 10 and 8
  pub rows-lost : (A : List Float) (B D : List ℕ) → every (found_at b nq P Q labels M) (8 * np) ≡ false → Fills (rows_made b s) (Err Row) A B D
  unfolding rows_made
  rows-lost A B D f =
      let g : all (λ k. is_onto (copy_of b s k)) (copies s) ≡ false = sym (found-is G.sheet b) ∙ rw em at f in
      rw g (refused-fills Row A B D)

  pub rows-open : (A : List Float) (B D : List ℕ) → every (found_at b nq P Q labels M) (8 * np) ≡ true → paired np (quads_of nq Q) ≡ false → Fills (rows_made b s) (Err Edge) A B D
  unfolding rows_made
  rows-open A B D f pr =
      let g : all (λ k. is_onto (copy_of b s k)) (copies s) ≡ true = sym (found-is G.sheet b) ∙ rw em at f in
      rw (g, length-points np P, pr) (refused-fills Edge A B D)

-- ---- the sheet with rows once it is gathered

not-true : (b : Bool) → not b ≡ true → b ≡ false
not-true true e = sym e
not-true false e = refl

pub not-false : (b : Bool) → not b ≡ false → b ≡ true
not-false true e = refl
not-false false e = sym e

number-ge : (np : ℕ) (M : List ℕ) (k : ℕ) → np ≤ number_in np M k
unfolding number_in
number-ge np M k = omega arith

module _ {m : Counts} {np nq : ℕ} {P : List Float} {Q labels w : List ℕ} {p q l : ℕ} (F : Finished m np nq P Q labels w p q l) where
  abbrev masks : List ℕ
  masks = part (masks_at np nq) np w

  abbrev J : List ℕ
  J = seams_of np nq Q labels

  points-many : m.points ≡ points_after np masks
  points-many = ap (λ (c : Counts). c.points) F.counts

  quads-many : m.quads ≡ nq + length J
  quads-many = ap (λ (c : Counts). c.quads) F.counts

  labels-many : m.labels ≡ nq + length J
  labels-many = ap (λ (c : Counts). c.labels) F.counts

  -- room for the old points and for all
  pub finished-old : 3 * np ≤ p
  finished-old = omega (arith, F.room.points, points-many, number-ge np masks (8 * np))

  pub finished-points : (n : ℕ) → n ≡ p → 3 * points_after np masks ≤ n
  finished-points n e = omega (arith, F.room.points, points-many)

  -- the strips, and room for them
  pub finished-strips : m.quads - nq ≡ length J
  finished-strips = omega (arith, quads-many)

  pub finished-more : nq ≤ m.quads
  finished-more = omega (arith, quads-many)

  pub finished-quads : (n : ℕ) → n ≡ q → 4 * (nq + (m.quads - nq)) ≤ n
  finished-quads n e = omega (arith, F.room.quads, quads-many)

  pub finished-labels : (n : ℕ) → n ≡ l → nq + (m.quads - nq) ≤ n
  finished-labels n e = omega (arith, F.room.labels, labels-many, quads-many)

  -- room for the tests of the result
  pub finished-room : (a b c n : ℕ) → a ≡ p → b ≡ q → c ≡ l → n ≡ length w → LentSheet m a b c × (m.points ≤ n)
  finished-room a b c n ea eb ec en =
      rw (ea, eb, ec, en) (F.room, omega (arith, points-many, number-le np masks (8 * np), F.work))

  pub finished-done : {A : List Float} {B D : List ℕ} (b : Setting) (f : Bool) (r : Answer) → f ≡ every (found_at b nq P Q labels masks) (8 * np) → f ≡ true
      → (f ≡ true → Front (flat_points (points_of np P ++ copies_to b nq P Q labels masks (8 * np))) A) → paired np (quads_of nq Q) ≡ true
      → Front (tabulate (corner_in np Q labels masks) (4 * nq) ++ flat_quads (map (strip_in np Q labels masks) J)) B × Front (take nq labels ++ map (corner_label labels) J) D
      → r ≡ made_by m (sheet_verdict (sheet_of m A B D)) → Fills (rows_made b (flat_sheet np nq P Q labels)) r A B D
  finished-done {A} {B} {D} b f r ef e FA pr FB er =
      let G = F.gathered in
      rows-done G F.masks b (rw (points-are G F.masks b) at (FA e)) (rw (quads_are G F.masks b) at FB.0) (rw (labels-are G F.masks b) at FB.1) m (F.counts ∙ sym (counts_of_lem G F.masks b)) r (sym ef ∙ e) pr er

  pub finished-lost : (b : Setting) (f : Bool) (A : List Float) (B D : List ℕ) → f ≡ every (found_at b nq P Q labels masks) (8 * np) → not f ≡ true → Fills (rows_made b (flat_sheet np nq P Q labels)) (Err Row) A B D
  finished-lost b f A B D ef e = rows-lost F.gathered F.masks b A B D (sym ef ∙ not-true f e)

  pub finished_open : (b : Setting) (f g : Bool) (A : List Float) (B D : List ℕ) → f ≡ every (found_at b nq P Q labels masks) (8 * np) → not f ≡ false → g ≡ paired np (quads_of nq Q) → not g ≡ true
      → Fills (rows_made b (flat_sheet np nq P Q labels)) (Err Edge) A B D
  finished_open b f g A B D ef e eg h = rows-open F.gathered F.masks b A B D (sym ef ∙ not-false f e) (sym eg ∙ not-true g h)

-- ---- an accepted sheet

module _ (b : Setting) (c : Counts) (P : List Float) (Q labels u : List ℕ) (T : Tested c P Q labels u) where
  abbrev np : ℕ
  np = c.points

  abbrev nq : ℕ
  nq = c.quads

  abbrev given : List ℕ
  given = part (masks_at np nq) np u

  pub tested-gathering : Gathering np nq Q labels given u
  tested-gathering = record {
    cornered = T.sheet.held.cornered;
    few = T.sheet.few;
    some = T.some;
    labelled = T.sheet.labelled;
    work = T.work;
    masks = part_of (masks_at np nq) np u T.masks.fits;
  }

  same-sheet : flat_sheet np nq P Q labels ≡ sheet_of c P Q labels
  same-sheet = rw T.same

  module _ {w : List ℕ} (W : Worked np nq Q labels given w) (m : Counts) (e : m ≡ counts_after np nq Q labels given) (p q l : ℕ) where
    gathered : Gathered np nq P Q labels given w
    gathered = record { sheet = T.sheet; some = T.some; work = W }

    -- more than the slices or the limit hold
    abbrev over : Bool
    over = is_large m || is_short m (room_with p q l)

    counts_same : counts_of (rows_sheet b (sheet_of c P Q labels)) ≡ m
    counts_same = rw (← same-sheet) (counts_of_lem gathered T.masks.is b ∙ sym e)

    pub tested-over : (A : List Float) (B D : List ℕ) → over ≡ true → Fills (rowed b (sheet_of c P Q labels) (room_with p q l)) (Err Short) A B D
    unfolding rowed
    tested-over A B D o = rw (counts_same, o) (refused-fills Short A B D)

    pub tested-done : (r : Answer) (A : List Float) (B D : List ℕ) → over ≡ false → Fills (rows_made b (flat_sheet np nq P Q labels)) r A B D → Fills (rowed b (sheet_of c P Q labels) (room_with p q l)) r A B D
    unfolding rowed
    tested-done r A B D o H = rw (counts_same, o) (rw same-sheet at H)

    pub tested-finished : length w ≡ length u → over ≡ false → Finished m np nq P Q labels w p q l
    tested-finished n o =
        let k : part (masks_at np nq) np w ≡ given = W.numbered.masks.is in
        record {
          gathered = rw k gathered;
          masks = k ∙ T.masks.is;
          good = T.good;
          counts = rw k e;
          room = holds_of m p q l (or_left (is_large m) (is_short m (room_with p q l)) o) (or_right (is_large m) (is_short m (room_with p q l)) o);
          work = omega (arith, T.work);
        }

-- ---- the tests before

module _ (b : Setting) (c : Counts) (P : List Float) (Q labels : List ℕ) (w : Work) where
  abbrev x : Lent
  x = lent_of c P Q labels

  pub rule-refused : (room : Room) (n : Refusal) (A : List Float) (B D : List ℕ) → admits b x w ≡ Err n → Fills (rows_rule b x w room) (Err n) A B D
  unfolding rows_rule
  rule-refused room n A B D e = rw e (refused-fills n A B D)

  pub rule-done : (room : Room) (r : Answer) (A : List Float) (B D : List ℕ) → admits b x w ≡ Accepted → Fills (rowed b (sheet_of c P Q labels) room) r A B D → Fills (rows_rule b x w room) r A B D
  unfolding rows_rule
  rule-done room r A B D e F = rw e F

  pub rule-tested : (r : Verdict) (v : List ℕ) → length v ≡ w.numbers → r ≡ admits b x w → r ≡ Accepted
      → MasksAt r (masks_at c.points c.quads) c.points (masks_of c.points (quads_of c.quads Q) (take c.labels labels)) v → Tested c P Q labels v
  rule-tested r v ew er e M =
      let A = admitted (setting_verdict b) x w (sym er ∙ e) in
      let L = A.sheet in
      let N = tested (sheet_of c P Q labels) A.accepted in
      let y = bare-is c P Q labels L.labels ∙ N.not_bare in
      let same = labels-match c P y in
      let g : good_corners c.points (quads_of c.quads Q) (take c.labels labels) ≡ true = rw (length-points c.points P) at N.corners in
      let h : c.quads ≤ length labels = omega (arith, same, L.labels) in
      let each : every (good_quad_at c.points Q labels) c.quads ≡ true = corners-tested c.points c.quads Q labels h ∙ rw same at g in
      record {
        same = same;
        sheet = record {
          held = record { cornered = cornered c.points c.quads Q (take c.labels labels) g L.few.quads≤ L.quads; points = L.points };
          few = L.few.points≤;
          labelled = h;
          low = λ i k. leb-true _ 7 (and_left _ _ (every-at (good_quad_at c.points Q labels) c.quads i each k));
        };
        some = some-quad c P y;
        good = proper-of c.points (quads_of c.quads Q) (take c.labels labels) g;
        masks = rw (e, same) at M;
        work = omega (arith, ew, A.work.work);
      }

-- The stages of `subdivide`, from its tests to the outcome of its rule. Assumes nothing.
use Prim.Native.Nat.{ℕ, ◌*◌, ◌≤◌, ◌<◌}
use mathlib.Core.Path.{◌≡◌, sym, ap, ◌∙◌}
use mathlib.Core.Bool.{Bool, true, false, ◌||◌}
use mathlib.Core.List.{List, ◌++◌}
use native.Mathlib.Omega.{arith}
use lib.ListN.{length, get_or, take, drop, length-append, length-map}
use lib.Seq.{length-take-le, take_at}
use lib.Ieee.{Float}
use Rattle.points.specs.Points.{point_at}
use Rattle.lists.specs.Sort.{tabulate}
use Rattle.lists.specs.Every.{every}
use Rattle.lists.specs.Regions.{Kept}
use Rattle.lists.proofs.Laws.{length-tab, get_or-tab, tab-ext}
use Rattle.lists.proofs.Every.{every-ext, count-le}
use Rattle.lists.proofs.Regions.{part-kept}
use Rattle.band.specs.declared.Band.{Band}
use Rattle.setting.specs.Settings.{setting_of}
use Rattle.rule_sheet.specs.declared.Counts.{Counts}
use Rattle.rule_sheet.specs.Quads.{has_label, mask_of}
use Rattle.rule_sheet.specs.Flat.{quads_of, flat_quads}
use Rattle.rule_sheet.specs.Tests.{good_corners}
use Rattle.rule_sheet.specs.Sheet.{Sheet, sheet_of, points_of, flat_points, counts_of, sheet_verdict}
use Rattle.rule_sheet.specs.Lent.{Room, Work, lent_of, room_with, is_large, is_short}
use Rattle.sheet.specs.Sheet.{masks_of, LentSheet}
use Rattle.sheet.proofs.Flat.{length-quads}
use Rattle.sheet.proofs.Masks.{pack-lt}
use Rattle.sheet.proofs.Tests.{or_left, or_right, holds_of, length-points, bare-is, labels-match, tested, some-quad, proper-of}
use Rattle.rule_sheet.specs.Outcomes.{Outcome, after_test}
use Rattle.rule_admission.specs.Admission.{admits}
use Rattle.sheet.specs.Results.{Front, Fills}
use Rattle.sheet.proofs.Results.{refused-fills}
use Rattle.admission.specs.Clauses.{MasksAt}
use Rattle.admission.proofs.Admitted.{admitted}
use Rattle.incidence.proofs.Corners.{cornered}
use Rattle.rule_finer.specs.Finer.{finer_sheet}
use Rattle.refine.specs.Requests.{firsts_of, own}
use Rattle.refine.specs.Loops.{points_after, Behind, Worked, Finished}
use Rattle.refine.proofs.Rule.{counts_after, tested-finished}
use Rattle.refine.proofs.Sheet.{count_is, finer-counts}
use Rattle.rule_finer.specs.Smoothed.{paired, smooth_places, smooth_sheet}
use Rattle.subdivide_points.specs.Steps.{masks_at, flat_sheet, Smoothable}
use Rattle.sheet.proofs.Fronts.{front-quads, points-front, quads-front}
use Rattle.rule_finer.specs.Subdivide.{landing, lands_at, projected_sheet, projected, subdivided, subdivide_rule}
use Rattle.projection.specs.Project.{onto_of}
use Rattle.subdivide.specs.Steps.{Masked, land_at, lands_of, landed_to, Tested}
use Rattle.std.specs.Prelude.{Ok, Err}
use Rattle.rule_sheet.specs.Verdicts.{Verdict, Answer, Accepted}
use Rattle.rule_sheet.specs.declared.Refusal.{Refusal}
use Rattle.rule_sheet.specs.declared.Refusal.TheVariants.{Astray, Edge, Short}

-- ---- the tests and the projection of the smoothed sheet

module _ (b : Band) (c : Counts) (P : List Float) (Q labels : List ℕ) (L : LentSheet c (length P) (length Q) (length labels)) where
  abbrev landed : Outcome Sheet
  landed = after_test (sheet_verdict (sheet_of c P Q labels)) (projected (setting_of b) (sheet_of c P Q labels))

  abbrev masks : List ℕ
  masks = masks_of c.points (quads_of c.quads Q) (take c.labels labels)

  pub land-refused : (k : Refusal) (A : List Float) (B D : List ℕ) → sheet_verdict (sheet_of c P Q labels) ≡ Err k → Fills landed (Err k) A B D
  land-refused k A B D e = rw e (refused-fills k A B D)

  module _ (y w : List ℕ) (em : y ≡ masks) where
    many : length y ≡ c.points
    unfolding masks_of
    many = ap length em ∙ length-tab (mask_of (quads_of c.quads Q) (take c.labels labels)) c.points

    abbrev front : List ℕ
    front = take c.points (y ++ drop c.points w)

    front-is : front ≡ masks
    front-is = take_at y (drop c.points w) c.points many ∙ em

    mask_at : (v : ℕ) → v < c.points → get_or front v 0 ≡ mask_of (quads_of c.quads Q) (take c.labels labels) v
    unfolding masks_of
    mask_at v h = rw front-is (get_or-tab (mask_of (quads_of c.quads Q) (take c.labels labels)) c.points v 0 h)

    pub land-masked : Masked c.points front
    unfolding mask_of
    land-masked = record {
      fits = omega (arith, ap length (take_at y (drop c.points w) c.points many), many);
      low = λ v h. rw (mask_at v h) (pack-lt (has_label (quads_of c.quads Q) (take c.labels labels) v));
    }

    land-same : (v : ℕ) → v < c.points → landing (setting_of b) (sheet_of c P Q labels) v ≡ land_at b P front v
    unfolding landing land_at points_of
    land-same v h = rw (mask_at v h, get_or-tab (point_at P) c.points v _ h)

    lands-same : every (lands_at (setting_of b) (sheet_of c P Q labels)) (length (points_of c.points P)) ≡ every (lands_of b P front) c.points
    lands-same = rw (length-points c.points P) (every-ext _ _ c.points (λ v h. rw (land-same v h)))

    module _ (r : Bool) (er : r ≡ every (lands_of b P front) c.points) (e : sheet_verdict (sheet_of c P Q labels) ≡ Accepted) where
      pub land-astray : (A : List Float) (B D : List ℕ) → r ≡ false → Fills landed (Err Astray) A B D
      unfolding projected
      land-astray A B D f = rw (e, lands-same, ← er, f) (refused-fills Astray A B D)

      pub land-done : (A : List Float) → r ≡ true → (r ≡ true → Front (flat_points (landed_to b P front c.points)) A) → Fills landed (Ok (record { count = 0; sheet = c })) A Q labels
      unfolding projected projected_sheet landed_to
      land-done A t F =
          let k : length (take c.labels labels) ≡ c.labels = length-take-le c.labels labels L.labels in
          let x : tabulate (λ v. onto_of (landing (setting_of b) (sheet_of c P Q labels) v)) c.points ≡ tabulate (λ v. onto_of (land_at b P front v)) c.points = tab-ext _ _ c.points (λ v h. rw (land-same v h)) in
          rw (e, lands-same, ← er, t, length-points c.points P) (record {
            answer = rw (length-tab (λ v. onto_of (landing (setting_of b) (sheet_of c P Q labels) v)) c.points, length-quads c.quads Q, k);
            points = rw x (F t);
            quads = front-quads c.quads Q L.quads;
            labelled = record { fits = omega (arith, k, L.labels); is = rw k };
          })

-- ---- the stages of an accepted sheet

-- the smoothed sheet has as many points, quads and labels as the finer one
module _ (b : Band) (c : Counts) (P : List Float) (Q labels v : List ℕ) (T : Tested c (length P) Q labels v) (n : ℕ) (en : n ≡ points_after c.points c.quads Q) (p q l : ℕ) where
  abbrev lent_sheet : Sheet
  lent_sheet = sheet_of c P Q labels

  counts-are : counts_of (finer_sheet lent_sheet) ≡ counts_after c n
  counts-are = finer-counts c P Q labels T.refinable.cornered T.refinable.same T.refinable.lent.labels n en

  -- the finer sheet is more than the slices or the limit hold
  abbrev over : Bool
  over = is_large (counts_after c n) || is_short (counts_after c n) (room_with p q l)

  pub tested-over : (A : List Float) (B D : List ℕ) → over ≡ true → Fills (subdivided (setting_of b) lent_sheet (room_with p q l)) (Err Short) A B D
  unfolding subdivided
  tested-over A B D o = rw (counts-are, o) (refused-fills Short A B D)

  module _ (o : over ≡ false) where
    pub tested-edge : (A : List Float) (B D : List ℕ) → paired c.points (quads_of c.quads Q) ≡ false → Fills (subdivided (setting_of b) lent_sheet (room_with p q l)) (Err Edge) A B D
    unfolding subdivided
    tested-edge A B D e = rw (counts-are, o, length-points c.points P, e) (refused-fills Edge A B D)

    module _ {w : List ℕ} (W : Worked c.points c.quads Q w) (K : Kept (Behind c.points c.quads) v w) where
      finished : Finished c.points c.quads P Q labels w p q l
      finished = tested-finished c P Q labels (length v) T.refinable n en p q l w W (or_right (is_large (counts_after c n)) (is_short (counts_after c n) (room_with p q l)) o)

      pub tested-smoothable : paired c.points (quads_of c.quads Q) ≡ true → Smoothable c.points c.quads P Q labels w p q l
      tested-smoothable e = record {
        finished = finished;
        few = T.refinable.lent.few.points≤;
        some = T.some;
        work = omega (arith, T.refinable.work, K.len);
        good = T.good;
        pairs = e;
        masks = part-kept T.masks K (λ i r z. r);
      }

      -- the result slices and the work slice have room for the smoothed sheet
      pub tested-room : (p' q' l' w' : ℕ) → p' ≡ p → q' ≡ q → l' ≡ l → w' ≡ length w → LentSheet (counts_after c n) p' q' l' × (n ≤ w')
      tested-room p' q' l' w' ep eq el ew = rw (ep, eq, el, ew) (
        holds_of (counts_after c n) p q l (or_left (is_large (counts_after c n)) (is_short (counts_after c n) (room_with p q l)) o) (or_right (is_large (counts_after c n)) (is_short (counts_after c n) (room_with p q l)) o),
        omega (arith, en, count-le (own (firsts_of c.points c.quads Q)) (5 * c.quads), T.refinable.work, K.len),
      )

    -- the sheet that the result slices hold
    same-sheet : {A : List Float} {B D : List ℕ}
        → Front (flat_points (smooth_sheet (flat_sheet c.points c.quads P Q labels)).points) A
        × (Front (flat_quads (smooth_sheet (flat_sheet c.points c.quads P Q labels)).quads) B × Front (smooth_sheet (flat_sheet c.points c.quads P Q labels)).labels D)
        → sheet_of (counts_after c n) A B D ≡ smooth_sheet lent_sheet
    unfolding smooth_sheet smooth_places
    same-sheet {A} {B} {D} F =
        let s = flat_sheet c.points c.quads P Q labels in
        let same : s ≡ lent_sheet = rw T.refinable.same in
        let k : counts_of (finer_sheet s) ≡ counts_after c n = rw same counts-are in
        let i : length (smooth_sheet s).points ≡ n = simp (length-append, length-tab, length-map, length-points) (sym (en ∙ count_is T.refinable.cornered)) in
        let x = points-front (smooth_sheet s).points A n F.0 i in
        let y = quads-front (smooth_sheet s).quads B (4 * c.quads) F.1.0 (ap (λ (z : Counts). z.quads) k) in
        let z : take (4 * c.quads) D ≡ (smooth_sheet s).labels = rw (ap (λ (z : Counts). z.labels) k) at F.1.1.is in
        rw (x, y, z, ← same)

    pub tested-done : {A A' : List Float} {B D : List ℕ} (r : Answer) → paired c.points (quads_of c.quads Q) ≡ true
        → Front (flat_points (smooth_sheet (flat_sheet c.points c.quads P Q labels)).points) A
        × (Front (flat_quads (smooth_sheet (flat_sheet c.points c.quads P Q labels)).quads) B × Front (smooth_sheet (flat_sheet c.points c.quads P Q labels)).labels D)
        → Fills (after_test (sheet_verdict (sheet_of (counts_after c n) A B D)) (projected (setting_of b) (sheet_of (counts_after c n) A B D))) r A' B D → Fills (subdivided (setting_of b) lent_sheet (room_with p q l)) r A' B D
    unfolding subdivided
    tested-done {A} {A'} {B} {D} r e F G = rw (counts-are, o, length-points c.points P, e) (rw (same-sheet F) at G)

-- ---- the tests before

module _ (b : Band) (c : Counts) (P : List Float) (Q labels : List ℕ) (k : Work) (v : Verdict) (e : v ≡ admits (setting_of b) (lent_of c P Q labels) k) where
  pub rule-refused : (room : Room) (n : Refusal) (A : List Float) (B D : List ℕ) → v ≡ Err n → Fills (subdivide_rule (setting_of b) (lent_of c P Q labels) k room) (Err n) A B D
  unfolding subdivide_rule
  rule-refused room n A B D h = rw (← e, h) (refused-fills n A B D)

  module _ (h : v ≡ Accepted) where
    pub rule-done : (room : Room) {r : Answer} {A : List Float} {B D : List ℕ} → Fills (subdivided (setting_of b) (sheet_of c P Q labels) room) r A B D
        → Fills (subdivide_rule (setting_of b) (lent_of c P Q labels) k room) r A B D
    unfolding subdivide_rule
    rule-done room F = rw (← e, h) F

    -- the masks stand in the work slice, which is as long as it was
    pub rule-tested : (w : List ℕ) → length w ≡ k.numbers
        → MasksAt v (masks_at c.points c.quads) c.points (masks_of c.points (quads_of c.quads Q) (take c.labels labels)) w → Tested c (length P) Q labels w
    rule-tested w ew m =
        let a = admitted _ (lent_of c P Q labels) k (sym e ∙ h) in
        let L = a.sheet in
        let F = tested (sheet_of c P Q labels) a.accepted in
        let x = bare-is c P Q labels L.labels ∙ F.not_bare in
        let same = labels-match c P x in
        let g : good_corners c.points (quads_of c.quads Q) (take c.labels labels) ≡ true = rw (length-points c.points P) at F.corners in
        record {
          refinable = record {
            lent = L;
            same = same;
            cornered = cornered c.points c.quads Q (take c.labels labels) g L.few.quads≤ L.quads;
            work = rw ew a.work.work;
          };
          some = some-quad c P x;
          good = proper-of c.points (quads_of c.quads Q) (take c.labels labels) g;
          masks = rw (h, same) at m;
        }

-- The stages of `refine`, from the work slice to the outcome of its rule. Assumes nothing.
use Prim.Native.Nat.{ℕ, zero, suc, ◌+◌, ◌-◌, ◌*◌, ◌/◌, ◌%◌, ◌≤◌, ◌<◌}
use mathlib.Core.Path.{◌≡◌, refl, sym, ap, ◌∙◌}
use mathlib.Core.Bool.{Bool, true, false, ◌&&◌}
use mathlib.Core.List.{List, ◌++◌}
use native.Mathlib.Omega.{arith}
use lib.ListN.{length, get_or, take}
use lib.Seq.{length-take-le}
use lib.Ieee.{Float}
use borrow.Author.Tests.{eq-eqb, ne_eqb, ltb-true, ltb-false}
use borrow.Rule.Slice.PartMut.{mid_of, put_mid}
use Rattle.points.specs.Points.{point_at}
use Rattle.lists.specs.Sort.{tabulate, itself}
use Rattle.lists.specs.Every.{every, count_to}
use Rattle.lists.specs.Regions.{part, Part, Out, Out3, Kept}
use Rattle.lists.proofs.Laws.{get_or-tab, tab-ext}
use Rattle.lists.proofs.Every.{every-at, every-each, bool_iff, and_left, and_right, count-zero, count_yes, count-mono}
use Rattle.lists.proofs.Regions.{part-as, part-kept, kept_then, lent-tab}
use Rattle.rule_sheet.specs.declared.Counts.{Counts}
use Rattle.rule_sheet.specs.Quads.{all}
use Rattle.rule_sheet.specs.Flat.{quad_at, quads_of, flat_quads}
use Rattle.rule_sheet.specs.Tests.{in_range}
use Rattle.rule_sheet.specs.Sheet.{Sheet, sheet_of, points_of, flat_points}
use Rattle.rule_sheet.specs.Lent.{lent_of, limit, room_with, room_of, work_with, is_large, is_short, lent_verdict}
use Rattle.sheet.specs.Sheet.{LentSheet}
use Rattle.sheet.proofs.Flat.{length-quads}
use Rattle.sheet.proofs.Tests.{or_left, or_right, all-tab, lent_is, length-points}
use Rattle.rule_sheet.specs.Outcomes.{Outcome, gives}
use Rattle.rule_sheet.specs.Sheet.{counts_of}
use Rattle.sheet.specs.Results.{Front, Fills}
use Rattle.sheet.proofs.Results.{refused-fills}
use Rattle.incidence.specs.Corners.{Cornered, edge_order}
use Rattle.rule_finer.specs.Finer.{finer_sheet, made_or_short, refined, refine_rule}
use Rattle.refine.specs.Requests.{position_at, firsts_of, own, number_of, child_at, label_at}
use Rattle.refine.specs.Loops.{low_at, Linking, Numbering, Numbered, Writing, made_to, order_at, firsts_at, numbers_at, points_after, Behind, Worked, Finished, Refinable}
use Rattle.lists.specs.Steps.{nth}
use Rattle.refine.proofs.Edges.{linked-start}
use Rattle.refine.proofs.Sheet.{firsts-known, finer-points, finer-quads, finer-labels, finer-counts}
use Rattle.std.specs.Prelude.{Ok, Err}
use Rattle.rule_sheet.specs.Verdicts.{Answer, Accepted}
use Rattle.rule_sheet.specs.declared.Refusal.{Refusal}
use Rattle.rule_sheet.specs.declared.Refusal.TheVariants.{Bare, Corner, Short}

-- ---- the work slice

-- the corners are in order and the requests numbered
pub record Started (np nq : ℕ) (Q v w : List ℕ) : Type 0 where
  pub linking : Linking np nq Q (order_at np nq) (firsts_at np nq) 0 w
  pub len : length w ≡ length v
  pub kept : Kept (Behind np nq) v w

pub started : {np nq : ℕ} {Q u v : List ℕ} (y : List ℕ) → Cornered np nq Q → 64 * (np + nq) ≤ length v
    → Part (order_at np nq) (4 * nq) (edge_order np nq Q) u × Kept (Out3 (np + nq) (4 * nq) 0 np (order_at np nq) (4 * nq)) v u
    → y ≡ tabulate itself (length (mid_of (firsts_at np nq) (firsts_at np nq + 5 * nq - firsts_at np nq) u)) → Started np nq Q v (put_mid (firsts_at np nq) (firsts_at np nq + 5 * nq - firsts_at np nq) u y)
started {np} {nq} {Q} {u} {v} y C h E e =
    let len = E.1.len in
    let L = lent-tab itself (firsts_at np nq) (5 * nq) u y (omega arith) e in
    record {
      linking = record {
        cornered = C;
        at = part-kept E.0 L.kept (λ i p q r s. omega arith);
        linked = part-as L.part (linked-start C);
        apart = λ i p q r s. omega arith;
      };
      len = L.kept.len ∙ E.1.len;
      kept = kept_then E.1 L.kept (λ i b. ((λ r s. omega arith, (λ r s. omega arith, λ r s. omega arith)), λ r s. omega arith));
    }

pub numbering_start : {np nq : ℕ} {Q v u w : List ℕ} {K : ℕ → Type 0} → Cornered np nq Q → np ≤ limit → 64 * (np + nq) ≤ length v → Started np nq Q v u → Part (firsts_at np nq) (5 * nq) (firsts_of np nq Q) w × Kept K u w
    → Numbering np (5 * nq) (firsts_at np nq) (numbers_at np nq) (part (firsts_at np nq) (5 * nq) w) 0 np w
unfolding tabulate
numbering_start {np} {nq} {Q} {v} {u} {w} C h room S E =
    let len = E.1.len ∙ S.len in
    rw E.0.is (record {
      few = omega (arith, C.few);
      firsts = firsts-known C;
      in_first = E.0.fits;
      in_num = omega arith;
      apart = λ i p q r s. omega arith;
      done = record { fits = omega arith; is = refl };
      next_is = rw (count-zero (own (firsts_of np nq Q))) (omega arith);
    })

pub worked : {np nq : ℕ} {Q v t u w : List ℕ} (r : ℕ) → Started np nq Q v t → Part (firsts_at np nq) (5 * nq) (firsts_of np nq Q) u × Kept (Out (firsts_at np nq) (5 * nq)) t u
    → (r ≡ np + count_to (own (part (firsts_at np nq) (5 * nq) u)) (5 * nq))
    × (Part (numbers_at np nq) (5 * nq) (tabulate (number_of np (part (firsts_at np nq) (5 * nq) u)) (5 * nq)) w × Kept (Out (numbers_at np nq) (5 * nq)) u w)
    → (r ≡ points_after np nq Q) × (Worked np nq Q w × Kept (Behind np nq) v w)
worked {np} {nq} {Q} {v} {t} {u} {w} r S E N =
    let e = E.0.is in (
      rw e at N.0,
      (
        record {
          order = part-kept (part-kept S.linking.at E.1 (λ i p q a b. omega arith)) N.1.1 (λ i p q a b. omega arith);
          firsts = part-kept E.0 N.1.1 (λ i p q a b. omega arith);
          numbers = rw e at N.1.0;
        },
        kept_then (kept_then S.kept E.1 (λ i b. (b, λ r s. omega arith))) N.1.1 (λ i b. (b, λ r s. omega arith)),
      ),
    )

-- ---- the result slices

module _ {np nq : ℕ} {P : List Float} {Q labels w : List ℕ} {p q l : ℕ} (F : Finished np nq P Q labels w p q l) where
  -- every number has room
  number-room : (t : ℕ) → t < 5 * nq → number_of np (firsts_of np nq Q) t * 3 + 3 ≤ p
  unfolding number_of
  number-room t h =
      let G = firsts-known F.held.cornered in
      let f = get_or (firsts_of np nq Q) t 0 in
      let b : f < 5 * nq = omega (arith, G.le t h) in
      let a : own (firsts_of np nq Q) f ≡ true = eq-eqb (get_or (firsts_of np nq Q) f 0) f (G.self t h) in
      omega (arith, F.in_points, count_yes (own (firsts_of np nq Q)) f a, count-mono (own (firsts_of np nq Q)) (f + 1) (5 * nq) (omega arith))

  pub writing-of : (room : ℕ) → room ≡ p → Writing np nq P Q (firsts_at np nq) (numbers_at np nq) (part (firsts_at np nq) (5 * nq) w) (part (numbers_at np nq) (5 * nq) w) w room
  writing-of room e = rw (F.worked.firsts.is, F.worked.numbers.is, e) (record {
    held = F.held;
    firsts = F.worked.firsts;
    numbers = F.worked.numbers;
    rooms = λ t h. rw (get_or-tab (number_of np (firsts_of np nq Q)) (5 * nq) t 0 h) (number-room t h);
  })

  pub numbered_of : Numbered np (5 * nq) (part (firsts_at np nq) (5 * nq) w) (part (numbers_at np nq) (5 * nq) w)
  numbered_of = rw (F.worked.firsts.is, F.worked.numbers.is) (record { firsts = firsts-known F.held.cornered; is = refl })

  pub points-put : {s : List Float} → Front (flat_points (points_of np P ++ made_to (part (firsts_at np nq) (5 * nq) w) (position_at (point_at P) Q) (5 * nq))) s
      → Front (flat_points (points_of np P ++ made_to (firsts_of np nq Q) (position_at (point_at P) Q) (5 * nq))) s
  points-put h = rw F.worked.firsts.is at h

  -- the child quads read their numbers from the list
  pub quads-put : {s : List ℕ} → Front (flat_quads (tabulate (child_at (nth (part (numbers_at np nq) (5 * nq) w)) Q) (4 * nq))) s
      → Front (flat_quads (tabulate (child_at (number_of np (firsts_of np nq Q)) Q) (4 * nq))) s
  quads-put {s} h =
      let e : tabulate (child_at (nth (part (numbers_at np nq) (5 * nq) w)) Q) (4 * nq) ≡ tabulate (child_at (number_of np (firsts_of np nq Q)) Q) (4 * nq) = rw F.worked.numbers.is (tab-ext _ _ (4 * nq) (λ c b.
      rw (at (5 * (c / 4) + c % 4) (omega arith), at (5 * (c / 4) + 4) (omega arith), at (5 * (c / 4) + (c % 4 + 3) % 4) (omega arith)))) in
      rw e at h
    where
      at : (t : ℕ) → t < 5 * nq → nth (tabulate (number_of np (firsts_of np nq Q)) (5 * nq)) t ≡ number_of np (firsts_of np nq Q) t
      at t h = get_or-tab (number_of np (firsts_of np nq Q)) (5 * nq) t 0 h

-- ---- the result's 13

-- the counts of the finer sheet, by the number of its points
abbrev pub counts_after : Counts → ℕ → Counts
counts_after c n = record { points = n; quads = 4 * c.quads; labels = 4 * c.quads }

room_of_lem : (k : Counts) (p q l : ℕ) → is_short k (room_with p q l) ≡ false → (3 * k.points ≤ p) × ((4 * k.quads ≤ q) × (k.labels ≤ l))
unfolding is_short
room_of_lem k p q l e = (ltb-false _ _ (search (or_left, or_right)), (ltb-false _ _ (search (or_left, or_right)), ltb-false _ _ (search (or_left, or_right))))

module _ (c : Counts) (P : List Float) (Q labels : List ℕ) (w : ℕ) (R : Refinable c (length P) Q (length labels) w) (n : ℕ) (en : n ≡ points_after c.points c.quads Q) (p q l : ℕ) where
  counts-are : counts_of (finer_sheet (sheet_of c P Q labels)) ≡ counts_after c n
  counts-are = finer-counts c P Q labels R.cornered R.same R.lent.labels n en

  pub tested-large : (A : List Float) (B D : List ℕ) → is_large (counts_after c n) ≡ true → Fills (made_or_short (finer_sheet (sheet_of c P Q labels)) (room_with p q l)) (Err Short) A B D
  tested-large A B D h = rw (counts-are, h) (refused-fills Short A B D)

  pub tested-short : (A : List Float) (B D : List ℕ) → is_large (counts_after c n) ≡ false → is_short (counts_after c n) (room_with p q l) ≡ true
      → Fills (made_or_short (finer_sheet (sheet_of c P Q labels)) (room_with p q l)) (Err Short) A B D
  tested-short A B D h s = rw (counts-are, h, s) (refused-fills Short A B D)

  pub tested-finished : (v : List ℕ) → Worked c.points c.quads Q v → is_short (counts_after c n) (room_with p q l) ≡ false → Finished c.points c.quads P Q labels v p q l
  tested-finished v W s =
      let r = room_of_lem (counts_after c n) p q l s in
      record {
        held = record { cornered = R.cornered; points = R.lent.points };
        worked = W;
        labelled = omega (arith, R.same, R.lent.labels);
        in_points = rw (← en) r.0;
        in_quads = omega (arith, r.1.0);
        in_labels = r.1.1;
      }

  pub tested-done : (A : List Float) (B D : List ℕ) → is_large (counts_after c n) ≡ false → is_short (counts_after c n) (room_with p q l) ≡ false
      → Front (flat_points (points_of c.points P ++ made_to (firsts_of c.points c.quads Q) (position_at (point_at P) Q) (5 * c.quads))) A
      × (Front (flat_quads (tabulate (child_at (number_of c.points (firsts_of c.points c.quads Q)) Q) (4 * c.quads))) B × Front (tabulate (label_at labels) (4 * c.quads)) D)
      → Fills (made_or_short (finer_sheet (sheet_of c P Q labels)) (room_with p q l)) (Ok (record { count = 0; sheet = counts_after c n })) A B D
  tested-done A B D h s E =
      let x = finer-points c P Q labels R.cornered R.same R.lent.labels in
      let y = finer-quads c P Q labels R.cornered R.same R.lent.labels in
      let z = finer-labels c P Q labels R.cornered R.same R.lent.labels in
      let o : made_or_short (finer_sheet (sheet_of c P Q labels)) (room_with p q l) ≡ gives (finer_sheet (sheet_of c P Q labels)) = rw (counts-are, h, s) in
      rw o (record { answer = ap (λ (k : Counts). Ok (record { count = 0; sheet = k })) (sym counts-are); points = rw x E.0; quads = rw y E.1.0; labelled = rw z E.1.1 })

-- ---- the tests before

-- every corner is in range, one at a time and by quads
range-is : (n nq : ℕ) (Q : List ℕ) → every (low_at n Q) (4 * nq) ≡ all (in_range n) (quads_of nq Q)
unfolding quads_of in_range
range-is n nq Q = bool_iff _ _
    (λ e. rw all-tab (every-each (λ q. in_range n (quad_at Q q)) nq (λ q h.
    four _ _ _ _ (every-at (low_at n Q) (4 * nq) (4 * q + 0) e (omega arith)) (every-at (low_at n Q) (4 * nq) (4 * q + 1) e (omega arith)) (every-at (low_at n Q) (4 * nq) (4 * q + 2) e (omega arith)) (every-at (low_at n Q) (4 * nq) (4 * q + 3) e (omega arith)))))
    (λ e.
    let a : every (λ q. in_range n (quad_at Q q)) nq ≡ true = sym (all-tab (in_range n) (quad_at Q) nq) ∙ e in
    every-each (low_at n Q) (4 * nq) (λ c h.
    let s : 4 * (c / 4) + c % 4 ≡ c = omega arith in
    rw s at (one (c / 4) (c % 4) (omega arith) (every-at (λ q. in_range n (quad_at Q q)) nq (c / 4) a (omega arith)))))
  where
    four : (a b c d : Bool) → a ≡ true → b ≡ true → c ≡ true → d ≡ true → (a && b && c && d) ≡ true
    four a b c d p q r s = rw (p, q, r, s)

    one : (q j : ℕ) → j < 4 → in_range n (quad_at Q q) ≡ true → low_at n Q (4 * q + j) ≡ true
    one q zero h e = search (and_left, and_right)
    one q (suc zero) h e = search (and_left, and_right)
    one q (suc (suc zero)) h e = search (and_left, and_right)
    one q (suc (suc (suc zero))) h e = search (and_left, and_right)
    one q (suc (suc (suc (suc j)))) h e = absurd (omega arith)

module _ (c : Counts) (P : List Float) (Q labels : List ℕ) (w f p q l : ℕ) where
  abbrev Rule : Outcome Sheet
  Rule = refine_rule (lent_of c P Q labels) (work_with w f) (room_with p q l)

  pub rule-lent : (n : Refusal) (A : List Float) (B D : List ℕ) → lent_verdict c (room_of P Q labels) (work_with w f) ≡ Err n → Fills Rule (Err n) A B D
  unfolding refine_rule
  rule-lent n A B D e = rw e (refused-fills n A B D)

  module _ (e : lent_verdict c (room_of P Q labels) (work_with w f) ≡ Accepted) where
    lent-sheet : LentSheet c (length P) (length Q) (length labels)
    lent-sheet = (lent_is c (length P) (length Q) (length labels) w f e).0

    pub rule-few : (c.quads ≤ limit) × (4 * c.quads ≤ length Q)
    rule-few = (lent-sheet.few.quads≤, lent-sheet.quads)

    length-labels : length (take c.labels labels) ≡ c.labels
    length-labels = length-take-le c.labels labels lent-sheet.labels

    pub rule-bare : (A : List Float) (B D : List ℕ) → (c.labels ≡ c.quads → ⊥) → Fills Rule (Err Bare) A B D
    unfolding refine_rule refined
    rule-bare A B D ne = rw (e, length-labels, length-quads c.quads Q, ne_eqb c.labels c.quads ne) (refused-fills Bare A B D)

    pub rule-corner : (A : List Float) (B D : List ℕ) → c.labels ≡ c.quads → every (low_at c.points Q) (4 * c.quads) ≡ false → Fills Rule (Err Corner) A B D
    unfolding refine_rule refined
    rule-corner A B D s r = rw (e, length-labels, length-quads c.quads Q, eq-eqb c.labels c.quads s, length-points c.points P, ← range-is c.points c.quads Q, r) (refused-fills Corner A B D)

    pub rule-refinable : c.labels ≡ c.quads → every (low_at c.points Q) (4 * c.quads) ≡ true → Refinable c (length P) Q (length labels) w
    rule-refinable s r = record {
      lent = lent-sheet;
      same = s;
      cornered = record { few = lent-sheet.few.quads≤; quads = lent-sheet.quads; points = λ k h. ltb-true _ _ (every-at (low_at c.points Q) (4 * c.quads) k r h) };
      work = (lent_is c (length P) (length Q) (length labels) w f e).1.work;
    }

    pub rule-tested : (a : Answer) (A : List Float) (B D : List ℕ) → c.labels ≡ c.quads → every (low_at c.points Q) (4 * c.quads) ≡ true
        → Fills (made_or_short (finer_sheet (sheet_of c P Q labels)) (room_with p q l)) a A B D → Fills Rule a A B D
    unfolding refine_rule refined
    rule-tested a A B D s r F = rw (e, length-labels, length-quads c.quads Q, eq-eqb c.labels c.quads s, length-points c.points P, ← range-is c.points c.quads Q, r) F

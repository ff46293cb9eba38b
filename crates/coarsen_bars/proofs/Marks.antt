-- The loops that mark points and rename corners. Assumes nothing.
use mathlib.Core.Path.{◌≡◌, refl, sym, ap, ◌∙◌}
use mathlib.Core.Bool.{Bool, true, false, cond, ◌&&◌, or-true, or-false}
use Prim.Native.Nat.{ℕ, ◌+◌, ◌*◌, ◌/◌, ◌≤◌, ◌<◌, ◌-◌}
use mathlib.Core.List.{List}
use native.Mathlib.Omega.{arith}
use native.Mathlib.Numerals.{add-one}
use lib.ListN.{length, get_or, set, length-set}
use borrow.Author.Tests.{eq-eqb, ne_eqb, eqb-true}
use Rattle.lists.specs.Every.{some}
use Rattle.lists.specs.Sort.{tabulate}
use Rattle.lists.specs.Regions.{part, Part, Out, Kept}
use Rattle.lists.proofs.Every.{bool_iff, some-zero, some_at, some-find, and_left, and_right}
use Rattle.lists.proofs.Laws.{get_or-tab, is-tab, tab-ext, tab-set}
use Rattle.lists.proofs.Order.{each-bucket, below-tab}
use Rattle.lists.proofs.Regions.{part_of, part-len, part-get, part-set, part-set-out, part-as, kept_refl, kept_set}
use Rattle.rule_sheet.specs.Flat.{corner, quad_at}
use Rattle.sheet.specs.Flat.{from}
use Rattle.sheet.specs.Edges.{all_corners, point_corners}
use Rattle.incidence.specs.Marks.{hits}
use Rattle.incidence.proofs.Marks.{hits-uses}
use Rattle.rule_coarsen.specs.Coarse.{has_corner}
use Rattle.coarsen_bars.specs.Steps.{is_at, marked_by, marked_in, reaches, marked_to, marked_near, renamed_at, renamed_quads}
use Rattle.coarsen_bars.specs.Conditions.{MarkPointsAsks, RenameAsks}
use Rattle.coarsen_merge.proofs.Corners.{has_one}
use borrow.Rule.Slice.PartMut.{mid_of}
use Rattle.coarsen_merge.specs.declared.Span.{Span}
use Rattle.coarsen_merge.specs.Conditions.{StartHolds, CornersOfLeaves}
use Rattle.pass_map.specs.Regions.{was_in}
use Rattle.coarsen_merge.proofs.Start.{corners-listed}

-- ---- one element more

some_same : (p : ℕ → Bool) (m : ℕ) → p m ≡ true → some p (m + 1) ≡ true
unfolding some
some_same p m e = rw (add-one m, e) (or-true (some p m))

some-other : (p : ℕ → Bool) (m : ℕ) → p m ≡ false → some p (m + 1) ≡ some p m
unfolding some
some-other p m e = rw (add-one m, e) (or-false (some p m))

-- ---- the marks of listed points: v is the slice as it came, U its marks

-- one point more
pub more-points : (xs U : List ℕ) (np j c : ℕ) → c < np → c ≡ get_or xs j 0 → set (tabulate (marked_by xs U j) np) c 1 ≡ tabulate (marked_by xs U (j + 1)) np
more-points xs U np j c h e = tab-set (marked_by xs U j) (marked_by xs U (j + 1)) np c 1 h
    (rw (some_same (is_at xs c) j (eq-eqb (get_or xs j 0) c (sym e))))
    (λ q _ ne. rw (some-other (is_at xs q) j (ne_eqb (get_or xs j 0) q (λ z. ne (sym z ∙ sym e)))))

pub record Pointing (xs U : List ℕ) (from m to np : ℕ) (v w : List ℕ) (j : ℕ) : Type 0 where
  pub reads : MarkPointsAsks from m to np xs w
  pub marks : Part to np (tabulate (marked_by xs U j) np) w
  pub kept : Kept (Out to np) v w

pub pointing-start : {xs v : List ℕ} {from m to np : ℕ} → MarkPointsAsks from m to np xs v → Pointing xs (part to np v) from m to np v v 0
pointing-start {xs} {v} {from} {m} {to} {np} M =
    let P : Part to np (part to np v) v = part_of to np v M.in_to in
    record {
      reads = M;
      marks = part-as P (is-tab (part to np v) (marked_by xs (part to np v) 0) np (part-len P) (λ q h. rw (some-zero (is_at xs q))));
      kept = kept_refl (Out to np) v;
    }

pub record PointTurn (xs U : List ℕ) (from m to np : ℕ) (v w : List ℕ) (j c : ℕ) : Type 0 where
  pub c< : c < np
  pub at< : to + c < length w
  pub again : Pointing xs U from m to np v (set w (to + c) 1) (j + 1)

pub point-turn : {xs U : List ℕ} {from m to np : ℕ} {v w : List ℕ} {j : ℕ} (c : ℕ) → Pointing xs U from m to np v w j → j < m → c ≡ get_or w (from + j) 0
    → PointTurn xs U from m to np v w j c
point-turn {xs} {U} {from} {m} {to} {np} {v} {w} {j} c B h e =
    let M = B.reads in
    let cx : c ≡ get_or xs j 0 = e ∙ part-get 0 j M.at h in
    let c< : c < np = omega (arith, M.known j h) in
    let P' = part-set c 1 B.marks c< in
    record {
      c< = c<;
      at< = omega (arith, M.in_to);
      again = record {
        reads = record {
          at = part-set-out (to + c) 1 M.at (λ p q. M.apart (to + c) p q (omega arith) (omega arith));
          known = M.known;
          in_to = P'.fits;
          apart = M.apart;
        };
        marks = part-as P' (more-points xs U np j c c< cx);
        kept = kept_set (to + c) 1 B.kept (λ o. o (omega arith) (omega arith));
      };
    }

pub pointing-end : {xs U : List ℕ} {from m to np : ℕ} {v w : List ℕ} {j : ℕ} → Pointing xs U from m to np v w j → j ≡ m
    → Part to np (tabulate (marked_by xs U m) np) w × Kept (Out to np) v w
pointing-end {xs} {U} {from} {m} {to} {np} {v} {w} {j} B h = (rw h at B.marks, B.kept)

-- ---- the corners of a quad, as a list of four

four-has : (Q xs : List ℕ) (q v : ℕ) → ((j : ℕ) → j < 4 → get_or xs j 0 ≡ corner Q q j) → some (is_at xs v) 4 ≡ has_corner (quad_at Q q) v
unfolding some
four-has Q xs q v h = rw (h 0 (omega arith), h 1 (omega arith), h 2 (omega arith), h 3 (omega arith)) (has_one Q q v)

pub quad-marks : {at np : ℕ} {w : List ℕ} (Q U xs : List ℕ) (q : ℕ) → ((j : ℕ) → j < 4 → get_or xs j 0 ≡ corner Q q j)
    → Part at np (tabulate (marked_by xs U 4) np) w → Part at np (tabulate (marked_in Q U q) np) w
quad-marks {at} {np} {w} Q U xs q h P = part-as P (tab-ext (marked_by xs U 4) (marked_in Q U q) np (λ v _. rw (four-has Q xs q v h)))

-- ---- the quads around a point

pub around-some : (p : ℕ → Bool) (Q : List ℕ) (nq v : ℕ)
    → some (λ t. p (get_or (point_corners Q nq v) t 0 / 4)) (length (point_corners Q nq v)) ≡ some (λ q. has_corner (quad_at Q q) v && p q) nq
around-some p Q nq v = bool_iff _ _ there back
  where
    B : List ℕ
    B = point_corners Q nq v

    there : some (λ t. p (get_or B t 0 / 4)) (length B) ≡ true → some (λ q. has_corner (quad_at Q q) v && p q) nq ≡ true
    there e =
        let H = some-find (λ t. p (get_or B t 0 / 4)) (length B) e in
        let l : get_or B H.i 0 < 4 * nq = each-bucket 0 (λ x. x < 4 * nq) (from Q) v (all_corners nq) (below-tab (4 * nq)).each H.i H.i< in
        let q< : get_or B H.i 0 / 4 < nq = omega arith in
        let s : has_corner (quad_at Q (get_or B H.i 0 / 4)) v ≡ true = sym (hits-uses Q nq v (get_or B H.i 0 / 4) q<) ∙ some_at (hits B (get_or B H.i 0 / 4)) (length B) H.i H.i< (eq-eqb (get_or B H.i 0 / 4) (get_or B H.i 0 / 4) refl) in
        some_at (λ q. has_corner (quad_at Q q) v && p q) nq (get_or B H.i 0 / 4) q< (rw (s, H.yes) refl)

    back : some (λ q. has_corner (quad_at Q q) v && p q) nq ≡ true → some (λ t. p (get_or B t 0 / 4)) (length B) ≡ true
    back e =
        let H = some-find (λ q. has_corner (quad_at Q q) v && p q) nq e in
        let G = some-find (hits B H.i) (length B) (hits-uses Q nq v H.i H.i< ∙ and_left _ _ H.yes) in
        let r : get_or B G.i 0 / 4 ≡ H.i = eqb-true (get_or B G.i 0 / 4) H.i G.yes in
        some_at (λ t. p (get_or B t 0 / 4)) (length B) G.i G.i< (ap p r ∙ and_right (has_corner (quad_at Q H.i) v) _ H.yes)

pub near-marks : {at np : ℕ} {w : List ℕ} (Q U : List ℕ) (nq x : ℕ) → Part at np (tabulate (marked_to (point_corners Q nq x) Q U (length (point_corners Q nq x))) np) w
    → Part at np (tabulate (marked_near Q U nq x) np) w
near-marks {at} {np} {w} Q U nq x P = part-as P (tab-ext (marked_to (point_corners Q nq x) Q U (length (point_corners Q nq x))) (marked_near Q U nq x) np
    (λ v _. ap (λ b. cond b 1 (get_or U v 0)) (around-some (λ q. has_corner (quad_at Q q) v) Q nq x)))

-- ---- one quad more: what the marks of the quads so far become
pub more-marks : {at np : ℕ} {w : List ℕ} (cs Q U X : List ℕ) (t c : ℕ) → c ≡ get_or cs t 0 → X ≡ tabulate (marked_to cs Q U t) np
    → Part at np (tabulate (marked_in Q X (c / 4)) np) w → Part at np (tabulate (marked_to cs Q U (t + 1)) np) w
more-marks {at} {np} {w} cs Q U X t c e x P = part-as P (tab-ext (marked_in Q X (c / 4)) (marked_to cs Q U (t + 1)) np (λ v h. go v h (reaches cs Q v t) refl))
  where
    at-v : (v : ℕ) → v < np → get_or X v 0 ≡ marked_to cs Q U t v
    at-v v h = rw x (get_or-tab (marked_to cs Q U t) np v 0 h)

    go : (v : ℕ) → v < np → (b : Bool) → reaches cs Q v t ≡ b → marked_in Q X (c / 4) v ≡ marked_to cs Q U (t + 1) v
    go v h true k = rw (e, k, some_same (reaches cs Q v) t k) refl
    go v h false k = rw (e, k, some-other (reaches cs Q v) t k) (at-v v h)

-- ---- the renaming loop: Q is the slice as it came

pub record Naming (cs Q : List ℕ) (a : ℕ) (R : List ℕ) (t : ℕ) : Type 0 where
  pub known : RenameAsks cs (length Q)
  pub len : length R ≡ length Q
  pub is : R ≡ tabulate (renamed_at cs Q a t) (length Q)

pub naming-start : (cs Q : List ℕ) (a : ℕ) → RenameAsks cs (length Q) → Naming cs Q a Q 0
naming-start cs Q a h = record { known = h; len = refl; is = is-tab Q (renamed_at cs Q a 0) (length Q) refl (λ i l. rw (some-zero (is_at cs i))) }

pub record NameTurn (cs Q : List ℕ) (a : ℕ) (R : List ℕ) (t c : ℕ) : Type 0 where
  pub at< : c < length R
  pub again : Naming cs Q a (set R c a) (t + 1)

pub name-turn : {cs Q R : List ℕ} {a t : ℕ} (c : ℕ) → Naming cs Q a R t → t < length cs → c ≡ get_or cs t 0 → NameTurn cs Q a R t c
name-turn {cs} {Q} {R} {a} {t} c N h e =
    let k = N.known.known t h in
    let l = N.len in
    let c< : c < length Q = omega arith in
    record {
      at< = omega arith;
      again = record {
        known = N.known;
        len = length-set R c a ∙ N.len;
        is = ap (λ (r : List ℕ). set r c a) N.is ∙ tab-set (renamed_at cs Q a t) (renamed_at cs Q a (t + 1)) (length Q) c a c<
            (rw (some_same (is_at cs c) t (eq-eqb (get_or cs t 0) c (sym e))))
            (λ i _ ne. rw (some-other (is_at cs i) t (ne_eqb (get_or cs t 0) i (λ z. ne (sym z ∙ sym e)))));
      };
    }

pub naming-end : {cs Q R : List ℕ} {a t : ℕ} → Naming cs Q a R t → t ≡ length cs → R ≡ tabulate (renamed_at cs Q a (length cs)) (length Q)
naming-end {cs} {Q} {R} {a} {t} N h = rw h at N.is

-- ---- the corners of a point in a slice of quads
pub nameable-lent : {np nq x : ℕ} {s : Span} {w : List ℕ} (n : ℕ) → StartHolds np nq w → CornersOfLeaves np nq x s w → 4 * nq ≤ n → RenameAsks (mid_of s.from (s.to - s.from) w) n
nameable-lent {np} {nq} {x} {s} {w} n G S h = rw S.list (record { known = λ i l. let k = (corners-listed x G).known i l in omega arith })

pub renamed-lent : {np nq x : ℕ} {s : Span} {w : List ℕ} (a : ℕ) (Q R : List ℕ) → CornersOfLeaves np nq x s w
    → R ≡ tabulate (renamed_at (mid_of s.from (s.to - s.from) w) Q a (length (mid_of s.from (s.to - s.from) w))) (length Q) → R ≡ renamed_quads (was_in np nq w) nq x a Q
unfolding renamed_quads
renamed-lent {np} {nq} {x} {s} {w} a Q R S h = rw S.list at h

-- The laws of marks: the loop over the corners of a point marks the quads that use it. Assumes nothing.
use Prim.Native.Nat.{ℕ, zero, suc, ◌+◌, ◌-◌, ◌*◌, ◌/◌, ◌%◌, ◌≤◌, ◌<◌, zero-le}
use mathlib.Core.Bool.{Bool, true, false, cond, or-true, or-false}
use mathlib.Core.Path.{◌≡◌, refl, sym, ap, ◌∙◌}
use mathlib.Core.List.{List}
use native.Mathlib.Omega.{arith}
use native.Mathlib.Numerals.{add-one}
use lib.ListN.{length, get_or, set}
use lib.Dec.{eqb, ltb}
use borrow.Author.Tests.{eq-eqb, ne_eqb, eqb-true, lt-ltb, ltb-true}
use Rattle.lists.specs.Sort.{tabulate, bucket, sort_by, itself}
use Rattle.lists.specs.Steps.{start}
use Rattle.lists.specs.Every.{some}
use Rattle.lists.specs.Regions.{part, Part, Out, Kept}
use Rattle.lists.proofs.Laws.{length-tab, get_or-tab, is-tab, tab-ext, tab-set, start-suc, start-mono}
use Rattle.lists.proofs.Every.{bool_iff, some-zero, some_at, some-find}
use Rattle.lists.proofs.Order.{bucket-key, each-bucket, part-bucket, in-bucket, below-tab}
use Rattle.lists.proofs.Regions.{part_of, part-len, part-get, part-set, part-set-out, part-as, part-sub, kept_refl, kept_set}
use Rattle.rule_sheet.specs.Quads.{uses, valence}
use Rattle.sheet.specs.Flat.{from}
use Rattle.rule_sheet.specs.Flat.{corner, quad_at, quads_of}
use Rattle.sheet.specs.Edges.{all_corners, point_corners}
use Rattle.sheet.proofs.Flat.{valence-flat}
use Rattle.incidence.specs.Corners.{corners_at, first_at}
use Rattle.incidence.specs.Marks.{hits, mark_at, barred_by, Marking, Incident}

-- ---- the loop: v is the slice as it came, bs its marks

pub record Barring (cs bs : List ℕ) (from m barred nq : ℕ) (v w : List ℕ) (j : ℕ) : Type 0 where
  pub j≤ : j ≤ m
  pub reads : Marking from m barred nq cs w
  pub marks : Part barred nq (tabulate (mark_at cs bs j) nq) w
  pub kept : Kept (Out barred nq) v w

pub barring-start : {cs v : List ℕ} {from m barred nq : ℕ} → Marking from m barred nq cs v → Barring cs (part barred nq v) from m barred nq v v 0
barring-start {cs} {v} {from} {m} {barred} {nq} M =
    let P : Part barred nq (part barred nq v) v = part_of barred nq v M.in_barred in
    record {
      j≤ = zero-le;
      reads = M;
      marks = part-as P (is-tab (part barred nq v) (mark_at cs (part barred nq v) 0) nq (part-len P) (λ q h. rw (some-zero (hits cs q))));
      kept = kept_refl (Out barred nq) v;
    }

pub record BarTurn (cs bs : List ℕ) (from m barred nq : ℕ) (v w : List ℕ) (j c : ℕ) : Type 0 where
  pub q< : c / 4 < nq
  pub at< : barred + c / 4 < length w
  pub again : Barring cs bs from m barred nq v (set w (barred + c / 4) 1) (j + 1)

hits-same : (cs : List ℕ) (j q : ℕ) → q ≡ get_or cs j 0 / 4 → some (hits cs q) (j + 1) ≡ true
unfolding some
hits-same cs j q e = rw (add-one j, eq-eqb (get_or cs j 0 / 4) q (sym e)) (or-true (some (hits cs q) j))

hits-other : (cs : List ℕ) (j q : ℕ) → (get_or cs j 0 / 4 ≡ q → ⊥) → some (hits cs q) (j + 1) ≡ some (hits cs q) j
unfolding some
hits-other cs j q e = rw (add-one j, ne_eqb (get_or cs j 0 / 4) q e) (or-false (some (hits cs q) j))

pub bar-turn : {cs bs : List ℕ} {from m barred nq : ℕ} {v w : List ℕ} {j : ℕ} (c : ℕ) → Barring cs bs from m barred nq v w j → j < m → c ≡ get_or w (from + j) 0
    → BarTurn cs bs from m barred nq v w j c
bar-turn {cs} {bs} {from} {m} {barred} {nq} {v} {w} {j} c B h e =
    let M = B.reads in
    let cx : c ≡ get_or cs j 0 = e ∙ part-get 0 j M.at h in
    let cn : get_or cs j 0 < 4 * nq = M.known j h in
    let q< : c / 4 < nq = omega arith in
    let qe : c / 4 ≡ get_or cs j 0 / 4 = ap (λ (x : ℕ). x / 4) cx in
    let P' = part-set (c / 4) 1 B.marks q< in
    record {
      q< = q<;
      at< = omega (arith, M.in_barred);
      again = record {
        j≤ = omega arith;
        reads = record {
          few = M.few;
          at = part-set-out (barred + c / 4) 1 M.at (λ p q. M.apart (barred + c / 4) p q (omega arith) (omega arith));
          known = M.known;
          in_barred = P'.fits;
          apart = M.apart;
        };
        marks = part-as P' (tab-set (mark_at cs bs j) (mark_at cs bs (j + 1)) nq (c / 4) 1 q<
            (rw (hits-same cs j (c / 4) qe))
            (λ q _ ne. rw (hits-other cs j q (λ z. ne (sym z ∙ sym qe)))));
        kept = kept_set (barred + c / 4) 1 B.kept (λ o. o (omega arith) (omega arith));
      };
    }

pub barring-end : {cs bs : List ℕ} {from m barred nq : ℕ} {v w : List ℕ} {j : ℕ} → Barring cs bs from m barred nq v w j → m ≤ j
    → Part barred nq (tabulate (mark_at cs bs m) nq) w × Kept (Out barred nq) v w
barring-end {cs} {bs} {from} {m} {barred} {nq} {v} {w} {j} B h = let e : j ≡ m = omega (arith, B.j≤) in (rw e at B.marks, B.kept)

-- ---- what the corners of a point hit

-- a corner of quad q that is v
pub record Uses (Q : List ℕ) (q v : ℕ) : Type 0 where
  pub j : ℕ
  pub j< : j < 4
  pub at : corner Q q j ≡ v

pub uses-find : (Q : List ℕ) (q v : ℕ) → 0 < uses v (quad_at Q q) → Uses Q q v
uses-find Q q v = go _ _ _ _ refl refl refl refl
  where
    go : (a b c d : Bool) → eqb (corner Q q 0) v ≡ a → eqb (corner Q q 1) v ≡ b → eqb (corner Q q 2) v ≡ c → eqb (corner Q q 3) v ≡ d
        → 0 < cond a 1 0 + (cond b 1 0 + (cond c 1 0 + cond d 1 0)) → Uses Q q v
    go true b c d ea eb ec ed h = record { j = 0; j< = omega arith; at = eqb-true _ v ea }
    go false true c d ea eb ec ed h = record { j = 1; j< = omega arith; at = eqb-true _ v eb }
    go false false true d ea eb ec ed h = record { j = 2; j< = omega arith; at = eqb-true _ v ec }
    go false false false true ea eb ec ed h = record { j = 3; j< = omega arith; at = eqb-true _ v ed }
    go false false false false ea eb ec ed h = absurd (omega arith)

pub uses-at : (Q : List ℕ) (q v j : ℕ) → j < 4 → corner Q q j ≡ v → 0 < uses v (quad_at Q q)
uses-at Q q v j h e = below4 j h (eq-eqb (corner Q q j) v e)
  where
    below4 : (j : ℕ) → j < 4 → eqb (corner Q q j) v ≡ true → 0 < uses v (quad_at Q q)
    below4 zero h a = rw a (omega arith)
    below4 (suc zero) h a = rw a (omega arith)
    below4 (suc (suc zero)) h a = rw a (omega arith)
    below4 (suc (suc (suc zero))) h a = rw a (omega arith)
    below4 (suc (suc (suc (suc j)))) h a = absurd (omega arith)

-- the corners of the point v hit the quads that use v
pub hits-uses : (Q : List ℕ) (nq v q : ℕ) → q < nq → some (hits (point_corners Q nq v) q) (length (point_corners Q nq v)) ≡ ltb 0 (uses v (quad_at Q q))
hits-uses Q nq v q h =
    let B = point_corners Q nq v in
    bool_iff (some (hits B q) (length B)) (ltb 0 (uses v (quad_at Q q)))
    (λ e.
    let H = some-find (hits B q) (length B) e in
    let c = get_or B H.i 0 in
    let k : from Q c ≡ v = bucket-key (from Q) 0 v (all_corners nq) H.i H.i< in
    let r : c / 4 ≡ q = eqb-true (c / 4) q H.yes in
    let s : 4 * q + c % 4 ≡ c = omega arith in
    lt-ltb 0 _ (uses-at Q q v (c % 4) (omega arith) (ap (λ (x : ℕ). get_or Q x 0) s ∙ k)))
    (λ e.
    let U = uses-find Q q v (ltb-true 0 _ e) in
    let j< = U.j< in
    let b : 4 * q + U.j < 4 * nq = omega arith in
    let g : get_or (all_corners nq) (4 * q + U.j) 0 ≡ 4 * q + U.j = get_or-tab itself (4 * nq) (4 * q + U.j) 0 b in
    let I = in-bucket (from Q) 0 v (all_corners nq) (4 * q + U.j) (rw length-tab b) (ap (from Q) g ∙ U.at) in
    let a : get_or B I.t 0 ≡ 4 * q + U.j = I.at ∙ g in
    some_at (hits B q) (length B) I.t I.t< (eq-eqb (get_or B I.t 0 / 4) q (omega arith)))

-- ---- the quads around a point

-- the corners by point have the corners of v where they begin, one for each quad at v
pub corners-part : (np nq : ℕ) (Q : List ℕ) (v : ℕ) → v < np → part (first_at nq Q v) (valence (quads_of nq Q) v) (corners_at np nq Q) ≡ point_corners Q nq v
unfolding first_at corners_at
corners-part np nq Q v h = rw (valence-flat nq Q v) (part-bucket (from Q) (all_corners nq) np v h)

-- the corners of point v are a region of the corners by point
pub record Around (np nq : ℕ) (Q : List ℕ) (v starts order barred : ℕ) (w : List ℕ) : Type 0 where
  pub s< : starts + v < length w
  pub e< : starts + v + 1 < length w
  pub s≤ : get_or w (starts + v) 0 ≤ get_or w (starts + v + 1) 0
  pub e≤ : get_or w (starts + v + 1) 0 ≤ 4 * nq
  pub fits : order + 4 * nq ≤ length w
  pub list : part (order + get_or w (starts + v) 0) (get_or w (starts + v + 1) 0 - get_or w (starts + v) 0) w ≡ point_corners Q nq v
  pub count : get_or w (starts + v + 1) 0 - get_or w (starts + v) 0 ≡ length (point_corners Q nq v)
  pub marking : Marking (order + get_or w (starts + v) 0) (get_or w (starts + v + 1) 0 - get_or w (starts + v) 0) barred nq
      (part (order + get_or w (starts + v) 0) (get_or w (starts + v + 1) 0 - get_or w (starts + v) 0) w) w

pub around : {np nq : ℕ} {Q : List ℕ} {v starts order barred : ℕ} {w : List ℕ} → Incident np nq Q starts order barred w → v < np → Around np nq Q v starts order barred w
unfolding first_at corners_at
around {np} {nq} {Q} {v} {starts} {order} {barred} {w} I h =
    let key = from Q in
    let xs = all_corners nq in
    let s = start key xs v in
    let m = length (bucket key v xs) in
    let b : v < np + 1 = omega arith in
    let b' : v + 1 < np + 1 = omega arith in
    let sh : starts + v + 1 ≡ starts + (v + 1) = omega arith in
    let es : get_or w (starts + v) 0 ≡ s = part-get 0 v I.begin b ∙ get_or-tab (first_at nq Q) (np + 1) v 0 b in
    let ee : get_or w (starts + v + 1) 0 ≡ s + m = ap (λ (x : ℕ). get_or w x 0) sh ∙ part-get 0 (v + 1) I.begin b' ∙ get_or-tab (first_at nq Q) (np + 1) (v + 1) 0 b' ∙ start-suc key xs v in
    let em : get_or w (starts + v + 1) 0 - get_or w (starts + v) 0 ≡ m = omega arith in
    let len : length (sort_by key np xs) ≡ 4 * nq = part-len I.at in
    let mono : s + m ≤ length (sort_by key np xs) = start-mono key xs v np h in
    let P : Part (order + s) m (bucket key v xs) w = part-as (part-sub s m I.at (omega arith)) (part-bucket key xs np v h) in
    let each = each-bucket 0 (λ x. x < 4 * nq) key v xs (below-tab (4 * nq)).each in
    record {
      s< = omega (arith, I.begin.fits);
      e< = omega (arith, I.begin.fits);
      s≤ = omega arith;
      e≤ = omega arith;
      fits = I.at.fits;
      list = rw (es, ee) (rw (gap s m) P.is);
      count = em;
      marking = rw (es, ee) (rw (gap s m) (record {
        few = I.sheet.few;
        at = rw P.is P;
        known = rw P.is (λ i l. each i l);
        in_barred = I.in_barred;
        apart = λ i p q r t. I.order_barred i (omega arith) (omega arith) r t;
      }));
    }
  where
    gap : (s m : ℕ) → s + m - s ≡ m
    gap s m = omega arith

pub around-end : {np nq : ℕ} {Q : List ℕ} {v starts order barred : ℕ} {u w : List ℕ} → Around np nq Q v starts order barred u
    → Part barred nq (tabulate (mark_at (part (order + get_or u (starts + v) 0) (get_or u (starts + v + 1) 0 - get_or u (starts + v) 0) u) (part barred nq u)
    (get_or u (starts + v + 1) 0 - get_or u (starts + v) 0)) nq) w
    → Part barred nq (tabulate (barred_by Q v (part barred nq u)) nq) w
around-end {np} {nq} {Q} {v} {starts} {order} {barred} {u} {w} A P =
    part-as (rw (A.list, A.count) at P)
    (tab-ext (mark_at (point_corners Q nq v) (part barred nq u) (length (point_corners Q nq v))) (barred_by Q v (part barred nq u)) nq (λ q h. rw (hits-uses Q nq v q h)))

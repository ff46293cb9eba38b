-- The copies are put behind the points, one key after the other. Assumes nothing.
use Prim.Native.Nat.{ℕ, zero, suc, ◌+◌, ◌*◌, ◌/◌, ◌%◌, ◌^◌, ◌≤◌, ◌<◌}
use mathlib.Core.Path.{◌≡◌, refl, sym, ◌∙◌}
use mathlib.Core.Bool.{Bool, true, false, cond, true≢false}
use mathlib.Core.List.{List, [], ◌++◌, map, map-append, append-nil, append_assoc}
use native.Mathlib.Omega.{arith}
use native.Mathlib.Numerals.{add-one}
use lib.ListN.{length, length-append, length-map}
use lib.Ieee.{Float}
use Rattle.lists.specs.Sort.{cons_if}
use Rattle.lists.specs.Every.{every, count_to}
use Rattle.lists.proofs.Every.{every-zero, every-suc, every-fails, count-mono}
use Rattle.points.specs.declared.Point.{Point}
use Rattle.points.specs.Points.{point_at}
use Rattle.points.specs.Steps.{with_point}
use Rattle.setting.specs.Settings.{Setting}
use Rattle.rule_sheet.specs.Edges.{join_to}
use Rattle.rule_sheet.specs.Sheet.{Sheet, points_of, flat_points}
use Rattle.sheet.proofs.Tests.{length-points}
use Rattle.sheet.specs.Results.{Front}
use Rattle.sheet.proofs.Fronts.{front-point, length-with}
use Rattle.rule_finer.specs.Smoothed.{those}
use Rattle.rule_rows.specs.Rows.{is_copied, copies, number_of, first_step, try_count, try_from, copy_of, rows_sheet}
use Rattle.projection.specs.Project.{onto_of}
use Rattle.rows_gather.specs.Steps.{copied_in, number_in, points_after}
use Rattle.rows_copies.specs.Steps.{inward_at, copy_at, found_at, put_copy, copies_to}
use Rattle.std.specs.Prelude.{Some, None, Option}

-- ---- the numbers that pass a test

pub those-suc : (p : ℕ → Bool) (k : ℕ) → those p (k + 1) ≡ those p k ++ cons_if (p k) k []
unfolding those join_to
those-suc p k = rw (add-one k)

pub length-those : (p : ℕ → Bool) (n : ℕ) → length (those p n) ≡ count_to p n
unfolding those join_to count_to
length-those p zero = refl
length-those p (suc n) = length-append (those p n) (cons_if (p n) n []) ∙ go (p n) (length-those p n)
  where
    go : (b : Bool) → length (those p n) ≡ count_to p n → length (those p n) + length (cons_if b n []) ≡ count_to p n + cond b 1 0
    go true e = omega arith
    go false e = omega arith

-- the points of the sheet with rows
pub length-rows : (b : Setting) (s : Sheet) → length (rows_sheet b s).points ≡ number_of s (8 * length s.points)
unfolding rows_sheet copies number_of
length-rows b s =
    length-append s.points (map (λ k. onto_of (copy_of b s k)) (copies s)) ∙ rw (length-map (copies s) (λ k. onto_of (copy_of b s k)), length-those (is_copied s) (8 * length s.points))

-- ---- the numbers of the copies

number_at : (np : ℕ) (M : List ℕ) (k : ℕ) → copied_in M k ≡ true → k < 8 * np → number_in np M k + 1 ≤ points_after np M
unfolding number_in count_to
number_at np M k e h =
    let s : count_to (copied_in M) (suc k) ≡ count_to (copied_in M) k + 1 = rw e in
    omega (arith, count-mono (copied_in M) (suc k) (8 * np) (omega arith))

module _ (b : Setting) (np nq : ℕ) (P : List Float) (Q labels M : List ℕ) where
  -- the copy of the key k
  abbrev placed : ℕ → Point
  placed k = onto_of (copy_at b nq P Q labels k)

  abbrev pub found_by : ℕ → Bool
  found_by k = found_at b nq P Q labels M k

  copies-suc : (k : ℕ) → copies_to b nq P Q labels M (k + 1) ≡ copies_to b nq P Q labels M k ++ map placed (cons_if (copied_in M k) k [])
  unfolding copies_to
  copies-suc k = rw (those-suc (copied_in M) k) (map-append placed (those (copied_in M) k) (cons_if (copied_in M k) k []))

  length-copies : (k : ℕ) → length (points_of np P ++ copies_to b nq P Q labels M k) ≡ number_in np M k
  unfolding copies_to number_in
  length-copies k = length-append (points_of np P) (map placed (those (copied_in M) k)) ∙ omega (arith, length-points np P, length-map (those (copied_in M) k) placed, length-those (copied_in M) k)

  -- the invariant of the loop over the keys
  pub record CopyLoop (d s : List Float) (k : ℕ) : Type 0 where
    pub len : length s ≡ length d
    pub room : 3 * points_after np M ≤ length d
    pub front : Front (flat_points (points_of np P ++ copies_to b nq P Q labels M k)) s
    pub all : every found_by k ≡ true

  pub copies-start : (d : List Float) → 3 * points_after np M ≤ length d → Front (flat_points (points_of np P)) d → CopyLoop d d 0
  unfolding copies_to those join_to
  copies-start d h F = record { len = refl; room = h; front = rw (append-nil) F; all = every-zero found_by }

  pub copies-turn : {d s : List Float} {k : ℕ} (r : List Float) (t : Bool) → CopyLoop d s k → k < 8 * np → t ≡ found_by k → t ≡ true → (t ≡ true → r ≡ put_copy b np nq P Q labels M k s) → CopyLoop d r (k + 1)
  unfolding put_copy
  copies-turn {d} {s} {k} r t I h et e er = go (copied_in M k) refl
    where
      ps : List Point
      ps = points_of np P ++ copies_to b nq P Q labels M k

      go : (c : Bool) → copied_in M k ≡ c → CopyLoop d r (k + 1)
      go false c = record {
        len = rw (er e, c) I.len;
        room = I.room;
        front = rw (er e, copies-suc k, c, append-nil) I.front;
        all = every-suc found_by k I.all (sym et ∙ e);
      }
      go true c =
          let n = number_at np M k c h in
          record {
            len = rw (er e, c) (length-with s (number_in np M k) (placed k) ∙ I.len);
            room = I.room;
            front = rw (er e, copies-suc k, c, ← append_assoc (points_of np P) (copies_to b nq P Q labels M k)) (front-point ps (number_in np M k) (placed k) I.front (sym (length-copies k)) (omega (arith, I.len, I.room)));
            all = every-suc found_by k I.all (sym et ∙ e);
          }

  pub copies-fail : {d s : List Float} {k : ℕ} (t : Bool) (z : List Float) → CopyLoop d s k → k < 8 * np → t ≡ found_by k → t ≡ false → (false ≡ every found_by (8 * np)) × (false ≡ true → Front (flat_points (points_of np P ++ copies_to b nq P Q labels M (8 * np))) z)
  copies-fail {d} {s} {k} t z I h et e = (sym (every-fails found_by (8 * np) k h (sym et ∙ e)), λ q. absurd (true≢false (sym q)))

  pub copies-end : {d s : List Float} {k : ℕ} → CopyLoop d s k → k ≡ 8 * np → (true ≡ every found_by (8 * np)) × (true ≡ true → Front (flat_points (points_of np P ++ copies_to b nq P Q labels M (8 * np))) s)
  copies-end {d} {s} {k} I e = (sym (rw e at I.all), λ q. rw e at I.front)

  -- ---- one key

  pub put-none : (k : ℕ) (t : Bool) (s : List Float) → t ≡ copied_in M k → t ≡ false → (true ≡ found_by k) × (true ≡ true → s ≡ put_copy b np nq P Q labels M k s)
  unfolding found_at put_copy
  put-none k t s et e = let f = sym et ∙ e in (rw f, λ q. rw f)

  pub put-fails : (k : ℕ) (t : Bool) (r : Option Point) (s z : List Float) → t ≡ copied_in M k → t ≡ true → r ≡ copy_at b nq P Q labels k → r ≡ None → (false ≡ found_by k) × (false ≡ true → z ≡ put_copy b np nq P Q labels M k s)
  unfolding found_at
  put-fails k t r s z et e er f = let c = sym et ∙ e in (rw (c, ← er, f), λ q. absurd (true≢false (sym q)))

  pub put-found : (k : ℕ) (t : Bool) (r : Option Point) (p : Point) (x : ℕ) (s z : List Float) → t ≡ copied_in M k → t ≡ true → r ≡ copy_at b nq P Q labels k → r ≡ Some p → x ≡ number_in np M k
      → z ≡ with_point s x p → (true ≡ found_by k) × (true ≡ true → z ≡ put_copy b np nq P Q labels M k s)
  unfolding found_at put_copy
  put-found k t r p x s z et e er f ex ez = let c = sym et ∙ e in (rw (c, ← er, f), λ q. rw (c, ← er, f, ← ex) ez)

-- there is room for it
pub number-room : (np : ℕ) (M : List ℕ) (k x n : ℕ) (t : Bool) → t ≡ copied_in M k → t ≡ true → k < 8 * np → x ≡ number_in np M k → 3 * points_after np M ≤ n → x * 3 + 3 ≤ n
number-room np M k x n t et e h ex r = omega (arith, number_at np M k (sym et ∙ e) h)

-- the copy that the code asks for
pub copy-by : (b : Setting) (nq : ℕ) (P : List Float) (Q labels : List ℕ) (k m : ℕ) (p d : Point) (r : Option Point) → r ≡ try_from try_count b p d m first_step → m ≡ 2 ^ (k % 8) → p ≡ point_at P (k / 8)
    → d ≡ inward_at nq P Q labels (k / 8) (k % 8) → r ≡ copy_at b nq P Q labels k
unfolding copy_at
copy-by b nq P Q labels k m p d r er em ep ed = rw (← em, ← ep, ← ed) er

-- Valences move from two points to two others. Assumes nothing.
use Prim.Native.Nat.{ℕ, ◌+◌, ◌-◌, ◌≤◌, ◌<◌}
use mathlib.Core.Path.{◌≡◌, sym, ap, ◌∙◌}
use mathlib.Core.List.{List}
use native.Mathlib.Omega.{arith}
use lib.ListN.{length, get_or, set}
use lib.Seq.{get_or-set_other}
use Rattle.lists.specs.Regions.{part, Part, Out, Kept}
use Rattle.lists.proofs.Regions.{part_of, part-get, part-as, part-set, kept_set, kept_refl}
use Rattle.incidence.specs.Bounds.{Bounded}
use Rattle.regularize_swap.specs.Steps.{less, more}
use Rattle.regularize_swap.specs.Conditions.{ChangeLeaves, MoveValencesAsks}

-- ---- one valence

-- the valences vs in w, none of them above the limit, all else as in u
pub record Moving (val np : ℕ) (vs u w : List ℕ) : Type 0 where
  pub at : Part val np vs w
  pub kept : Kept (Out val np) u w
  pub bounded : Bounded val np w

pub moving-start : {val np : ℕ} {u : List ℕ} → val + np ≤ length u → Bounded val np u → Moving val np (part val np u) u u
moving-start {val} {np} {u} h B = record { at = part_of val np u h; kept = kept_refl (Out val np) u; bounded = B }

module _ {val np : ℕ} {vs u w : List ℕ} (a : ℕ) (M : Moving val np vs u w) (h : a < np) where
  read_at : get_or w (val + a) 0 ≡ get_or vs a 0
  read_at = part-get 0 a M.at h

  changed-at : {x : ℕ} {w' : List ℕ} (y : ℕ) → x ≡ y → ChangeLeaves val np a x w w' → Moving val np (set vs a y) u w'
  changed-at {x} {w'} y e C = record {
    at = part-as (rw C.is (part-set a x M.at h)) (ap (set vs a) e);
    kept = rw C.is (kept_set (val + a) x M.kept (λ o. o (omega arith) (omega arith)));
    bounded = C.bounded;
  }

  pub moved-less : {w' : List ℕ} → ChangeLeaves val np a (get_or w (val + a) 0 - 1) w w' → Moving val np (less vs a) u w'
  moved-less C = changed-at (get_or vs a 0 - 1) (ap (λ (x : ℕ). x - 1) read_at) C

  pub moved_more : {w' : List ℕ} → ChangeLeaves val np a (get_or w (val + a) 0 + 1) w w' → Moving val np (more vs a) u w'
  moved_more C = changed-at (get_or vs a 0 + 1) (ap (λ (x : ℕ). x + 1) read_at) C

-- ---- four of them, one after the other

module _ {np : ℕ} {vs : List ℕ} {a b c d : ℕ} (M : MoveValencesAsks np vs a b c d) where
  pub second_is : get_or (less vs a) b 0 ≡ get_or vs b 0
  second_is = get_or-set_other vs a b (get_or vs a 0 - 1) 0 (λ e. M.ab (sym e))

  pub third-is : get_or (less (less vs a) b) c 0 ≡ get_or vs c 0
  third-is = get_or-set_other (less vs a) b c _ 0 (λ e. M.bc (sym e)) ∙ get_or-set_other vs a c _ 0 (λ e. M.ac (sym e))

  pub last_is : get_or (more (less (less vs a) b) c) d 0 ≡ get_or vs d 0
  last_is = get_or-set_other (less (less vs a) b) c d _ 0 (λ e. M.cd (sym e)) ∙ get_or-set_other (less vs a) b d _ 0 (λ e. M.bd (sym e)) ∙ get_or-set_other vs a d _ 0 (λ e. M.ad (sym e))

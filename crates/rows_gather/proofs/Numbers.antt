-- The numbering of the copies, one key at a time, and a number that is read. Assumes nothing.
use Prim.Native.Nat.{ℕ, ◌+◌, ◌*◌, ◌/◌, ◌%◌, ◌^◌, ◌≤◌, ◌<◌}
use mathlib.Core.Path.{◌≡◌, refl, ap, ◌∙◌}
use mathlib.Core.Bool.{Bool, true, false, cond}
use mathlib.Core.List.{List}
use native.Mathlib.Omega.{arith}
use native.Mathlib.Numerals.{add-one}
use lib.ListN.{length, get_or, set}
use Rattle.lists.specs.Sort.{tabulate}
use Rattle.lists.specs.Every.{count_to}
use Rattle.lists.specs.Regions.{part, Part, Out, Apart, Kept}
use Rattle.lists.proofs.Every.{count-le}
use Rattle.lists.proofs.Regions.{part_of, part-get, RegionFilled, region-start, region-turn, region-end, region-other}
use Rattle.rule_sheet.specs.Lent.{limit}
use Rattle.rule_sheet.specs.Quads.{num}
use Rattle.std.specs.Int.{from_bool}
use Rattle.rows_gather.specs.Steps.{copied_by, copied_in, number_in, numbers_at}
use Rattle.lists.proofs.Laws.{get_or-tab}

-- the key k, by the masks at `masks`
pub copied_at : (np masks k : ℕ) (w : List ℕ) (r : Bool) → k < 8 * np → masks + np ≤ length w → r ≡ copied_by (get_or w (masks + k / 8) 0) (k % 8) → r ≡ copied_in (part masks np w) k
unfolding copied_in
copied_at np masks k w r h fits e = rw (← part-get 0 (k / 8) (part_of masks np w fits) (omega arith)) e

num-cond : (b : Bool) → num b ≡ cond b 1 0
num-cond true = refl
num-cond false = refl

pub bit-le : (b : Bool) → from_bool b ≤ 1
bit-le true = omega arith
bit-le false = omega arith

bit-num : (b : Bool) → from_bool b ≡ num b
bit-num true = refl
bit-num false = refl

number-suc : (np : ℕ) (M : List ℕ) (k : ℕ) → number_in np M (k + 1) ≡ number_in np M k + num (copied_in M k)
unfolding number_in count_to
number-suc np M k = rw (add-one k, num-cond (copied_in M k)) (omega arith)

pub number-le : (np : ℕ) (M : List ℕ) (k : ℕ) → number_in np M k ≤ np + k
unfolding number_in
number-le np M k = omega (arith, count-le (copied_in M) k)

-- the invariant of the loop over the keys: v is the slice as it came
pub record NumberLoop (np masks pos : ℕ) (v w : List ℕ) (next k : ℕ) : Type 0 where
  pub few : np ≤ limit
  pub in_masks : masks + np ≤ length v
  pub apart : Apart masks np pos (8 * np)
  pub filled : RegionFilled (number_in np (part masks np v)) pos (8 * np) v w k
  pub next_is : next ≡ number_in np (part masks np v) k

pub numbers-start : {np masks pos : ℕ} {v : List ℕ} → (np ≤ limit) × ((masks + np ≤ length v) × ((pos + 8 * np ≤ length v) × Apart masks np pos (8 * np))) → NumberLoop np masks pos v v np 0
unfolding number_in count_to
numbers-start {np} {masks} {pos} {v} p = record {
  few = p.0;
  in_masks = p.1.0;
  apart = p.1.1.1;
  filled = region-start _ pos (8 * np) v p.1.1.0;
  next_is = omega arith;
}

module _ {np masks pos : ℕ} {v w : List ℕ} {next k : ℕ} (I : NumberLoop np masks pos v w next k) where
  pub next_small : k < 8 * np → next < 2 ^ 32
  next_small h = omega (arith, I.next_is, number-le np (part masks np v) k, I.few)

  pub number_put : (x : ℕ) → k < 8 * np → x ≡ next → RegionFilled (number_in np (part masks np v)) pos (8 * np) v (set w (pos + k) x) (k + 1)
  number_put x h e = region-turn x I.filled h (e ∙ I.next_is)

  masks-kept : (x : ℕ) → k < 8 * np → x ≡ next → part masks np (set w (pos + k) x) ≡ part masks np v
  masks-kept x h e = (region-other (number_put x h e) (part_of masks np v I.in_masks) I.apart).is

  pub numbers-turn : (x o : ℕ) (t : Bool) → k < 8 * np → x ≡ next → t ≡ copied_in (part masks np (set w (pos + k) x)) k → o ≡ from_bool t → NumberLoop np masks pos v (set w (pos + k) x) (next + o) (k + 1)
  numbers-turn x o t h e et eo = record {
    few = I.few;
    in_masks = I.in_masks;
    apart = I.apart;
    filled = number_put x h e;
    next_is = rw (number-suc np (part masks np v) k, ← masks-kept x h e, ← et, ← bit-num t, ← eo) (ap (λ (i : ℕ). i + o) (I.next_is ∙ rw (masks-kept x h e) refl));
  }

  pub numbers-end : 8 * np ≤ k
      → (next ≡ number_in np (part masks np v) (8 * np)) × (Part pos (8 * np) (tabulate (number_in np (part masks np v)) (8 * np)) w × Kept (Out pos (8 * np)) v w)
  numbers-end h = let e : k ≡ 8 * np = omega (arith, I.filled.i≤) in (rw e at I.next_is, region-end I.filled h)

-- the number that is read
pub number_read : (np nq : ℕ) (M w : List ℕ) (k x : ℕ) → Part (numbers_at np nq) (8 * np) (tabulate (number_in np M) (8 * np)) w → k < 8 * np → x ≡ get_or w (numbers_at np nq + k) 0 → x ≡ number_in np M k
number_read np nq M w k x N h e = e ∙ part-get 0 k N h ∙ get_or-tab (number_in np M) (8 * np) k 0 h

-- The ends of the edges and their second corners, by the corners in the order of their edges. Assumes nothing.
use Prim.Native.Nat.{ℕ, ◌+◌, ◌*◌, ◌%◌, ◌≤◌, ◌<◌}
use mathlib.Core.Path.{◌≡◌, ◌∙◌}
use mathlib.Core.Logic.{⊎_elim}
use mathlib.Core.List.{List}
use native.Mathlib.Omega.{arith}
use lib.ListN.{get_or, set}
use lib.Seq.{get_or-set_same, get_or-set_other}
use borrow.Author.Tests.{eq-eqb, ne_eqb}
use Rattle.lists.specs.Regions.{part, Part, Out, Kept}
use Rattle.lists.proofs.Laws.{eq-or-ne}
use Rattle.lists.proofs.Regions.{part_of, part-get, part-kept, kept_refl, kept_set}
use Rattle.sheet.specs.Flat.{from, to}
use Rattle.sheet.specs.Edges.{smaller, larger}
use Rattle.subdivide_points.specs.Steps.{Below, end_at, Pairing, Seconds}

-- the smaller and the larger point of a corner's edge
pub smaller-from : (Q : List ℕ) (c : ℕ) → from Q c ≤ to Q c → from Q c ≡ smaller Q c
unfolding smaller
smaller-from Q c h = omega arith

pub smaller-to : (Q : List ℕ) (c : ℕ) → to Q c ≤ from Q c → to Q c ≡ smaller Q c
unfolding smaller
smaller-to Q c h = omega arith

pub larger-from : (Q : List ℕ) (c : ℕ) → to Q c ≤ from Q c → from Q c ≡ larger Q c
unfolding larger
larger-from Q c h = omega arith

pub larger-to : (Q : List ℕ) (c : ℕ) → from Q c ≤ to Q c → to Q c ≡ larger Q c
unfolding larger
larger-to Q c h = omega arith

module _ {order : ℕ} {w : List ℕ} (nq : ℕ) (Q : List ℕ) (i c : ℕ) (B : Below (4 * nq) order (4 * nq) w) (h : i < 4 * nq) (ec : c ≡ get_or w (order + i) 0) where
  at-is : c ≡ get_or (part order (4 * nq) w) i 0
  at-is = ec ∙ part-get 0 i (part_of order (4 * nq) w B.fits) h

  pub end-even : (r : ℕ) → i % 2 ≡ 0 → r ≡ smaller Q c → r ≡ end_at Q (part order (4 * nq) w) i
  unfolding end_at
  end-even r e er = rw (eq-eqb (i % 2) 0 e, ← at-is) er

  pub end-odd : (r : ℕ) → (i % 2 ≡ 0 → ⊥) → r ≡ larger Q c → r ≡ end_at Q (part order (4 * nq) w) i
  unfolding end_at
  end-odd r e er = rw (ne_eqb (i % 2) 0 e, ← at-is) er

-- the invariant of the loop that notes the second corners
pub record SecondLoop (nq order second : ℕ) (E v w : List ℕ) (k : ℕ) : Type 0 where
  pub pairing : Pairing nq order second E v
  pub done : Seconds second E k w
  pub kept : Kept (Out second (4 * nq)) v w

pub seconds-start : {nq order second : ℕ} {E v : List ℕ} → Pairing nq order second E v → SecondLoop nq order second E v v 0
seconds-start P = record { pairing = P; done = λ i h. absurd (omega arith); kept = kept_refl _ _ }

module _ {nq order second : ℕ} {E v w : List ℕ} {k : ℕ} (I : SecondLoop nq order second E v w k) (h : k < 2 * nq) where
  corners-at : Part order (4 * nq) E w
  corners-at = part-kept I.pairing.at I.kept (λ i p q r s. I.pairing.apart i p q r s)

  pub first-at : get_or w (order + 2 * k) 0 ≡ get_or E (2 * k) 0
  first-at = part-get 0 (2 * k) corners-at (omega arith)

  pub first-low : (c : ℕ) → c ≡ get_or w (order + 2 * k) 0 → c < 4 * nq
  first-low c e = rw (e, first-at) (I.pairing.corners.low (2 * k) (omega arith))

  pub seconds-turn : (c : ℕ) → c ≡ get_or w (order + 2 * k) 0 → SecondLoop nq order second E v (set w (second + c) (get_or w (order + (2 * k + 1)) 0)) (k + 1)
  seconds-turn c e = record { pairing = I.pairing; done = done; kept = kept_set (second + c) _ I.kept (λ o. o (omega arith) (omega (arith, first-low c e))) }
    where
      done : Seconds second E (k + 1) (set w (second + c) (get_or w (order + (2 * k + 1)) 0))
      done i b = ⊎_elim
          (λ (s : i ≡ k). rw (s, ← first-at, ← e, get_or-set_same w (second + c) (get_or w (order + (2 * k + 1)) 0) 0 (omega (arith, I.pairing.in_second, I.kept.len, first-low c e))) (part-get 0 (2 * k + 1) corners-at (omega arith)))
          (λ (ne : i ≡ k → ⊥).
          let l : 2 * i < 2 * k = omega arith in
          get_or-set_other w (second + c) (second + get_or E (2 * i) 0) _ 0 (λ q. I.pairing.corners.once (2 * i) (2 * k) l (omega arith) (omega (arith, e, first-at))) ∙ I.done i (omega arith))
          (eq-or-ne i k)

pub seconds-end : {nq order second : ℕ} {E v w : List ℕ} {k : ℕ} → SecondLoop nq order second E v w k → k ≡ 2 * nq → Seconds second E (2 * nq) w × Kept (Out second (4 * nq)) v w
seconds-end {nq} {order} {second} {E} {v} {w} {k} I e = (rw e at I.done, I.kept)

-- The tests over the corners of a list, one at a time. Assumes nothing.
use mathlib.Core.Path.{◌≡◌, refl, sym}
use mathlib.Core.Bool.{Bool, true, false, cond, not, ◌||◌}
use Prim.Native.Nat.{ℕ, ◌+◌, ◌*◌, ◌/◌, ◌<◌}
use mathlib.Core.List.{List}
use native.Mathlib.Omega.{arith}
use lib.Dec.{eqb, ltb}
use lib.ListN.{length, get_or}
use borrow.Author.Tests.{lt-ltb}
use Rattle.rule_sheet.specs.Flat.{corner, quad_at}
use Rattle.incidence.specs.Corners.{Cornered}
use Rattle.rule_coarsen.specs.Coarse.{has_corner}
use Rattle.coarsen_merge.specs.Steps.{not_further}
use Rattle.coarsen_merge.specs.Conditions.{ListAsks}

-- a quad has the corner v if one of its four is v
any-four : (x y z w : Bool) → ltb 0 (cond x 1 0 + (cond y 1 0 + (cond z 1 0 + cond w 1 0))) ≡ (x || y || z || w)
any-four true y z w = lt-ltb 0 (1 + (cond y 1 0 + (cond z 1 0 + cond w 1 0))) (omega arith)
any-four false true z w = lt-ltb 0 (0 + (1 + (cond z 1 0 + cond w 1 0))) (omega arith)
any-four false false true w = lt-ltb 0 (0 + (0 + (1 + cond w 1 0))) (omega arith)
any-four false false false true = refl
any-four false false false false = refl

pub has_one : (Q : List ℕ) (q v : ℕ) → (eqb (corner Q q 0) v || eqb (corner Q q 1) v || eqb (corner Q q 2) v || eqb (corner Q q 3) v) ≡ has_corner (quad_at Q q) v
has_one Q q v = sym (any-four (eqb (corner Q q 0) v) (eqb (corner Q q 1) v) (eqb (corner Q q 2) v) (eqb (corner Q q 3) v))

-- the corner j of a quad
pub record Within (np q j : ℕ) (Q : List ℕ) : Type 0 where
  pub room : 4 * q + j < length Q
  pub point : corner Q q j < np

pub within : {np nq : ℕ} {Q : List ℕ} (q j : ℕ) → Cornered np nq Q → q < nq → j < 4 → Within np q j Q
within {np} {nq} {Q} q j C h l = let k = C.quads in record { room = omega arith; point = C.points (4 * q + j) (omega arith) }

-- a corner of the list, and its quad
pub record Turn (np nq : ℕ) (cs Q : List ℕ) (t c : ℕ) : Type 0 where
  pub c< : c < 4 * nq
  pub q< : c / 4 < nq
  pub room : 4 * (c / 4) + 3 < length Q

pub listed-turn : {np nq : ℕ} {cs Q : List ℕ} (t c : ℕ) → ListAsks np nq cs Q → t < length cs → c ≡ get_or cs t 0 → Turn np nq cs Q t c
listed-turn {np} {nq} {cs} {Q} t c L h e =
    let l = L.sheet.quads in
    let k = L.known t h in
    record { c< = omega arith; q< = omega arith; room = omega arith }

-- the test of a turn is that of the corner at its place
pub further-turn : (cs Q : List ℕ) (f v t c : ℕ) (r b : Bool) → c ≡ get_or cs t 0 → r ≡ has_corner (quad_at Q (c / 4)) v → (eqb (c / 4) f || not r) ≡ b → not_further cs Q f v t ≡ b
further-turn cs Q f v t c r b e g h = rw (← e, ← g) h

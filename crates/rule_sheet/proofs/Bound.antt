-- No valence passes the number of quads. Assumes nothing.
use mathlib.Core.Path.{◌≡◌, sym, ◌∙◌}
use mathlib.Core.Logic.{◌≢◌}
use mathlib.Core.Bool.{Bool, true, false, cond}
use Prim.Native.Nat.{ℕ, ◌≤◌}
use mathlib.Core.List.{List, [], ◌∷◌}
use native.Mathlib.Omega.{arith}
use native.Mathlib.Decide.{ℕ_discrete}
use lib.Dec.{eqb}
use lib.ListN.{length}
use Rattle.rule_sheet.specs.Quads.{Quad, quad, at, uses, valence}
use Rattle.rule_sheet.specs.Claims.{All, Differ}
use Rattle.rule_sheet.proofs.Weigh.{at-diff}

-- A quad of different corners has v once at most.
pub uses-once : (v : ℕ) (q : Quad) → Differ q → uses v q ≤ 1
uses-once v (quad a b c d) (ab, ac, ad, bc, bd, cd) = go (ℕ_discrete a v) (ℕ_discrete b v) (ℕ_discrete c v)
  where
    most : (p m n : ℕ) → at v (λ p n. 1) p m n ≤ 1
    most p m n = one (eqb m v)
      where
        one : (x : Bool) → cond {A = ℕ} x 1 0 ≤ 1
        one true = omega arith
        one false = omega arith

    off : (p m n x : ℕ) → x ≡ v → x ≢ m → at v (λ p n. 1) p m n ≡ 0
    off p m n x e k = at-diff v (λ p n. 1) p m n (λ i. k (e ∙ sym i))

    go : Dec (a ≡ v) → Dec (b ≡ v) → Dec (c ≡ v) → uses v (quad a b c d) ≤ 1
    go (yes e) _ _ = omega (arith, most d a b, off a b c a e ab, off b c d a e ac, off c d a a e ad)
    go (no x) (yes e) _ = omega (arith, at-diff v (λ p n. 1) d a b x, most a b c, off b c d b e bc, off c d a b e bd)
    go (no x) (no y) (yes e) = omega (arith, at-diff v (λ p n. 1) d a b x, at-diff v (λ p n. 1) a b c y, most b c d, off c d a c e cd)
    go (no x) (no y) (no z) = omega (arith, at-diff v (λ p n. 1) d a b x, at-diff v (λ p n. 1) a b c y, at-diff v (λ p n. 1) b c d z, most c d a)

pub valence-le : (S : List Quad) (v : ℕ) → All Differ S → valence S v ≤ length S
unfolding All
valence-le [] v a = omega arith
valence-le (q ∷ S) v (p, a) = omega (arith, uses-once v q p, valence-le S v a)

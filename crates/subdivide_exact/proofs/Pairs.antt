-- The two quads of an edge are different ones. Assumes nothing.
use Prim.Native.Nat.{ℕ, zero, suc, ◌+◌, ◌≤◌, ◌<◌}
use mathlib.Core.Path.{◌≡◌, refl, sym, ap, ◌∙◌, fun_ext}
use mathlib.Core.Logic.{◌≢◌}
use mathlib.Core.Bool.{Bool, true, false, cond}
use mathlib.Core.List.{List, [], ◌∷◌, ◌++◌}
use native.Mathlib.Omega.{arith}
use native.Mathlib.Decide.{ℕ_discrete}
use native.Mathlib.Nat.{add_comm}
use lib.Dec.{eqb}
use lib.ListN.{length, replicate}
use Rattle.rule_sheet.specs.Quads.{Quad, quad, is, corners, at}
use Rattle.rule_sheet.specs.Claims.{Differ, All}
use Rattle.rule_sheet.proofs.FirstUse.{is_same, is-other}
use Rattle.rule_sheet.proofs.Weigh.{is_le, side-at-end}
use Rattle.rule_sheet.proofs.Bound.{uses-once}
use Rattle.rule_finer.specs.Smoothed.{timed, sides, edge_quads}

-- an edge has the same quads from either end
pub quads-swap : (S : List Quad) (u v : ℕ) → edge_quads S u v ≡ edge_quads S v u
unfolding edge_quads
quads-swap S u v = ap (λ (f : Quad → ℕ). timed f 0 S) (fun_ext (λ q. add_comm (corners (at u (λ p n. is v n)) q) (corners (at v (λ p n. is u n)) q)))

-- ---- numbers in ascending order

first-from : (f : Quad → ℕ) (i : ℕ) (S : List Quad) (a : ℕ) (l : List ℕ) → timed f i S ≡ a ∷ l → i ≤ a
first-from f i [] a l e = absurd (let z : ◌≡◌ {A = ℕ} 0 1 = cc in omega arith)
first-from f i (q ∷ S) a l e = go (f q) e (first-from f (suc i) S a l)
  where
    go : (k : ℕ) → replicate k i ++ timed f (suc i) S ≡ a ∷ l → (timed f (suc i) S ≡ a ∷ l → suc i ≤ a) → i ≤ a
    go zero e ih = omega (arith, ih e)
    go (suc k) e ih = let x : i ≡ a = cc in omega arith

-- where no quad counts more than once, two numbers are different
two-apart : (f : Quad → ℕ) (i : ℕ) (S : List Quad) → All (λ q. f q ≤ 1) S → (a b : ℕ) → timed f i S ≡ a ∷ b ∷ [] → a < b
unfolding All
two-apart f i [] h a b e = absurd (let z : ◌≡◌ {A = ℕ} 0 1 = cc in omega arith)
two-apart f i (q ∷ S) (h, hs) a b e = go (f q) h e (two-apart f (suc i) S hs a b) (first-from f (suc i) S b [])
  where
    go : (k : ℕ) → k ≤ 1 → replicate k i ++ timed f (suc i) S ≡ a ∷ b ∷ [] → (timed f (suc i) S ≡ a ∷ b ∷ [] → a < b) → (timed f (suc i) S ≡ b ∷ [] → suc i ≤ b) → a < b
    go zero h e ih from = ih e
    go (suc zero) h e ih from =
        let x : i ≡ a = cc in
        let y : timed f (suc i) S ≡ b ∷ [] = cc in
        omega (arith, from y)
    go (suc (suc k)) h e ih from = absurd (omega arith)

-- ---- a quad has an edge once

-- at one corner v is not both before and after
corner-once : (u v p m n : ℕ) → p ≢ n → at u (λ p n. is v n) p m n + at u (λ p n. is v p) p m n ≤ at u (λ p n. 1) p m n
corner-once u v p m n h = go (eqb m u) (ℕ_discrete v n)
  where
    go : (t : Bool) → Dec (v ≡ n) → cond t (is v n) 0 + cond t (is v p) 0 ≤ cond t 1 0
    go false d = omega arith
    go true (yes e) = omega (arith, is_same v n e, is-other v p (λ k. h (sym k ∙ e)))
    go true (no e) = omega (arith, is-other v n e, is_le v p)

sides-once : (u v : ℕ) (q : Quad) → Differ q → sides u v q ≤ 1
sides-once u v (quad a b c d) (ab, ac, ad, bc, bd, cd) = omega (
  arith,
  side-at-end (quad a b c d ∷ []) v u,
  uses-once u (quad a b c d) (ab, ac, ad, bc, bd, cd),
  corner-once u v d a b (λ e. bd (sym e)),
  corner-once u v a b c ac,
  corner-once u v b c d bd,
  corner-once u v c d a (λ e. ac (sym e)),
)

-- ---- the two quads of an edge

pub record Two (S : List Quad) (u v : ℕ) : Type 0 where
  pub f : ℕ
  pub g : ℕ
  pub different : f < g
  pub quads : edge_quads S u v ≡ f ∷ g ∷ []

pub two-of : (S : List Quad) → All Differ S → (u v : ℕ) → length (edge_quads S u v) ≡ 2 → Two S u v
unfolding edge_quads All
two-of S differ u v e = go (edge_quads S u v) refl e
  where
    once : (S : List Quad) → All Differ S → All (λ q. sides u v q ≤ 1) S
    once [] h = tt
    once (q ∷ S) (h, hs) = (sides-once u v q h, once S hs)

    go : (l : List ℕ) → edge_quads S u v ≡ l → length l ≡ 2 → Two S u v
    go [] e k = absurd (omega arith)
    go (a ∷ []) e k = absurd (omega arith)
    go (a ∷ b ∷ []) e k = record { f = a; g = b; different = two-apart (sides u v) 0 S (once S differ) a b e; quads = e }
    go (a ∷ b ∷ c ∷ l) e k = absurd (omega arith)

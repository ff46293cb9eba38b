-- Passes one after the other: p passes and then q are p + q passes; what each keeps all keep; enough of them end where nothing is left to do. Assumes nothing.
use mathlib.Core.Path.{◌≡◌, refl, ap, sym, ◌∙◌}
use Prim.Native.Nat.{ℕ, zero, suc, ◌+◌, ◌*◌, ◌≤◌, ◌<◌}
use native.Mathlib.Nat.{zero-add, suc-add}
use mathlib.Core.Bool.{Bool, true, false, true≢false}
use native.Mathlib.Omega.{arith}
use lib.Dec.{eqb}
use borrow.Author.Tests.{eqb-true, eq-eqb}
use Rattle.rule_sheet.specs.Outcomes.{RunEnd}
use Rattle.rule_passes.specs.Runs.{run, largest, capped}

module _ {A : Type 0} (count : A → ℕ) (next : A → A) where
  -- a pass that counts 0 stays the last
  pub idle : (q : ℕ) (x : A) (c : ℕ) → eqb (count x) 0 ≡ true → run count next q x c ≡ record { left = x; count = c }
  idle zero x c e = refl
  idle (suc q) x c e = rw (e, run) refl

  -- p passes and then q are p + q passes
  pub run-split : (p q : ℕ) (x : A) (c : ℕ) → run count next (p + q) x c ≡ run count next q (run count next p x c).left (run count next p x c).count
  run-split zero q x c = rw zero-add refl
  run-split (suc p) q x c = rw suc-add (go (eqb (count x) 0) refl (run-split p q (next x) (c + count x)))
    where
      go : (b : Bool) → eqb (count x) 0 ≡ b
          → run count next (p + q) (next x) (c + count x) ≡ run count next q (run count next p (next x) (c + count x)).left (run count next p (next x) (c + count x)).count
          → ◌≡◌ {A = RunEnd A} (elim b as (λ y. RunEnd A) [ true ↦ record { left = x; count = c } | false ↦ run count next (p + q) (next x) (c + count x) ])
          (run count next q (elim b as (λ y. RunEnd A) [ true ↦ record { left = x; count = c } | false ↦ run count next p (next x) (c + count x) ]).left
          (elim b as (λ y. RunEnd A) [ true ↦ record { left = x; count = c } | false ↦ run count next p (next x) (c + count x) ]).count)
      go true e ih = sym (idle q x c e)
      go false e ih = ih

  -- the count starts anywhere
  pub run-from : (k : ℕ) (x : A) (c d : ℕ) → run count next k x (c + d) ≡ record { left = (run count next k x d).left; count = c + (run count next k x d).count }
  run-from zero x c d = refl
  run-from (suc k) x c d = go (eqb (count x) 0) (run-from k (next x) c (d + count x))
    where
      regroup : (u v w : ℕ) → (u + v) + w ≡ u + (v + w)
      regroup u v w = omega arith

      go : (b : Bool) → run count next k (next x) (c + (d + count x)) ≡ record { left = (run count next k (next x) (d + count x)).left; count = c + (run count next k (next x) (d + count x)).count }
          → ◌≡◌ {A = RunEnd A} (elim b as (λ y. RunEnd A) [ true ↦ record { left = x; count = c + d } | false ↦ run count next k (next x) ((c + d) + count x) ])
          (record {
            left = (elim b as (λ y. RunEnd A) [ true ↦ record { left = x; count = d } | false ↦ run count next k (next x) (d + count x) ]).left;
            count = c + (elim b as (λ y. RunEnd A) [ true ↦ record { left = x; count = d } | false ↦ run count next k (next x) (d + count x) ]).count;
          })
      go true ih = refl
      go false ih = ap (run count next k (next x)) (regroup c d (count x)) ∙ ih

  -- ---- what each pass keeps

  -- an answer a after c and the passes from x on: it is good, and R says what became of x
  pub record Ran (Good : A → Type 0) (R : A → A → ℕ → Type 0) (x : A) (c : ℕ) (a : RunEnd A) : Type 0 where
    pub steps : ℕ
    pub counts : a.count ≡ c + steps
    pub good : Good a.left
    pub kept : R x a.left steps

  pub run-keeps : (Good : A → Type 0) (R : A → A → ℕ → Type 0) → ((x : A) → Good x → R x x 0) → ((x y z : A) (c d : ℕ) → R x y c → R y z d → R x z (c + d))
      → ((x : A) → Good x → Good (next x) × R x (next x) (count x)) → (k : ℕ) (x : A) (c : ℕ) → Good x → Ran Good R x c (run count next k x c)
  run-keeps Good R same trans one zero x c g = record { steps = 0; counts = omega arith; good = g; kept = same x g }
  run-keeps Good R same trans one (suc k) x c g = go (eqb (count x) 0) (run-keeps Good R same trans one k (next x) (c + count x) (one x g).0)
    where
      go : (b : Bool) → Ran Good R (next x) (c + count x) (run count next k (next x) (c + count x))
          → Ran Good R x c (elim b as (λ y. RunEnd A) [ true ↦ record { left = x; count = c } | false ↦ run count next k (next x) (c + count x) ])
      go true r = record { steps = 0; counts = omega arith; good = g; kept = same x g }
      go false r = record { steps = count x + r.steps; counts = omega (arith, r.counts); good = r.good; kept = trans x (next x) _ (count x) r.steps (one x g).1 r.kept }

  -- ---- the end: each pass lowers a number by twice its count

  module _ (Good : A → Type 0) (φ : A → ℕ) (falls : (x : A) → Good x → Good (next x) × (φ (next x) + 2 * count x ≤ φ x)) where
    pub run_ends : (k : ℕ) (x : A) (c : ℕ) → Good x → φ x < 2 * k → count (run count next k x c).left ≡ 0
    run_ends zero x c g h = absurd (omega arith)
    run_ends (suc k) x c g h = go (eqb (count x) 0) refl (λ more. run_ends k (next x) (c + count x) (falls x g).0 (omega (arith, h, (falls x g).1)))
      where
        positive : (n : ℕ) → eqb n 0 ≡ false → 0 < n
        positive zero e = absurd (true≢false (sym (eq-eqb 0 0 refl) ∙ e))
        positive (suc n) e = omega arith

        go : (b : Bool) → eqb (count x) 0 ≡ b → (0 < count x → count (run count next k (next x) (c + count x)).left ≡ 0)
            → count (elim b as (λ y. RunEnd A) [ true ↦ record { left = x; count = c } | false ↦ run count next k (next x) (c + count x) ]).left ≡ 0
        go true e f = eqb-true (count x) 0 e
        go false e f = f (positive (count x) e)

    -- and the same passes once more count 0 and change nothing
    pub run-again : (k j : ℕ) (x : A) → Good x → φ x < 2 * k → run count next j (run count next k x 0).left 0 ≡ record { left = (run count next k x 0).left; count = 0 }
    run-again k j x g h = idle j (run count next k x 0).left 0 (eq-eqb (count (run count next k x 0).left) 0 (run_ends k x 0 g h))

-- ---- capped counts

-- a count may be capped after each pass
pub capped-add : (c d : ℕ) → capped (capped c + d) ≡ capped (c + d)
capped-add c d = omega arith

pub capped_small : (c : ℕ) → c ≤ largest → capped c ≡ c
capped_small c h = omega arith

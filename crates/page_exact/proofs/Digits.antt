-- The columns of a count are read back as it. Assumes nothing.
use Prim.Native.Nat.{ℕ, zero, suc, ◌+◌, ◌-◌, ◌*◌, ◌/◌, ◌%◌, ◌^◌, ◌≤◌, ◌<◌}
use mathlib.Core.Path.{◌≡◌, refl, sym, ◌∙◌}
use mathlib.Core.Bool.{Bool, true, false, cond, ◌&&◌}
use mathlib.Core.List.{[], ◌∷◌, foldl, foldl-append}
use native.Mathlib.Omega.{arith}
use native.Mathlib.Nat.{div-add-mod', div-eq_of_lt}
use lib.Dec.{eqb, ltb}
use borrow.Author.Tests.{eqb-true, ne_eqb}
use Rattle.lists.specs.Sort.{tabulate}
use Rattle.lists.proofs.Every.{and_left}
use Rattle.rule_page.specs.Page.{column_of}
use Rattle.page.proofs.Lines.{without-next}
use Rattle.page_exact.specs.Exact.{read_byte}

-- a digit is no space
digit-read : (m d : ℕ) → read_byte m (48 + d) ≡ 10 * m + d
digit-read m d = let e : 48 + d - 48 ≡ d = omega arith in rw (ne_eqb (48 + d) 32 (λ z. omega arith), e)

-- a column behind those to its left
column-read : (n k : ℕ) → read_byte (n / 10 ^ (k + 1)) (column_of n k) ≡ n / 10 ^ k
unfolding column_of
column-read n k = go (eqb (n / 10 ^ k) 0 && ltb 0 k) refl
  where
    m : ℕ
    m = n / 10 ^ k

    whole : 10 * (m / 10) + m % 10 ≡ m
    whole = omega (arith, div-add-mod' m 10)

    go : (b : Bool) → (eqb (n / 10 ^ k) 0 && ltb 0 k) ≡ b → read_byte (n / 10 ^ (k + 1)) (cond b 32 (48 + n / 10 ^ k % 10)) ≡ n / 10 ^ k
    go true e = sym (without-next n k) ∙ omega (arith, whole, eqb-true (n / 10 ^ k) 0 (and_left (eqb (n / 10 ^ k) 0) (ltb 0 k) e))
    go false e = digit-read (n / 10 ^ (k + 1)) (n / 10 ^ k % 10) ∙ omega (arith, without-next n k, whole)

-- the first i columns
columns-read : (n i : ℕ) → n < 10 ^ 16 → i ≤ 16 → foldl read_byte 0 (tabulate (λ j. column_of n (15 - j)) i) ≡ n / 10 ^ (16 - i)
unfolding tabulate
columns-read n zero h l = sym (div-eq_of_lt h)
columns-read n (suc i) h l =
    let e : 16 - i ≡ 15 - i + 1 = omega arith in
    let f : 16 - suc i ≡ 15 - i = omega arith in
    rw f (foldl-append read_byte 0 (tabulate (λ j. column_of n (15 - j)) i) (column_of n (15 - i) ∷ []) ∙ rw (columns-read n i h (omega arith), e) (column-read n (15 - i)))

pub count-read : (n : ℕ) → n < 10 ^ 16 → foldl read_byte 0 (tabulate (λ j. column_of n (15 - j)) 16) ≡ n
count-read n h = columns-read n 16 h (omega arith) ∙ omega (arith, div-add-mod' n 1)

-- ---- no column ends a line

pub column-no-end : (n k : ℕ) → eqb (column_of n k) 10 ≡ false
unfolding column_of
column-no-end n k = go (eqb (n / 10 ^ k) 0 && ltb 0 k)
  where
    go : (b : Bool) → eqb (cond b 32 (48 + n / 10 ^ k % 10)) 10 ≡ false
    go true = refl
    go false = ne_eqb (48 + n / 10 ^ k % 10) 10 (λ z. omega arith)

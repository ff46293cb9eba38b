-- The test of two masks as numbers is that of their labels. Assumes nothing.
use mathlib.Core.Path.{◌≡◌, refl}
use mathlib.Core.Bool.{Bool, true, false, not, ◌&&◌, ◌||◌}
use Prim.Native.Nat.{ℕ, ◌+◌, ◌*◌, ◌/◌, ◌%◌}
use mathlib.Core.List.{List}
use native.Mathlib.Omega.{arith}
use lib.Dec.{eqb, leb}
use Rattle.lists.specs.Every.{every}
use Rattle.rule_sheet.specs.Quads.{Quad, num, pack, has_label, mask_of}
use Rattle.sheet.proofs.Masks.{bit-pack}
use Rattle.rule_coarsen.specs.Coarse.{masks_join}
use Rattle.coarsen_masks.specs.Masks.{no_opposite, part_of, masks_joined}

none-set : (x u : Bool) → eqb (num x + num u) 0 ≡ not (x || u)
none-set true true = refl
none-set true false = refl
none-set false true = refl
none-set false false = refl

not-both : (p q : Bool) → (not p || not q) ≡ not (p && q)
not-both true q = refl
not-both false q = refl

le-bit : (x u : Bool) → leb (num x) (num u) ≡ (not x || u)
le-bit true true = refl
le-bit true false = refl
le-bit false true = refl
le-bit false false = refl

-- bit by bit
record Bits (t : ℕ → Bool) : Type 0 where
  b0 : pack t % 2 ≡ num (t 0)
  b1 : pack t / 2 % 2 ≡ num (t 1)
  b2 : pack t / 4 % 2 ≡ num (t 2)
  b3 : pack t / 8 % 2 ≡ num (t 3)
  b4 : pack t / 16 % 2 ≡ num (t 4)
  b5 : pack t / 32 % 2 ≡ num (t 5)
  b6 : pack t / 64 % 2 ≡ num (t 6)
  b7 : pack t / 128 % 2 ≡ num (t 7)

bits : (t : ℕ → Bool) → Bits t
bits t = record {
  b0 = omega (arith, bit-pack t 0 (omega arith));
  b1 = bit-pack t 1 (omega arith);
  b2 = bit-pack t 2 (omega arith);
  b3 = bit-pack t 3 (omega arith);
  b4 = bit-pack t 4 (omega arith);
  b5 = bit-pack t 5 (omega arith);
  b6 = bit-pack t 6 (omega arith);
  b7 = bit-pack t 7 (omega arith);
}

opposite-is : (t u : ℕ → Bool) → no_opposite (pack t) (pack u) ≡ every (λ j. not ((t (2 * j) || u (2 * j)) && (t (2 * j + 1) || u (2 * j + 1)))) 4
unfolding no_opposite every
opposite-is t u = let x = bits t in let y = bits u in
    rw (
      x.b0,
      x.b1,
      x.b2,
      x.b3,
      x.b4,
      x.b5,
      x.b6,
      x.b7,
      y.b0,
      y.b1,
      y.b2,
      y.b3,
      y.b4,
      y.b5,
      y.b6,
      y.b7,
      none-set (t 0) (u 0),
      none-set (t 1) (u 1),
      none-set (t 2) (u 2),
      none-set (t 3) (u 3),
      none-set (t 4) (u 4),
      none-set (t 5) (u 5),
      none-set (t 6) (u 6),
      none-set (t 7) (u 7),
      not-both (t 0 || u 0) (t 1 || u 1),
      not-both (t 2 || u 2) (t 3 || u 3),
      not-both (t 4 || u 4) (t 5 || u 5),
      not-both (t 6 || u 6) (t 7 || u 7),
    ) refl

part-is : (t u : ℕ → Bool) → part_of (pack t) (pack u) ≡ every (λ l. not (t l) || u l) 8
unfolding part_of every
part-is t u = let x = bits t in let y = bits u in
    rw (
      x.b0,
      x.b1,
      x.b2,
      x.b3,
      x.b4,
      x.b5,
      x.b6,
      x.b7,
      y.b0,
      y.b1,
      y.b2,
      y.b3,
      y.b4,
      y.b5,
      y.b6,
      y.b7,
      le-bit (t 0) (u 0),
      le-bit (t 1) (u 1),
      le-bit (t 2) (u 2),
      le-bit (t 3) (u 3),
      le-bit (t 4) (u 4),
      le-bit (t 5) (u 5),
      le-bit (t 6) (u 6),
      le-bit (t 7) (u 7),
    ) refl

pub masks-join : (n : ℕ) (S : List Quad) (labels : List ℕ) (a c : ℕ) → masks_joined (mask_of S labels a) (mask_of S labels c) ≡ masks_join n S labels a c
unfolding masks_joined mask_of
masks-join n S labels a c = rw (opposite-is (has_label S labels a) (has_label S labels c), part-is (has_label S labels c) (has_label S labels a), part-is (has_label S labels a) (has_label S labels c)) refl

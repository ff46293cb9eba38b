-- What a trailer tells that is found. Assumes nothing.
use Prim.Native.Nat.{ℕ, ◌+◌, ◌-◌, ◌/◌, ◌%◌, ◌≤◌}
use mathlib.Core.Path.{◌≡◌, refl, ap}
use mathlib.Core.Bool.{Bool, true, false, cond}
use mathlib.Core.List.{List}
use native.Mathlib.Omega.{arith}
use lib.Dec.{eqb, ltb}
use lib.ListN.{length}
use borrow.Author.Tests.{leb-true, eqb-true}
use Rattle.lists.specs.Regions.{part}
use Rattle.lists.proofs.Every.{and_left, and_right}
use Rattle.encoding.specs.Encoding.{number}
use Rattle.rule_sheet.specs.declared.Counts.{Counts}
use Rattle.rule_job.specs.Files.{quads_at, labels_at, trailer_at, trailer_size, word_at, good_starts, counts_by, starts_at, trailer_by, trailer_of}
use Rattle.std.specs.Prelude.{Some, None, Option}
use Rattle.rule_job.specs.declared.Trailer.{Trailer}

-- the starts p, q, l and t and the trailer's length z, in a file of n bytes, are those of these counts
pub record Starts (c : Counts) (p q l t z n : ℕ) : Type 0 where
  pub points : p ≡ 64
  pub quads : q ≡ quads_at c
  pub labels : l ≡ labels_at c
  pub trailer : t ≡ trailer_at c
  pub size : trailer_at c + z ≡ n

-- what the test of starts leaves
record Good (p q l t z n : ℕ) : Type 0 where
  pub points : p ≡ 64
  pub p≤q : p ≤ q
  pub whole_points : (q - p) % 24 ≡ 0
  pub q≤l : q ≤ l
  pub whole_quads : (l - q) % 16 ≡ 0
  pub l≤t : l ≤ t
  pub size : t + z ≡ n

good-is : (p q l t z n : ℕ) → good_starts p q l t z n ≡ true → Good p q l t z n
unfolding good_starts
good-is p q l t z n e = record {
  points = eqb-true _ _ (search (and_left, and_right) depth 9);
  p≤q = leb-true _ _ (search (and_left, and_right));
  whole_points = eqb-true _ _ (search (and_left, and_right));
  q≤l = leb-true _ _ (search (and_left, and_right));
  whole_quads = eqb-true _ _ (search (and_left, and_right));
  l≤t = leb-true _ _ (search (and_left, and_right));
  size = eqb-true _ _ (search (and_left, and_right));
}

abbrev told : ℕ → ℕ → ℕ → ℕ → Counts
told p q l t = record { points = (q - p) / 24; quads = (l - q) / 16; labels = t - l }

good-starts : (p q l t z n : ℕ) → Good p q l t z n → Starts (told p q l t) p q l t z n
good-starts p q l t z n G =
    let e = G.points in
    record {
      points = e;
      quads = omega (arith, e, G.p≤q, G.whole_points);
      labels = omega (arith, e, G.p≤q, G.whole_points, G.q≤l, G.whole_quads);
      trailer = omega (arith, e, G.p≤q, G.whole_points, G.q≤l, G.whole_quads, G.l≤t);
      size = omega (arith, e, G.p≤q, G.whole_points, G.q≤l, G.whole_quads, G.l≤t, G.size);
    }

found-starts : (p q l t z n : ℕ) (r s : Option ℕ) (c : Counts) → counts_by p q l t z n r ≡ Some (record { counts = c; sum = s }) → Starts c p q l t z n × (r ≡ s)
unfolding counts_by
found-starts p q l t z n r s c = go (good_starts p q l t z n) refl
  where
    go : (b : Bool) → good_starts p q l t z n ≡ b → cond {A = Option Trailer} b (Some (record { counts = told p q l t; sum = r })) None ≡ Some (record { counts = c; sum = s }) → Starts c p q l t z n × (r ≡ s)
    go true g e =
        let d : ◌≡◌ {A = Trailer} (record { counts = told p q l t; sum = r }) (record { counts = c; sum = s }) = cc in
        let x : told p q l t ≡ c = ap (λ (u : Trailer). u.counts) d in
        (rw (← x) (good-starts p q l t z n (good-is p q l t z n g)), ap (λ (u : Trailer). u.sum) d)
    go false g e = absurd (let x : ◌≡◌ {A = ℕ} 0 1 = cc in omega arith)

-- what is said of the sum stands before the trailer's length
abbrev pub Said : Option ℕ → List ℕ → Type 0
Said None F = Unit {0}
Said (Some n) F = n ≡ number (part (length F - 12) 8 F)

-- the starts from the place a on
abbrev pub StartsFrom : ℕ → ℕ → List ℕ → Counts → Type 0
StartsFrom a z F c = Starts c (word_at a F) (word_at (a + 4) F) (word_at (a + 8) F) (word_at (a + 12) F) z (length F)

-- a file that ends with the trailer of these counts, with s said of the sum
pub record EndsWith (F : List ℕ) (c : Counts) (s : Option ℕ) : Type 0 where
  pub starts : StartsFrom (length F - trailer_size s) (trailer_size s) F c
  pub said : Said s F
  pub tail : word_at (length F - 4) F ≡ trailer_size s

pub found_in : (F : List ℕ) (c : Counts) (s : Option ℕ) → trailer_of F ≡ Some (record { counts = c; sum = s }) → EndsWith F c s
unfolding trailer_of trailer_by starts_at
found_in F c s = go (ltb (length F) 84)
  where
    z : ℕ
    z = word_at (length F - 4) F

    older : z ≡ 20 → starts_at (length F - 20) 20 None F ≡ Some (record { counts = c; sum = s }) → EndsWith F c s
    older h e =
        let f = found-starts _ _ _ _ 20 (length F) None s c e in
        rw (← f.1) (record { starts = f.0; said = tt; tail = h })

    newer : z ≡ 28 → starts_at (length F - 28) 28 (Some (number (part (length F - 12) 8 F))) F ≡ Some (record { counts = c; sum = s }) → EndsWith F c s
    newer h e =
        let f = found-starts _ _ _ _ 28 (length F) (Some (number (part (length F - 12) 8 F))) s c e in
        rw (← f.1) (record { starts = f.0; said = refl; tail = h })

    by : (a b : Bool) → eqb z 20 ≡ a → eqb z 28 ≡ b
        → cond a (starts_at (length F - 20) 20 None F) (cond b (starts_at (length F - 28) 28 (Some (number (part (length F - 12) 8 F))) F) None) ≡ Some (record { counts = c; sum = s })
        → EndsWith F c s
    by true b x y e = older (eqb-true z 20 x) e
    by false true x y e = newer (eqb-true z 28 y) e
    by false false x y e = absurd (let n : ◌≡◌ {A = ℕ} 0 1 = cc in omega arith)

    go : (b : Bool) → cond b None (trailer_by z F) ≡ Some (record { counts = c; sum = s }) → EndsWith F c s
    go true e = absurd (let x : ◌≡◌ {A = ℕ} 0 1 = cc in omega arith)
    go false e = by (eqb z 20) (eqb z 28) refl refl e

-- The count of `regularize` stays below the largest usize on every accepted sheet, closed or not. Assumes nothing.
use mathlib.Core.Path.{◌≡◌, refl, ap, ◌∙◌}
use Prim.Native.Nat.{ℕ, suc, ◌+◌, ◌*◌, ◌≤◌}
use native.Mathlib.Nat.{suc-mul, zero-mul, add-mul, mul-one}
use mathlib.Core.Bool.{false}
use mathlib.Core.List.{List}
use native.Mathlib.Omega.{arith}
use lib.ListN.{length, replicate}
use Rattle.rule_sheet.specs.Quads.{Quad, valence}
use Rattle.rule_sheet.specs.Sheet.{Sheet}
use Rattle.rule_sheet.specs.Squared.{squared}
use Rattle.rule_sheet.specs.Claims.{Below, Differ, All}
use Rattle.rule_passes.specs.Runs.{capped, run}
use Rattle.rule_regularize.specs.Swaps.{swap_one, swap_two, Fits, swap_pass, swap_run}
use Rattle.rule_regularize.proofs.Passes.{Bar, Pass, stop, one, two}
use Rattle.rule_regularize.proofs.SwapPass.{Inv, inv-more, inv-start, Stepped, step-one, step-two}
use Rattle.rule_regularize.proofs.Gains.{half_of}
use Rattle.rule_regularize.proofs.Sweep.{Barred, pass-made}
use Rattle.rule_passes.proofs.Runs.{Ran, run-keeps, capped_small}
use Rattle.rule_sheet.specs.Sound.{AcceptedSheet}
use Rattle.safety_rules.proofs.Fine.{Fine, fine_of}
use Rattle.safety_rules.proofs.Caps.{squared-le, product_le}

-- what swaps keep of quads in range with different corners, w being the least fall of the squared sum
pub record Fell (n w : ℕ) (S T : List Quad) : Type 0 where
  pub below : Below n T
  pub four : All Differ T
  pub len : length T ≡ length S
  pub falls : squared n T + w ≤ squared n S

-- one more swap in front
before : (n m c va vb vc vd : ℕ) (S S₁ T : List Quad) → length S₁ ≡ length S → squared n S₁ + 2 * (va + vb) ≡ squared n S + (2 * (vc + vd) + 4) → vc + vd + 2 + m ≤ va + vb
    → Fell n (2 * (c * m)) S₁ T → Fell n (2 * (suc c * m)) S T
before n m c va vb vc vd S S₁ T l e g k = record { below = k.below; four = k.four; len = k.len ∙ l; falls = omega (arith, k.falls, suc-mul c m) }

pub pass-fell : (S0 : List Quad) (labels : List ℕ) (m n : ℕ) (S : List Quad) (B : ℕ → Type 0) (T : List Quad) (c : ℕ) → Pass S0 labels m S B T c → Inv S0 S B → All Differ S → Below n S → Fell n (2 * (c * m)) S T
pass-fell S0 labels m n S B T c stop inv d b = record { below = b; four = d; len = refl; falls = omega (arith, zero-mul m) }
pass-fell S0 labels m n S B T c (one {B₁ = B₁} {c = k} i j h0 h1 h2 h3 h4 h5 hx op g more rest) inv d b =
    let U = swap_one S i j h0 h1 h2 h3 h4 h5 in
    let t : Stepped labels S0 S U (Bar S0 B h0 h1 h2 h3 h4 h5) h0 h3 h1 h4 = step-one labels S0 S B i j h0 h1 h2 h3 h4 h5 hx inv op in
    before n m k (valence S h0) (valence S h3) (valence S h1) (valence S h4) S U T t.len (t.squares n b) g
    (pass-fell S0 labels m n U B₁ T k rest (inv-more S0 U (Bar S0 B h0 h1 h2 h3 h4 h5) B₁ more t.inv) (t.four d) (t.below n b))
pass-fell S0 labels m n S B T c (two {B₁ = B₁} {c = k} i j h0 h1 h2 h3 h4 h5 hx op g more rest) inv d b =
    let U = swap_two S i j h0 h1 h2 h3 h4 h5 in
    let t : Stepped labels S0 S U (Bar S0 B h0 h1 h2 h3 h4 h5) h0 h3 h2 h5 = step-two labels S0 S B i j h0 h1 h2 h3 h4 h5 hx inv op in
    before n m k (valence S h0) (valence S h3) (valence S h2) (valence S h5) S U T t.len (t.squares n b) g
    (pass-fell S0 labels m n U B₁ T k rest (inv-more S0 U (Bar S0 B h0 h1 h2 h3 h4 h5) B₁ more t.inv) (t.four d) (t.below n b))

-- the passes of a call
module _ (n : ℕ) (labels : List ℕ) (m : ℕ) (fits : Fits) where
  abbrev pub count : List Quad → ℕ
  count S = (swap_pass n labels m fits S).count

  abbrev pub next : List Quad → List Quad
  next S = (swap_pass n labels m fits S).quads

  abbrev pub Proper : List Quad → Type 0
  Proper S = Below n S × All Differ S

  abbrev pub Falls : List Quad → List Quad → ℕ → Type 0
  Falls S T c = (length T ≡ length S) × (squared n T + 2 * (c * half_of m) ≤ squared n S)

  one-pass : (S : List Quad) → Proper S → Proper (next S) × Falls S (next S) (count S)
  one-pass S (b, d) =
      let k : Fell n (2 * (count S * half_of m)) S (next S) = pass-fell S labels (half_of m) n S (Barred (replicate (length S) false)) (next S) (count S) (pass-made n labels m fits S) (inv-start S (Barred (replicate (length S) false))) d b in
      ((k.below, k.four), (k.len, k.falls))

  pub passes-ran : (k : ℕ) (S : List Quad) → Proper S → Ran count next Proper Falls S 0 (run count next k S 0)
  passes-ran k S p = run-keeps count next Proper Falls (λ T g. (refl, omega (arith, zero-mul (half_of m)))) (λ T U W c d x y. (y.0 ∙ x.0, omega (arith, x.1, y.1, add-mul c d (half_of m)))) one-pass k S 0 p

  all-passes : (k : ℕ) (S : List Quad) → Proper S → Falls S (swap_run n labels m fits k S).left (swap_run n labels m fits k S).count
  all-passes k S p = let r = passes-ran k S p in (r.kept.0, omega (arith, r.kept.1, ap (λ c. c * half_of m) r.counts))

pub uncapped : (s : Sheet) (fits : Fits) (k : ℕ) → AcceptedSheet s
    → capped (swap_run (length s.points) s.labels 1 fits k s.quads).count ≡ (swap_run (length s.points) s.labels 1 fits k s.quads).count
uncapped s fits k a =
    let f : Fine s = fine_of s a in
    let r = all-passes (length s.points) s.labels 1 fits k s.quads (f.in_range, f.differ) in
    capped_small _ (omega (
      arith,
      r.1,
      mul-one (swap_run (length s.points) s.labels 1 fits k s.quads).count,
      squared-le (length s.points) s.quads f.differ,
      product_le (length s.points) (length s.quads) f.few_points f.few_quads,
    ))

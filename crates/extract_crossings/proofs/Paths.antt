-- Paths: a crossing is found again by its path, a path is a number of n bits, and the turns of the two loops. Assumes nothing.
use Prim.Native.Nat.{ℕ, zero, suc, ◌+◌, ◌-◌, ◌*◌, ◌/◌, ◌%◌, ◌^◌, ◌<◌, ◌≤◌}
use mathlib.Core.Path.{◌≡◌, refl, ap, ◌∙◌, sym}
use mathlib.Core.Bool.{Bool, true, false, cond}
use lib.Dec.{eqb}
use native.Mathlib.Omega.{arith}
use native.Mathlib.Numerals.{add-one}
use native.Mathlib.Nat.{pow-suc}
use lib.Pow.{pow_mono}
use mir.Val.{bool_byte}
use Rattle.std.proofs.Math.Pow.{shl_exact}
use Rattle.rule_extract.specs.declared.Grid.{Grid}
use Rattle.rule_extract.specs.declared.Site.{Site}
use Rattle.rule_extract.specs.declared.Span.{Span}
use Rattle.rule_extract.specs.Crossings.{keeps, narrowed, halved, halvings, edge_span, crossing_of, mid_of}
use Rattle.extract_crossings.specs.Crossings.{path_from, replay_from, path_of}

half-bit : (k : Bool) (q : ℕ) → (cond k 1 0 + 2 * q) / 2 ≡ q
half-bit true q = omega arith
half-bit false q = omega arith

low_bit : (k : Bool) (q : ℕ) → eqb ((cond k 1 0 + 2 * q) % 2) 1 ≡ k
low_bit true q = let e : (1 + 2 * q) % 2 ≡ 1 = omega arith in rw e refl
low_bit false q = let e : (0 + 2 * q) % 2 ≡ 0 = omega arith in rw e refl

-- a crossing is found again by its path
pub replay-path : (n : ℕ) (g : Grid) (sign : Bool) (s : Span) → replay_from n s (path_from n g sign s) ≡ halved n g sign s
unfolding path_from replay_from halved
replay-path zero g sign s = refl
replay-path (suc n) g sign s =
    rw (low_bit (keeps g sign s) (path_from n g sign (narrowed s (keeps g sign s))), half-bit (keeps g sign s) (path_from n g sign (narrowed s (keeps g sign s))))
    (replay-path n g sign (narrowed s (keeps g sign s)))

pub replay-crossing : (g : Grid) (c : Site) (axis : ℕ) → replay_from halvings (edge_span g c axis) (path_of g c axis) ≡ crossing_of g c axis
unfolding crossing_of
replay-crossing g c axis = replay-path halvings g _ (edge_span g c axis)

-- ---- the turns, at the code's `halvings - i`

-- n halvings more are left where one less is left after a turn
rest_of : (i : ℕ) → i < halvings → halvings - i ≡ suc (halvings - (i + 1))
rest_of i h = omega arith

pub replay-step : (i : ℕ) (s : Span) (p : ℕ) → i < halvings
    → replay_from (halvings - i) s p ≡ replay_from (halvings - (i + 1)) (narrowed s (eqb (p % 2) 1)) (p / 2)
unfolding replay_from
replay-step i s p h = rw (rest_of i h)

pub replay-none : (i : ℕ) (s : Span) (p : ℕ) → i ≡ halvings → replay_from (halvings - i) s p ≡ mid_of s
unfolding replay_from
replay-none i s p e = rw e

-- the search for a path once i of the halvings are done
pub record Searching (g : Grid) (sign : Bool) (all : ℕ) (s : Span) (path i : ℕ) : Type 0 where
  pub path< : path < 2 ^ i
  pub is : path + 2 ^ i * path_from (halvings - i) g sign s ≡ all

pub searching-first : (g : Grid) (sign : Bool) (s : Span) → Searching g sign (path_from halvings g sign s) s 0 0
searching-first g sign s = record { path< = omega arith; is = omega arith }

-- a decision shifted to its place
shifted : (k : Bool) (i : ℕ) → i < 32 → bool_byte k * 2 ^ i % 2 ^ 32 ≡ 2 ^ i * cond k 1 0
shifted true i h = shl_exact 1 i 32 (omega arith) (omega arith) ∙ omega arith
shifted false i h = shl_exact 1 i 32 (omega arith) (omega arith) ∙ omega arith

below : (k : Bool) (path q : ℕ) → path < q → path + q * cond k 1 0 < q * 2
below true path q h = omega arith
below false path q h = omega arith

unfolded : (i : ℕ) (g : Grid) (sign : Bool) (s : Span) → i < halvings
    → path_from (halvings - i) g sign s ≡ cond (keeps g sign s) 1 0 + 2 * path_from (halvings - (i + 1)) g sign (narrowed s (keeps g sign s))
unfolding path_from
unfolded i g sign s h = rw (rest_of i h)

spread : (path q b r : ℕ) → path + q * b + q * 2 * r ≡ path + q * (b + 2 * r)
spread path q b r = omega arith

double : (i : ℕ) → 2 ^ (i + 1) ≡ 2 ^ i * 2
double i = rw (add-one i, pow-suc 2 i)

turned : {g : Grid} {sign : Bool} {all : ℕ} {s : Span} {path i : ℕ} → Searching g sign all s path i → i < halvings
    → Searching g sign all (narrowed s (keeps g sign s)) (path + 2 ^ i * cond (keeps g sign s) 1 0) (i + 1)
turned {g} {sign} {all} {s} {path} {i} S h = record {
  path< = rw (double i) (below (keeps g sign s) path (2 ^ i) S.path<);
  is = rw (double i) (spread path (2 ^ i) (cond (keeps g sign s) 1 0) _ ∙ ap (λ (q : ℕ). path + 2 ^ i * q) (sym (unfolded i g sign s h)) ∙ S.is);
}

pub searching-turn : {g : Grid} {sign : Bool} {all : ℕ} {s t : Span} {path i k : ℕ} {keep : Bool} → Searching g sign all s path i → i < halvings
    → keep ≡ keeps g sign s → t ≡ narrowed s keep → k ≡ bool_byte keep → Searching g sign all t (path + k * 2 ^ i % 2 ^ 32) (i + 1)
searching-turn {i = i} {keep = keep} S h e d f = rw (d, f, shifted keep i h, e) (turned S h)

pub searching-room : {g : Grid} {sign : Bool} {all : ℕ} {s t : Span} {path i k : ℕ} {keep : Bool} → Searching g sign all s path i → i < halvings
    → keep ≡ keeps g sign s → t ≡ narrowed s keep → k ≡ bool_byte keep → path + k * 2 ^ i % 2 ^ 32 < 2 ^ 32
searching-room {i = i} S h e d f =
    let T = searching-turn S h e d f in
    let l : 2 ^ (i + 1) ≤ 2 ^ 32 = pow_mono {j = 32} (omega arith) in
    omega (arith, T.path<)

pub searching-end : {g : Grid} {sign : Bool} {all : ℕ} {s : Span} {path i : ℕ} → Searching g sign all s path i → i ≡ halvings → path ≡ all
unfolding path_from
searching-end {g} {sign} {all} {s} {path} {i} S e = let q : path + 2 ^ halvings * 0 ≡ all = rw e at S.is in omega (arith, q)

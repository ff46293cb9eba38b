-- The centres of the quads of one label, and the tries of a copy, one turn at a time. Assumes nothing.
use Prim.Native.Nat.{ℕ, zero, suc, ◌+◌, ◌-◌, ◌/◌, ◌≤◌, ◌<◌}
use mathlib.Core.Path.{◌≡◌, refl, sym, ap, ◌∙◌}
use mathlib.Core.Bool.{Bool, true, false}
use mathlib.Core.List.{List, [], ◌∷◌, ◌++◌, map, map-append, append-nil}
use native.Mathlib.Omega.{arith}
use native.Mathlib.Numerals.{sub-one, add-one}
use lib.ListN.{length, get_or, take, length-append}
use lib.Seq.{length-take-le, take-suc, take-length}
use borrow.Author.Tests.{eq-eqb, ne_eqb}
use lib.Ieee.{Float}
use Rattle.lists.specs.Sort.{cons_if, keep}
use Rattle.points.specs.declared.Point.{Point}
use Rattle.points.specs.Points.{◌⊗◌, add_p, mul_p, origin, point_at, sub_p}
use Rattle.band.specs.declared.Band.{Band}
use Rattle.setting.specs.Settings.{Setting, setting_of}
use Rattle.band.specs.Bands.{length_of}
use Rattle.projection.specs.Project.{longest_move, look_count, project_with, project_of}
use Rattle.smoothing.specs.Smooth.{sum_of, mean}
use Rattle.smoothing.specs.Rounded.{pointwise}
use Rattle.subdivide_points.specs.Steps.{corner_centre, Spans}
use Rattle.smoothing.proofs.ByPoints.{origin-by}
use Rattle.smoothing.proofs.Coordinates.{sum-snoc}
use Rattle.lists.proofs.Laws.{keep_append, keep-le}
use Rattle.rows_copies.specs.declared.Centres.{Centres}
use Rattle.rule_rows.specs.Rows.{or_else, try_from}
use Rattle.numeric.specs.Num.{half}
use Rattle.rows_copies.specs.Steps.{of_label, centres_of, with_centre, inward_at}
use Rattle.std.specs.Prelude.{Some, None, Option}

-- ---- the centres of the quads of one label

centres-add : (P : List Float) (Q l : List ℕ) (c : ℕ) → centres_of P Q (l ++ (c ∷ [])) ≡ with_centre (centres_of P Q l) (corner_centre P Q c)
unfolding centres_of with_centre
centres-add P Q l c = rw (map-append (corner_centre P Q) l (c ∷ []), sum-snoc pointwise (map (corner_centre P Q) l), length-append l (c ∷ []))

count_is : (P : List Float) (Q l : List ℕ) → (centres_of P Q l).count ≡ length l
unfolding centres_of
count_is P Q l = refl

-- the centres among the first j of the corners k, and among one more
pub centres-none : (P : List Float) (Q : List ℕ) (p : Point) → p ≡ origin → record { sum = p; count = 0 } ≡ centres_of P Q []
unfolding centres_of sum_of
centres-none P Q p e = rw (e, origin-by)

module _ (P : List Float) (Q labels : List ℕ) (l : ℕ) (k : List ℕ) (j : ℕ) (c : Centres) (I : c ≡ centres_of P Q (keep (of_label labels l) (take j k))) (h : j < length k) where
  pub centres-few : c.count ≤ j
  centres-few =
      let n : length (take j k) ≡ j = length-take-le j k (omega arith) in
      rw (I, count_is P Q (keep (of_label labels l) (take j k))) (omega (arith, keep-le (of_label labels l) (take j k)))

  more : (b : Bool) → of_label labels l (get_or k j 0) ≡ b → keep (of_label labels l) (take (j + 1) k) ≡ keep (of_label labels l) (take j k) ++ cons_if b (get_or k j 0) []
  more b e = rw (add-one j, take-suc k j 0 h, keep_append (of_label labels l) (take j k) (get_or k j 0 ∷ []), e)

  pub centres-more : (y : ℕ) (p : Point) (d : Centres) → y ≡ get_or labels (get_or k j 0 / 4) 0 → y ≡ l → p ≡ corner_centre P Q (get_or k j 0) → d ≡ with_centre c p
      → d ≡ centres_of P Q (keep (of_label labels l) (take (j + 1) k))
  centres-more y p d ey e ep ed =
      ed ∙ rw (more true (eq-eqb (get_or labels (get_or k j 0 / 4) 0) l (sym ey ∙ e)), ep, I, centres-add P Q (keep (of_label labels l) (take j k)) (get_or k j 0))

  pub centres-stay : (y : ℕ) → y ≡ get_or labels (get_or k j 0 / 4) 0 → (y ≡ l → ⊥) → c ≡ centres_of P Q (keep (of_label labels l) (take (j + 1) k))
  centres-stay y ey n = rw (more false (ne_eqb (get_or labels (get_or k j 0 / 4) 0) l (λ e. n (ey ∙ e))), append-nil) I

pub centres-end : (P : List Float) (Q labels : List ℕ) (l : ℕ) (k : List ℕ) (j : ℕ) (c : Centres) → c ≡ centres_of P Q (keep (of_label labels l) (take j k)) → j ≡ length k → c ≡ centres_of P Q (keep (of_label labels l) k)
centres-end P Q labels l k j c e h = e ∙ ap (λ (x : List ℕ). centres_of P Q (keep (of_label labels l) x)) (rw h (take-length k))

-- ---- the tries

pub try-none : (n : ℕ) (b : Setting) (p d : Point) (mask : ℕ) (step : Float) → n ≤ 0 → try_from n b p d mask step ≡ None
unfolding try_from
try-none zero b p d mask step h = refl
try-none (suc n) b p d mask step h = absurd (omega arith)

pub try-step : (n : ℕ) (b : Band) (len : Float) (p d q s : Point) (mask : ℕ) (step : Float) (r : Option Point) → 0 < n → len ≡ length_of b → s ≡ mul_p d step → q ≡ add_p p s
    → r ≡ project_with b len longest_move look_count q mask → try_from n (setting_of b) p d mask step ≡ or_else r (try_from (n - 1) (setting_of b) p d mask (step ⊗ half))
unfolding try_from project_of
try-step zero b len p d q s mask step r h el es eq er = absurd (omega arith)
try-step (suc n) b len p d q s mask step r h el es eq er = rw (sub-one, er, el, eq, es)

module _ (n : ℕ) (b : Band) (len : Float) (p d q s : Point) (mask : ℕ) (step : Float) (r z : Option Point) (e : try_from n (setting_of b) p d mask step ≡ z) (h : 0 < n) (el : len ≡ length_of b) (es : s ≡ mul_p d step) (eq : q ≡ add_p p s)
    (er : r ≡ project_with b len longest_move look_count q mask) where
  pub try-found : (x : Point) → r ≡ Some x → r ≡ z
  try-found x o = o ∙ ap (λ (y : Option Point). or_else y (try_from (n - 1) (setting_of b) p d mask (step ⊗ half))) (sym o) ∙ sym (try-step n b len p d q s mask step r h el es eq er) ∙ e

  pub try-again : r ≡ None → try_from (n - 1) (setting_of b) p d mask (step ⊗ half) ≡ z
  try-again o = ap (λ (y : Option Point). or_else y (try_from (n - 1) (setting_of b) p d mask (step ⊗ half))) (sym o) ∙ sym (try-step n b len p d q s mask step r h el es eq er) ∙ e

-- ---- towards the centres

pub inward-by : {nq : ℕ} {Q : List ℕ} {v : ℕ} {k : List ℕ} (P : List Float) (labels : List ℕ) (l : ℕ) (c : Centres) (m p r : Point) → Spans nq Q v k → c ≡ centres_of P Q (keep (of_label labels l) k)
    → m ≡ mean pointwise c.sum c.count → p ≡ point_at P v → r ≡ sub_p m p → r ≡ inward_at nq P Q labels v l
unfolding inward_at
inward-by P labels l c m p r S ec em ep er = rw (← S.is, ← ec, ← ep, ← em) er

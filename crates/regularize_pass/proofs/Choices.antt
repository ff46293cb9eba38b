-- The choice of a diagonal from what the slices hold is the rule's. Assumes nothing.
use Prim.Native.Nat.{ℕ, ◌+◌, ◌*◌, ◌/◌, ◌%◌, ◌<◌}
use mathlib.Core.Path.{◌≡◌, refl, sym, ap, ap₂, ◌∙◌}
use mathlib.Core.Bool.{Bool, true, false, ◌||◌, true≢false}
use mathlib.Core.List.{List}
use native.Mathlib.Omega.{arith}
use lib.Dec.{leb}
use lib.IntN.{pos}
use lib.ListN.{get_or, take}
use lib.Seq.{get_or-take}
use lib.Signed.{le_z}
use lib.Ieee.{Float}
use Rattle.std.specs.Prelude.{Option, None}
use Rattle.lists.proofs.Laws.{get_or-tab}
use Rattle.lists.proofs.Regions.{part-get}
use Rattle.points.specs.Points.{point_at}
use Rattle.rule_sheet.specs.Quads.{Quad, valence}
use Rattle.rule_sheet.specs.Flat.{quad_at, quads_of}
use Rattle.rule_regularize.specs.Swaps.{swap_gain, may}
use Rattle.rule_regularize.proofs.Gains.{gain-least, gain-more, gain-higher, half-small}
use Rattle.regularize_shapes.specs.declared.Diagonal.{Diagonal}
use Rattle.regularize_shapes.specs.declared.Diagonal.TheVariants.{First, Second}
use Rattle.regularize_shapes.specs.declared.Six.{Six}
use Rattle.rule_regularize.specs.declared.Held.{Held}
use Rattle.rule_regularize.specs.SwapFits.{held_of, next_fits}
use Rattle.regularize_shapes.specs.SwapFits.{hex_of, SixBelow}
use Rattle.regularize_shapes.proofs.SwapFits.{swap-fits}
use Rattle.pass_map.specs.Regions.{start_in}
use Rattle.regularize_swap.specs.Regions.{sum_in, free_in}
use Rattle.regularize_swap.specs.Steps.{open_in, six_at, is_hexagon}
use Rattle.regularize_pass.specs.declared.Trial.{Trial}
use Rattle.regularize_pass.specs.Steps.{fits_in, pick_of, may_take, best_of, choice_in}
use Rattle.regularize_pass.specs.Conditions.{TryAsks}

-- ---- the valences in the work slice

module _ {np nq : ℕ} {t : Trial} {P : List Float} {Q labels w : List ℕ} (T : TryAsks np nq t P Q labels w) where
  sum_is : (u v : ℕ) → u < np → v < np → sum_in np nq w u v ≡ valence (quads_of nq Q) u + valence (quads_of nq Q) v
  sum_is u v hu hv =
      let N = T.holds.valences in
      ap₂ ◌+◌ (part-get 0 u N hu ∙ get_or-tab (valence (quads_of nq Q)) np u 0 hu) (part-get 0 v N hv ∙ get_or-tab (valence (quads_of nq Q)) np v 0 hv)

  module _ (i j : ℕ) (h : Six) (hi : i < nq) (hj : j < nq) (B : SixBelow np h) where
    -- what both diagonals are measured by
    abbrev pub held_in : Held
    held_in = held_of t.field t.length (point_at P) (get_or labels i 0) (quad_at Q i) (quad_at Q j) (hex_of h)

    fits-is : (k : ℕ) (positive : Bool) → fits_in t np nq P labels (quads_of nq Q) i j (hex_of h) k positive ≡ next_fits (point_at P) (hex_of h) k held_in positive
    fits-is k positive =
        sym (swap-fits t.field t.length np nq P Q (take nq labels) i j h k positive T.holds.sheet hi hj B)
        ∙ ap (λ (l : ℕ). next_fits (point_at P) (hex_of h) k (held_of t.field t.length (point_at P) l (quad_at Q i) (quad_at Q j) (hex_of h)) positive) (get_or-take nq labels i 0 hi)

    abbrev S0 : List Quad
    S0 = start_in np nq w

    -- the valences now
    abbrev v : ℕ → ℕ
    v = valence (quads_of nq Q)

    gain-is : (a b : ℕ) → le_z (pos t.least) (swap_gain (v h.h0) (v h.h3) (v a) (v b)) ≡ leb (v a + v b + 2 + t.least) (v h.h0 + v h.h3)
    gain-is a b = gain-least (v h.h0) (v h.h3) (v a) (v b) t.least ∙ ap (λ (m : ℕ). leb (v a + v b + 2 + m) (v h.h0 + v h.h3)) (half-small t.least T.least≤)

    may-one : may S0 (take nq labels) t.least (fits_in t np nq P labels) (quads_of nq Q) i j (hex_of h) 1 h.h0 h.h3 h.h1 h.h4 ≡ may_take np nq P h First held_in (open_in np nq t.least h First w) w
    may-one = rw (gain-is h.h1 h.h4, gain-more (v h.h0) (v h.h3) (v h.h1) (v h.h4), sum_is h.h1 h.h4 B.h1< B.h4<, sum_is h.h0 h.h3 B.h0< B.h3<, fits-is 1)

    may-two : may S0 (take nq labels) t.least (fits_in t np nq P labels) (quads_of nq Q) i j (hex_of h) 2 h.h0 h.h3 h.h2 h.h5 ≡ may_take np nq P h Second held_in (open_in np nq t.least h Second w) w
    may-two = rw (gain-is h.h2 h.h5, gain-more (v h.h0) (v h.h3) (v h.h2) (v h.h5), sum_is h.h2 h.h5 B.h2< B.h5<, sum_is h.h0 h.h3 B.h0< B.h3<, fits-is 2)

    pick_is : best_of np nq P h held_in (open_in np nq t.least h First w) (open_in np nq t.least h Second w) w
        ≡ pick_of S0 (take nq labels) t.least (fits_in t np nq P labels) (quads_of nq Q) i j (hex_of h)
    unfolding pick_of
    pick_is = rw (may-one, may-two, gain-higher (v h.h0) (v h.h3) (v h.h1) (v h.h4) (v h.h2) (v h.h5), sum_is h.h2 h.h5 B.h2< B.h5<, sum_is h.h1 h.h4 B.h1< B.h4<)

    pub pick-none : (first second : Bool) → first ≡ open_in np nq t.least h First w → second ≡ open_in np nq t.least h Second w → (first || second) ≡ false
        → None ≡ pick_of S0 (take nq labels) t.least (fits_in t np nq P labels) (quads_of nq Q) i j (hex_of h)
    pick-none first second ef es e = neither first second e ∙ ap₂ (λ (x y : Bool). best_of np nq P h held_in x y w) ef es ∙ pick_is
      where
        neither : (x y : Bool) → (x || y) ≡ false → None ≡ best_of np nq P h held_in x y w
        neither true y e = absurd (true≢false e)
        neither false true e = absurd (true≢false e)
        neither false false e = refl

    pub pick-best : (first second : Bool) (held : Held) (r : Option Diagonal) → first ≡ open_in np nq t.least h First w → second ≡ open_in np nq t.least h Second w → held ≡ held_in
        → r ≡ best_of np nq P h held first second w → r ≡ pick_of S0 (take nq labels) t.least (fits_in t np nq P labels) (quads_of nq Q) i j (hex_of h)
    pick-best first second held r ef es eh e =
        e ∙ ap (λ (x : Held). best_of np nq P h x first second w) eh ∙ ap₂ (λ (x y : Bool). best_of np nq P h held_in x y w) ef es ∙ pick_is

  -- ---- the corners of an edge

  module _ (c d : ℕ) (hc : c < 4 * nq) (hd : d < 4 * nq) where
    pub six-below : SixBelow np (six_at Q c d)
    six-below =
        let p = T.holds.sheet.points in
        record {
          h0< = p c hc;
          h1< = p (d / 4 * 4 + (d + 2) % 4) (omega arith);
          h2< = p (d / 4 * 4 + (d + 3) % 4) (omega arith);
          h3< = p (c / 4 * 4 + (c + 1) % 4) (omega arith);
          h4< = p (c / 4 * 4 + (c + 2) % 4) (omega arith);
          h5< = p (c / 4 * 4 + (c + 3) % 4) (omega arith);
        }

  module _ (c d : ℕ) where
    pub choice-barred : (f : Bool) → f ≡ free_in np nq labels w (c / 4) (d / 4) → f ≡ false → None ≡ choice_in np nq t P Q labels c d w
    unfolding choice_in
    choice-barred f e z = rw (← e, z) refl

    pub choice-bent : (f g : Bool) (h : Six) → f ≡ free_in np nq labels w (c / 4) (d / 4) → f ≡ true → h ≡ six_at Q c d → g ≡ is_hexagon Q d h → g ≡ false → None ≡ choice_in np nq t P Q labels c d w
    unfolding choice_in
    choice-bent f g h e z eh eg y =
        let a : free_in np nq labels w (c / 4) (d / 4) ≡ true = sym e ∙ z in
        let b : is_hexagon Q d (six_at Q c d) ≡ false = ap (is_hexagon Q d) (sym eh) ∙ sym eg ∙ y in
        rw (a, b) refl

    pub choice-told : (f g : Bool) (h : Six) (r : Option Diagonal) → f ≡ free_in np nq labels w (c / 4) (d / 4) → f ≡ true → h ≡ six_at Q c d → g ≡ is_hexagon Q d h → g ≡ true
        → r ≡ pick_of (start_in np nq w) (take nq labels) t.least (fits_in t np nq P labels) (quads_of nq Q) (c / 4) (d / 4) (hex_of h) → r ≡ choice_in np nq t P Q labels c d w
    unfolding choice_in
    choice-told f g h r e z eh eg y er =
        let a : free_in np nq labels w (c / 4) (d / 4) ≡ true = sym e ∙ z in
        let b : is_hexagon Q d (six_at Q c d) ≡ true = ap (is_hexagon Q d) (sym eh) ∙ sym eg ∙ y in
        rw (a, b)
        (er ∙ ap (λ (x : Six). pick_of (start_in np nq w) (take nq labels) t.least (fits_in t np nq P labels) (quads_of nq Q) (c / 4) (d / 4) (hex_of x)) eh)

-- The trial of the two corners of an edge leaves the state that the rule gives. Assumes nothing.
use Prim.Native.Nat.{ℕ, zero, suc, ◌+◌, ◌*◌, ◌/◌, ◌%◌, ◌<◌}
use mathlib.Core.Path.{◌≡◌, refl, sym, ap, ap₂, ◌∙◌}
use mathlib.Core.Bool.{Bool, true, false, cond, not, ◌&&◌}
use mathlib.Core.Option.{none}
use mathlib.Core.List.{List, [], ◌∷◌}
use native.Mathlib.Omega.{arith}
use native.Mathlib.Numerals.{add-one}
use lib.Dec.{eqb}
use lib.Signed.{lt_z}
use lib.ListN.{length, get_or, take}
use lib.Seq.{get_or-take}
use lib.Ieee.{Float}
use borrow.Author.Tests.{eqb-true}
use Rattle.std.specs.Prelude.{Option, None, Some}
use Rattle.lists.proofs.Every.{and_left, and_right}
use Rattle.lists.proofs.Regions.{kept_refl}
use Rattle.rule_sheet.specs.Quads.{Quad, quad, corners}
use Rattle.rule_sheet.specs.Flat.{quad_at, quads_of}
use Rattle.sheet.specs.Flat.{from, to, before}
use Rattle.rule_regularize.specs.Swaps.{Fits, State, six_differ, bar_list, gain_in, may, swap_quads}
use Rattle.rule_sheet.specs.Quads.{turn}
use Rattle.rule_passes.specs.Choices.{none_quad, choose, take_or}
use Rattle.rule_sheet.proofs.Weigh.{corners-turn}
use Rattle.regularize_shapes.specs.declared.Diagonal.{Diagonal}
use Rattle.regularize_shapes.specs.declared.Diagonal.TheVariants.{First, Second}
use Rattle.regularize_shapes.specs.declared.Six.{Six}
use Rattle.regularize_shapes.specs.SwapFits.{hex_of}
use Rattle.regularize_shapes.proofs.SwapFits.{quad-there}
use Rattle.pass_map.specs.Regions.{start_in}
use Rattle.regularize_swap.specs.Regions.{bars_of, state_of, free_in}
use Rattle.regularize_swap.specs.Steps.{across, quad_from, six_at, six_apart, is_hexagon, swap_by, meets_six}
use Rattle.regularize_swap.specs.Conditions.{MakeSwapAsks, MakeSwapLeaves}
use Rattle.regularize_swap.proofs.Bars.{get_or-bars}
use Rattle.regularize_pass.specs.declared.Trial.{Trial}
use Rattle.regularize_pass.specs.Steps.{fits_in, diagonal, pick_of, choice_in, try_in}
use Rattle.regularize_pass.specs.Conditions.{TryAsks, StepLeaves}
use Rattle.regularize_pass.proofs.Choices.{six-below}

-- ---- a quad read from one of its corners on

module _ (Q : List ℕ) (c : ℕ) where
  at-index : (m n : ℕ) → m ≡ n → get_or Q m 0 ≡ get_or Q n 0
  at-index m n e = ap (λ (x : ℕ). get_or Q x 0) e

  four : (a b x y : ℕ) → a ≡ from Q c → b ≡ to Q c → x ≡ across Q c → y ≡ before Q c → quad a b x y ≡ quad_from Q c
  four a b x y ea eb ex ey = rw (ea, eb, ex, ey)

  turn_by : (r : ℕ) → r < 4 → c % 4 ≡ r → turn r (quad_at Q (c / 4)) ≡ quad_from Q c
  turn_by zero h e = four _ _ _ _ (at-index _ _ (omega arith)) (at-index _ _ (omega arith)) (at-index _ _ (omega arith)) (at-index _ _ (omega arith))
  turn_by (suc zero) h e = four _ _ _ _ (at-index _ _ (omega arith)) (at-index _ _ (omega arith)) (at-index _ _ (omega arith)) (at-index _ _ (omega arith))
  turn_by (suc (suc zero)) h e = four _ _ _ _ (at-index _ _ (omega arith)) (at-index _ _ (omega arith)) (at-index _ _ (omega arith)) (at-index _ _ (omega arith))
  turn_by (suc (suc (suc zero))) h e = four _ _ _ _ (at-index _ _ (omega arith)) (at-index _ _ (omega arith)) (at-index _ _ (omega arith)) (at-index _ _ (omega arith))
  turn_by (suc (suc (suc (suc r)))) h e = absurd (omega arith)

  turn-from : turn (c % 4) (quad_at Q (c / 4)) ≡ quad_from Q c
  turn-from = turn_by (c % 4) (omega arith) refl

  corners-from : (f : ℕ → ℕ → ℕ → ℕ) → corners f (quad_at Q (c / 4)) ≡ corners f (quad_from Q c)
  corners-from f = sym (corners-turn f (c % 4) (quad_at Q (c / 4))) ∙ ap (corners f) turn-from

-- ---- what is taken

-- what a choice makes of a state: y where it is the first diagonal, z where it is the second
abbrev by_choice : {A : Type 0} → A → A → A → Option Diagonal → A
by_choice st y z None = st
by_choice st y z (Some First) = y
by_choice st y z (Some Second) = z

takes : {A : Type 0} (x a b e : Bool) (st y z : A) → take_or st (cond x (choose a b e y z) none) ≡ by_choice st y z (cond x (diagonal a b e) None)
takes true true true true st y z = refl
takes true true true false st y z = refl
takes true true false e st y z = refl
takes true false true e st y z = refl
takes true false false e st y z = refl
takes false a b e st y z = refl

and-cond : (a o p s : Bool) (k : Option Diagonal) → cond (((a && o) && p) && s) k None ≡ cond a (cond ((o && p) && s) k None) None
and-cond true o p s k = refl
and-cond false o p s k = refl

any-default : (l : List ℕ) (i d e : ℕ) → i < length l → get_or l i d ≡ get_or l i e
any-default [] i d e h = absurd (omega arith)
any-default (x ∷ l) zero d e h = refl
any-default (x ∷ l) (suc i) d e h = any-default l i d e (omega arith)

module _ {np nq : ℕ} {t : Trial} {P : List Float} {Q labels w : List ℕ} (T : TryAsks np nq t P Q labels w) (c d count : ℕ) (hc : c < 4 * nq) (hd : d < 4 * nq) where
  abbrev S : List Quad
  S = quads_of nq Q

  abbrev S0 : List Quad
  S0 = start_in np nq w

  abbrev h : Six
  h = six_at Q c d

  abbrev K : Option Diagonal
  K = choice_in np nq t P Q labels c d w

  -- the state after the swap with a diagonal
  abbrev swapped : Diagonal → State
  swapped k = record { quads = swap_by k S (c / 4) (d / 4) h; barred = bar_list S0 (bars_of np nq w) (meets_six h); count = suc count }

  -- the state after a choice
  abbrev after : Option Diagonal → State
  after None = state_of np nq Q w count
  after (Some k) = swapped k

  after_is : (k : Option Diagonal) → by_choice (state_of np nq Q w count) (swapped First) (swapped Second) k ≡ after k
  after_is None = refl
  after_is (Some First) = refl
  after_is (Some Second) = refl

  read : (e : ℕ) → e < 4 * nq → turn (e % 4) (get_or S (e / 4) none_quad) ≡ quad_from Q e
  read e l = ap (turn (e % 4)) (quad-there nq Q (e / 4) (omega arith)) ∙ turn-from Q e

  label_is : (i : ℕ) → i < nq → get_or (take nq labels) i 8 ≡ get_or labels i 0
  label_is i l = get_or-take nq labels i 8 l ∙ any-default labels i 8 0 (omega (arith, T.labels≤))

  -- the rule's tests
  abbrev tests : Bool
  tests = not (get_or (bars_of np nq w) (c / 4) true) && not (get_or (bars_of np nq w) (d / 4) true) && eqb (get_or (take nq labels) (c / 4) 8) (get_or (take nq labels) (d / 4) 8)
      && eqb (to Q d) (from Q c) && eqb (from Q d) (to Q c) && six_differ h.h0 h.h1 h.h2 h.h3 h.h4 h.h5

  abbrev fits : Fits
  fits = fits_in t np nq P labels

  abbrev picked : Option Diagonal
  picked = pick_of S0 (take nq labels) t.least fits S (c / 4) (d / 4) (hex_of h)

  tests-are : cond tests picked None ≡ K
  unfolding choice_in
  tests-are =
      rw (get_or-bars np nq w (c / 4) (omega arith), get_or-bars np nq w (d / 4) (omega arith), label_is (c / 4) (omega arith), label_is (d / 4) (omega arith))
      (and-cond (free_in np nq labels w (c / 4) (d / 4)) (eqb (to Q d) (from Q c)) (eqb (from Q d) (to Q c)) (six_apart h) picked)

  pair-chosen : try_in np nq t P labels w c d (state_of np nq Q w count) ≡ after K
  unfolding pick_of
  pair-chosen =
      ap₂ (λ (q r : Quad). take_or (state_of np nq Q w count) (swap_quads S0 (take nq labels) t.least fits (state_of np nq Q w count) (c / 4) (d / 4) q r)) (read c hc) (read d hd)
      ∙ takes tests
      (may S0 (take nq labels) t.least fits S (c / 4) (d / 4) (hex_of h) 1 h.h0 h.h3 h.h1 h.h4)
      (may S0 (take nq labels) t.least fits S (c / 4) (d / 4) (hex_of h) 2 h.h0 h.h3 h.h2 h.h5)
      (lt_z (gain_in S h.h0 h.h3 h.h1 h.h4) (gain_in S h.h0 h.h3 h.h2 h.h5)) (state_of np nq Q w count) (swapped First) (swapped Second)
      ∙ ap (by_choice (state_of np nq Q w count) (swapped First) (swapped Second)) tests-are
      ∙ after_is K

  -- ---- nothing is taken

  pub step-none : None ≡ K → StepLeaves np nq (try_in np nq t P labels w c d) count count Q w Q w
  step-none e = record {
    holds = T.holds;
    is = sym (pair-chosen ∙ ap after (sym e));
    kept = kept_refl _ w;
    most = omega arith;
  }

  -- ---- a diagonal is taken

  module _ (k : Diagonal) (e : Some k ≡ K) where
    hexagon : is_hexagon Q d h ≡ true
    unfolding choice_in
    hexagon = go (is_hexagon Q d h) refl
      where
        no_choice : (b : Bool) → ◌≡◌ {A = Option Diagonal} (cond b None None) None
        no_choice true = refl
        no_choice false = refl

        go : (b : Bool) → is_hexagon Q d h ≡ b → b ≡ true
        go true f = refl
        go false f =
            let n : Some k ≡ None = e ∙ ap (λ (x : Bool). cond (free_in np nq labels w (c / 4) (d / 4)) (cond x picked None) None) f ∙ no_choice (free_in np nq labels w (c / 4) (d / 4)) in
            cc

    pub swappable : MakeSwapAsks np nq Q h (c / 4) (d / 4)
    swappable =
        let a = and_left (eqb (to Q d) (from Q c) && eqb (from Q d) (to Q c)) (six_apart h) hexagon in
        let p = eqb-true (to Q d) (from Q c) (and_left (eqb (to Q d) (from Q c)) (eqb (from Q d) (to Q c)) a) in
        let q = eqb-true (from Q d) (to Q c) (and_right (eqb (to Q d) (from Q c)) (eqb (from Q d) (to Q c)) a) in
        record {
          i< = omega arith;
          j< = omega arith;
          below = six-below T c d hc hd;
          differ = and_right (eqb (to Q d) (from Q c) && eqb (from Q d) (to Q c)) (six_apart h) hexagon;
          first = corners-from Q c;
          second = λ f. corners-from Q d f ∙ ap₂ (λ (x y : ℕ). corners f (quad x y (across Q d) (before Q d))) q p;
        }

    pub step-made : {R w' : List ℕ} (g : Six) → g ≡ h → MakeSwapLeaves np nq k g (c / 4) (d / 4) Q w R w' → StepLeaves np nq (try_in np nq t P labels w c d) count (count + 1) Q w R w'
    step-made {R} {w'} g eg N = record {
      holds = N.holds;
      is = made (N.quads ∙ ap (swap_by k S (c / 4) (d / 4)) eg)
          (N.bars ∙ ap (λ (x : Six). bar_list S0 (bars_of np nq w) (meets_six x)) eg)
          ∙ sym (pair-chosen ∙ ap after (sym e));
      kept = N.kept;
      most = omega arith;
    }
      where
        made : quads_of nq R ≡ swap_by k S (c / 4) (d / 4) h → bars_of np nq w' ≡ bar_list S0 (bars_of np nq w) (meets_six h) → state_of np nq R w' (count + 1) ≡ swapped k
        made a b = rw (a, b, add-one count)

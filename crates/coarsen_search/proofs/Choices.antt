-- The choice between two diagonals is the rule's. Assumes nothing.
use mathlib.Core.Path.{◌≡◌, refl, sym, ap, ◌∙◌}
use mathlib.Core.Logic.{◌⊎◌, inl, inr}
use mathlib.Core.Bool.{Bool, true, false, ◌&&◌, and-false}
use Prim.Native.Nat.{ℕ, zero, suc, ◌+◌, ◌≤◌, ◌<◌}
use mathlib.Core.List.{List}
use native.Mathlib.Omega.{arith}
use native.Mathlib.Numerals.{add-one}
use lib.Dec.{leb}
use lib.Ieee.{Float}
use lib.ListN.{get_or}
use borrow.Author.Tests.{leb-true}
use Rattle.lists.proofs.Every.{and_left, and_right}
use Rattle.points.specs.declared.Point.{Point}
use Rattle.field.specs.declared.Field.{Field}
use Rattle.band.specs.declared.Band.{Band}
use Rattle.rule_sheet.specs.Quads.{valence}
use Rattle.rule_coarsen.specs.Coarse.{sum_before, sum_after}
use Rattle.coarsen_masks.specs.Masks.{masks_joined}
use Rattle.coarsen_merge.specs.Conditions.{StartHolds}
use Rattle.coarsen_merge.specs.Steps.{no_labels, gain_of, worth_it, allowed_in}
use Rattle.pass_map.specs.Regions.{start_in}
use Rattle.coarsen_search.specs.declared.Diagonal.{Diagonal}
use Rattle.coarsen_search.specs.declared.Candidate.{Candidate}
use Rattle.coarsen_search.specs.declared.Ends.{Ends}
use Rattle.std.specs.Prelude.{None, Result, Ok, Err, IfErr}
use Rattle.coarsen_search.specs.Steps.{Choice, diagonal_of, better_of, landing_of, stay_around, candidate_of, weighed_of, after_diagonal, found_to}
use Rattle.coarsen_search.specs.Conditions.{DiagonalAsks, LandingAsks, SearchAsks, InOrder}
use Rattle.std.specs.Prelude.{Some, None, Option}

-- an allowed merge gains
pub allowed-gains : (np nq f a b c d : ℕ) (w : List ℕ) → allowed_in np nq f a b c d w ≡ true → (gain_of np nq a b c d w).after ≤ (gain_of np nq a b c d w).before
unfolding allowed_in worth_it gain_of
allowed-gains np nq f a b c d w e =
    let h = and_left (masks_joined (get_or w a 0) (get_or w c 0) && leb 4 (valence (start_in np nq w) b) && leb 4 (valence (start_in np nq w) d)
    && leb (sum_after np (start_in np nq w) no_labels a b c d) (sum_before np (start_in np nq w) no_labels a b c d)) _ e in
    leb-true (sum_after np (start_in np nq w) no_labels a b c d) (sum_before np (start_in np nq w) no_labels a b c d)
    (and_right (masks_joined (get_or w a 0) (get_or w c 0) && leb 4 (valence (start_in np nq w) b) && leb 4 (valence (start_in np nq w) d)) _ h)

-- and the masks join
pub allowed-joins : (np nq f a b c d : ℕ) (w : List ℕ) → allowed_in np nq f a b c d w ≡ true → masks_joined (get_or w a 0) (get_or w c 0) ≡ true
unfolding allowed_in worth_it
allowed-joins np nq f a b c d w e =
    let h = and_left (masks_joined (get_or w a 0) (get_or w c 0) && leb 4 (valence (start_in np nq w) b) && leb 4 (valence (start_in np nq w) d)
    && leb (sum_after np (start_in np nq w) no_labels a b c d) (sum_before np (start_in np nq w) no_labels a b c d)) _ e in
    and_left _ _ (and_left _ _ (and_left (masks_joined (get_or w a 0) (get_or w c 0) && leb 4 (valence (start_in np nq w) b) && leb 4 (valence (start_in np nq w) d)) _ h))

-- ---- a diagonal whose merge lands

module _ (np nq : ℕ) (g : Diagonal) (f : Field) (len : Float) (p : Point) (P : List Float) (labels w : List ℕ) (best : Choice) where
  pub falls_at : (v : ℕ) → (v ≡ g.a) ⊎ (v ≡ g.c) → stay_around np nq g f len p P labels w v ≡ false → best ≡ weighed_of np nq g f len p P labels w best
  unfolding weighed_of
  falls_at v (inl i) h = let d : stay_around np nq g f len p P labels w g.a ≡ false = sym (ap (stay_around np nq g f len p P labels w) i) ∙ h in rw d refl
  falls_at v (inr i) h = let d : stay_around np nq g f len p P labels w g.c ≡ false = sym (ap (stay_around np nq g f len p P labels w) i) ∙ h in rw (d, and-false (stay_around np nq g f len p P labels w g.a)) refl

  pub both-stay : (n : Ends) (z : Candidate) (r : Choice) → InOrder g n → stay_around np nq g f len p P labels w n.first ≡ true → stay_around np nq g f len p P labels w n.second ≡ true
      → z ≡ candidate_of np nq g p w → r ≡ better_of best z → r ≡ weighed_of np nq g f len p P labels w best
  unfolding weighed_of
  both-stay n z r (inl i) h k c b =
      let first : stay_around np nq g f len p P labels w g.a ≡ true = sym (ap (stay_around np nq g f len p P labels w) i.0) ∙ h in
      let second : stay_around np nq g f len p P labels w g.c ≡ true = sym (ap (stay_around np nq g f len p P labels w) i.1) ∙ k in
      rw (first, second, ← c) b
  both-stay n z r (inr i) h k c b =
      let first : stay_around np nq g f len p P labels w g.c ≡ true = sym (ap (stay_around np nq g f len p P labels w) i.0) ∙ h in
      let second : stay_around np nq g f len p P labels w g.a ≡ true = sym (ap (stay_around np nq g f len p P labels w) i.1) ∙ k in
      rw (first, second, ← c) b

-- where a walk ended lies below a greater bound too
pub ended-below : {U : Type 0} (r : Result U ℕ) (x y : ℕ) → x ≤ y → IfErr r (λ at. at ≤ x) → IfErr r (λ at. at ≤ y)
ended-below (Ok u) x y h e = e
ended-below (Err i) x y h e = omega arith

-- each of the two ends is one of the diagonal, and a point
pub first-end : (g : Diagonal) (n : Ends) → InOrder g n → (n.first ≡ g.a) ⊎ (n.first ≡ g.c)
first-end g n (inl i) = inl i.0
first-end g n (inr i) = inr i.0

pub second-end : (g : Diagonal) (n : Ends) → InOrder g n → (n.second ≡ g.a) ⊎ (n.second ≡ g.c)
second-end g n (inl i) = inr i.1
second-end g n (inr i) = inl i.1

pub end_below : {np nq : ℕ} {g : Diagonal} {w : List ℕ} {v : ℕ} → DiagonalAsks np nq g w → (v ≡ g.a) ⊎ (v ≡ g.c) → v < np
end_below T (inl i) = rw i T.face.a<
end_below T (inr i) = rw i T.face.c<

-- ---- the search

pub tried-at : {np nq f : ℕ} {Q w : List ℕ} (k : ℕ) → SearchAsks np nq f Q w → k < 2 → DiagonalAsks np nq (diagonal_of Q f k) w
tried-at zero S h = S.first
tried-at (suc zero) S h = S.second
tried-at (suc (suc k)) S h = absurd (omega arith)

pub tried_of : {np nq f k : ℕ} {Q w : List ℕ} (g : Diagonal) → SearchAsks np nq f Q w → k < 2 → g ≡ diagonal_of Q f k → DiagonalAsks np nq g w
tried_of {np} {nq} {f} {k} {Q} {w} g S h e = rw e (tried-at k S h)

-- its landing can be asked for
pub landing-asks : {np nq : ℕ} {g : Diagonal} {w : List ℕ} → StartHolds np nq w → DiagonalAsks np nq g w → LandingAsks np g w
landing-asks {np} {nq} {g} {w} S D = record {
  a< = D.face.a<;
  c< = D.face.c<;
  masks = let r = S.map.work.long in omega arith;
  mask_a = D.mask_a;
  mask_c = D.mask_c;
}

module _ (np nq : ℕ) (b : Band) (len : Float) (P : List Float) (Q labels w : List ℕ) (f : ℕ) where
  pub found_none : found_to np nq b len P Q labels w f 0 ≡ None
  unfolding found_to
  found_none = refl

  -- a diagonal that the rule does not allow
  pub found-forbidden : (k : ℕ) (g : Diagonal) (x : Bool) (best : Choice) → best ≡ found_to np nq b len P Q labels w f k → g ≡ diagonal_of Q f k
      → x ≡ allowed_in np nq g.face g.a g.b g.c g.d w → x ≡ false → best ≡ found_to np nq b len P Q labels w f (k + 1)
  unfolding found_to after_diagonal
  found-forbidden k g x best e d l h = rw (add-one k, ← d, ← l, h) e

  -- one whose landing is refused
  pub found-refused : (k : ℕ) (g : Diagonal) (x : Bool) (r : Option Point) (best : Choice) → best ≡ found_to np nq b len P Q labels w f k → g ≡ diagonal_of Q f k
      → x ≡ allowed_in np nq g.face g.a g.b g.c g.d w → x ≡ true → r ≡ landing_of g b len P w → r ≡ None
      → best ≡ found_to np nq b len P Q labels w f (k + 1)
  unfolding found_to after_diagonal
  found-refused k g x r best e d l h m n = rw (add-one k, ← d, ← l, h, ← m, n) e

  -- one whose merge lands at p
  pub found-onto : (k : ℕ) (g : Diagonal) (x : Bool) (r : Option Point) (p : Point) (best next : Choice) → best ≡ found_to np nq b len P Q labels w f k → g ≡ diagonal_of Q f k
      → x ≡ allowed_in np nq g.face g.a g.b g.c g.d w → x ≡ true → r ≡ landing_of g b len P w → r ≡ Some p
      → next ≡ weighed_of np nq g b.field len p P labels w best → next ≡ found_to np nq b len P Q labels w f (k + 1)
  unfolding found_to after_diagonal
  found-onto k g x r p best next e d l h m n o = rw (add-one k, ← d, ← l, h, ← m, n, ← e) o

-- Marks of barred quads in the work slice: those at one point, at three, at six. Assumes nothing.
use Prim.Native.Nat.{ℕ, zero, suc, ◌+◌, ◌≤◌, ◌<◌}
use mathlib.Core.Path.{◌≡◌, refl, sym, ◌∙◌}
use mathlib.Core.Bool.{Bool, true, false, cond, not, ◌||◌}
use mathlib.Core.Logic.{⊎_elim}
use mathlib.Core.List.{List, [], ◌∷◌}
use native.Mathlib.Omega.{arith}
use lib.Dec.{eqb, ltb}
use lib.ListN.{length, get_or}
use borrow.Author.Tests.{lt-ltb, le-ltb}
use Rattle.lists.specs.Sort.{tabulate}
use Rattle.lists.specs.Regions.{Part, Out, Kept}
use Rattle.lists.proofs.Laws.{lt-or-le, get_or-tab, length-tab, is-table, tab-ext}
use Rattle.lists.proofs.Regions.{part_of, part-get, part-as, kept_then}
use Rattle.rule_sheet.specs.Quads.{Quad}
use Rattle.rule_sheet.specs.Flat.{quad_at}
use Rattle.sheet.proofs.Flat.{length-quads}
use Rattle.rule_regularize.specs.Swaps.{bar_list}
use Rattle.rule_passes.specs.Choices.{none_quad}
use Rattle.regularize_shapes.proofs.SwapFits.{quad-there}
use Rattle.rule_regularize.proofs.Sweep.{bar-length}
use Rattle.pass_map.specs.Regions.{was_in, start_in}
use Rattle.regularize_swap.specs.Regions.{marks_in, marks_at, is_barred, bars_of}
use Rattle.pass_map.specs.Conditions.{WorkFits, MapHolds}
use Rattle.pass_map.proofs.Maps.{map-kept, was-kept}
use Rattle.regularize_swap.specs.Steps.{mark_if}

-- only the marks were written
abbrev pub OnlyMarks : ℕ → ℕ → List ℕ → List ℕ → Type 0
OnlyMarks np nq v w = Kept (Out (marks_at np nq) nq) v w

-- the map of the start stands where only marks were written
pub marks-kept : {np nq : ℕ} {v w : List ℕ} → MapHolds np nq v → OnlyMarks np nq v w → MapHolds np nq w
marks-kept M K = map-kept M K (λ i p q r s. omega arith)

-- the start stays
pub start-kept : {np nq : ℕ} {v w : List ℕ} → MapHolds np nq v → OnlyMarks np nq v w → was_in np nq w ≡ was_in np nq v
start-kept M K = was-kept M K (λ i p q r s. omega arith)

-- marks made one after the other
pub record Marked (np nq : ℕ) (f : Quad → ℕ) (v w : List ℕ) : Type 0 where
  pub marks : Part (marks_at np nq) nq (tabulate (mark_if f (was_in np nq v) (marks_in np nq v)) nq) w
  pub kept : OnlyMarks np nq v w

both : (x y z : ℕ) → cond (ltb 0 y) 1 (cond (ltb 0 x) 1 z) ≡ cond (ltb 0 (x + y)) 1 z
both x y z = ⊎_elim
    (λ (h : 0 < y). rw (lt-ltb 0 y h, lt-ltb 0 (x + y) (omega arith)))
    (λ (h : y ≤ 0). let e : x + y ≡ x = omega arith in rw (le-ltb 0 y h, e))
    (lt-or-le 0 y)

pub marked-then : {np nq : ℕ} {u v w : List ℕ} {f g : Quad → ℕ} → MapHolds np nq u → Marked np nq f u v → Marked np nq g v w → Marked np nq (λ q. f q + g q) u w
marked-then {np} {nq} {u} {v} {w} {f} {g} B M N = record {
  marks = part-as N.marks (tab-ext _ _ nq (λ q h.
      rw (start-kept B M.kept, M.marks.is, get_or-tab (mark_if f (was_in np nq u) (marks_in np nq u)) nq q 0 h)
      (both (f (quad_at (was_in np nq u) q)) (g (quad_at (was_in np nq u) q)) _)));
  kept = kept_then M.kept N.kept (λ i o. (o, o));
}

pub marked-as : {np nq : ℕ} {v w : List ℕ} {f : Quad → ℕ} (g : Quad → ℕ) → Marked np nq f v w → ((q : Quad) → f q ≡ g q) → Marked np nq g v w
marked-as {np} {nq} {v} {w} {f} g M e = record {
  marks = part-as M.marks (tab-ext _ _ nq (λ q h. rw (e (quad_at (was_in np nq v) q))));
  kept = M.kept;
}

-- ---- the rule's list of barred quads

get_or-bar : (S : List Quad) (bs : List Bool) (f : Quad → Bool) (q : ℕ) → length bs ≡ length S → q < length S → get_or (bar_list S bs f) q true ≡ (get_or bs q true || f (get_or S q none_quad))
get_or-bar [] bs f q e h = absurd (omega arith)
get_or-bar (x ∷ S) [] f q e h = absurd (omega arith)
get_or-bar (x ∷ S) (b ∷ bs) f zero e h = refl
get_or-bar (x ∷ S) (b ∷ bs) f (suc q) e h = get_or-bar S bs f q (omega arith) (omega arith)

pub get_or-bars : (np nq : ℕ) (w : List ℕ) (q : ℕ) → q < nq → get_or (bars_of np nq w) q true ≡ is_barred np nq w q
unfolding bars_of
get_or-bars np nq w q h = get_or-tab (is_barred np nq w) nq q true h

length-bars : (np nq : ℕ) (w : List ℕ) → length (bars_of np nq w) ≡ nq
unfolding bars_of
length-bars np nq w = length-tab (is_barred np nq w) nq

pub bars-are : {np nq : ℕ} {v w : List ℕ} (f : Quad → ℕ) (t : Quad → Bool) → WorkFits np nq v → Marked np nq f v w → ((q : Quad) → t q ≡ ltb 0 (f q))
    → bars_of np nq w ≡ bar_list (start_in np nq v) (bars_of np nq v) t
unfolding bars_of
bars-are {np} {nq} {v} {w} f t R M e =
    let S = start_in np nq v in
    let len : length S ≡ nq = length-quads nq (was_in np nq v) in
    let bl : length (bars_of np nq v) ≡ length S = length-bars np nq v ∙ sym len in
    sym (is-table true (bar_list S (bars_of np nq v) t) (is_barred np nq w) nq (bar-length S (bars_of np nq v) t bl ∙ len) (λ q h.
    let P = part_of (marks_at np nq) nq v (omega (arith, R.long)) in
    let a : get_or w (marks_at np nq + q) 0 ≡ mark_if f (was_in np nq v) (marks_in np nq v) q =
    part-get 0 q M.marks h ∙ get_or-tab (mark_if f (was_in np nq v) (marks_in np nq v)) nq q 0 h in
    get_or-bar S (bars_of np nq v) t q bl (omega arith)
    ∙ rw (get_or-bars np nq v q h, quad-there nq (was_in np nq v) q h, e (quad_at (was_in np nq v) q), a, ← part-get 0 q P h) (after (ltb 0 (f (quad_at (was_in np nq v) q))) _)))
  where
    after : (b : Bool) (x : ℕ) → (not (eqb x 0) || b) ≡ not (eqb (cond b 1 x) 0)
    after true x = or-true (not (eqb x 0))
      where
        or-true : (c : Bool) → (c || true) ≡ true
        or-true true = refl
        or-true false = refl
    after false x = or-false (not (eqb x 0))
      where
        or-false : (c : Bool) → (c || false) ≡ c
        or-false true = refl
        or-false false = refl

-- A point is touched where a quad at it has a barred corner: what one more barred point makes of that. Assumes nothing.
use mathlib.Core.Path.{◌≡◌, refl, sym, ap, ◌∙◌}
use mathlib.Core.Logic.{⊎_elim}
use mathlib.Core.Bool.{Bool, true, false, cond, not, ◌&&◌, ◌||◌, and-true, and-false}
use Prim.Native.Nat.{ℕ, zero, suc, ◌/◌, ◌<◌}
use mathlib.Core.List.{List}
use native.Mathlib.Omega.{arith}
use lib.Dec.{eqb}
use lib.ListN.{length, get_or, set, replicate, get_or-replicate}
use lib.Seq.{get_or-set_same, get_or-set_other}
use borrow.Author.Tests.{eq-eqb, ne_eqb}
use Rattle.lists.specs.Every.{every, some}
use Rattle.lists.proofs.Every.{every-zero, every-on, every-ext}
use Rattle.lists.proofs.Laws.{eq-or-ne}
use Rattle.rule_sheet.specs.Flat.{corner, quad_at}
use Rattle.sheet.specs.Edges.{point_corners}
use Rattle.rule_coarsen.specs.Coarse.{has_corner}
use Rattle.coarsen_merge.specs.Steps.{unmarked, quad_free, free_around}
use Rattle.coarsen_bars.specs.Steps.{joins}
use Rattle.coarsen_merge.specs.Conditions.{ListAsks}
use Rattle.coarsen_merge.proofs.Corners.{within, has_one}
use Rattle.coarsen_merge.proofs.Around.{around-every, free-quad}

-- ---- Bools

-- the mark that becomes 1 where the test holds
pub mark-put : (s : Bool) (m : ℕ) → eqb (cond s 1 m) 0 ≡ (eqb m 0 && not s)
mark-put true m = sym (and-false (eqb m 0))
mark-put false m = sym (and-true (eqb m 0))

-- two tests without two others
both-less : (a b x y : Bool) → ((a && not x) && (b && not y)) ≡ ((a && b) && not (x || y))
both-less true true true y = refl
both-less true true false y = refl
both-less true false x y = and-false (not x)
both-less false b x y = refl

every-less : (p s : ℕ → Bool) (n : ℕ) → every (λ i. p i && not (s i)) n ≡ (every p n && not (some s n))
unfolding every some
every-less p s zero = refl
every-less p s (suc n) = rw (every-less p s n) (both-less (every p n) (p n) (some s n) (s n))

-- ---- one more barred point

unmarked-put : (U : List ℕ) (x u : ℕ) → x < length U → unmarked (set U x 1) u ≡ (unmarked U u && not (eqb u x))
unmarked-put U x u h = ⊎_elim
    (λ (e : u ≡ x). rw (e, get_or-set_same U x 1 0 h, eq-eqb x x refl) (sym (and-false (unmarked U x))))
    (λ (n : u ≡ x → ⊥). rw (get_or-set_other U x u 1 0 n, ne_eqb u x n) (sym (and-true (unmarked U u))))
    (eq-or-ne u x)

quad-put : (Q U : List ℕ) (x q : ℕ) → x < length U → quad_free Q (set U x 1) q ≡ (quad_free Q U q && not (has_corner (quad_at Q q) x))
unfolding quad_free
quad-put Q U x q h = rw (unmarked-put U x (corner Q q 0) h, unmarked-put U x (corner Q q 1) h, unmarked-put U x (corner Q q 2) h, unmarked-put U x (corner Q q 3) h, ← has_one Q q x)
    (four (unmarked U (corner Q q 0)) (unmarked U (corner Q q 1)) (unmarked U (corner Q q 2)) (unmarked U (corner Q q 3)) (eqb (corner Q q 0) x) (eqb (corner Q q 1) x) (eqb (corner Q q 2) x) (eqb (corner Q q 3) x))
  where
    four : (a b c d x y z w : Bool) → ((a && not x) && (b && not y) && (c && not z) && (d && not w)) ≡ ((a && b && c && d) && not (x || y || z || w))
    four a b c d x y z w = rw (both-less a b x y, both-less (a && b) c (x || y) z) (both-less (a && b && c) d (x || y || z) w)

-- where a quad has x and v, one at v has a barred corner
pub free-put : (Q U : List ℕ) (nq x v : ℕ) → x < length U → free_around Q (set U x 1) nq v ≡ (free_around Q U nq v && not (some (joins Q x v) nq))
unfolding free_around
free-put Q U nq x v h = around-every (quad_free Q (set U x 1)) Q nq v
    ∙ (every-ext _ _ nq (λ q _. ap (λ b. not (has_corner (quad_at Q q) v) || b) (quad-put Q U x q h) ∙ split (has_corner (quad_at Q q) v) (quad_free Q U q) (has_corner (quad_at Q q) x))
    ∙ (every-less (λ q. not (has_corner (quad_at Q q) v) || quad_free Q U q) (joins Q x v) nq
    ∙ ap (λ b. b && not (some (joins Q x v) nq)) (sym (around-every (quad_free Q U) Q nq v))))
  where
    split : (k f c : Bool) → (not k || (f && not c)) ≡ ((not k || f) && not (c && k))
    split true f true = refl
    split true f false = refl
    split false f true = refl
    split false f false = refl

-- a point that was barred changes nothing
pub free-again : (Q U : List ℕ) (nq x v : ℕ) → x < length U → unmarked U x ≡ false → free_around Q (set U x 1) nq v ≡ free_around Q U nq v
unfolding free_around quad_free
free-again Q U nq x v h m = every-ext _ _ (length (point_corners Q nq v)) (λ t _. let q = get_or (point_corners Q nq v) t 0 / 4 in rw (same (corner Q q 0), same (corner Q q 1), same (corner Q q 2), same (corner Q q 3)) refl)
  where
    same : (u : ℕ) → unmarked (set U x 1) u ≡ unmarked U u
    same u = ⊎_elim (λ (e : u ≡ x). rw (e, get_or-set_same U x 1 0 h) (sym m)) (λ (n : u ≡ x → ⊥). rw (get_or-set_other U x u 1 0 n) refl) (eq-or-ne u x)

-- ---- no barred point

pub free-fresh : {np nq : ℕ} {Q : List ℕ} (v : ℕ) → ListAsks np nq (point_corners Q nq v) Q → free_around Q (replicate np 0) nq v ≡ true
unfolding free_around
free-fresh {np} {nq} {Q} v L = every-on _ 0 (length (point_corners Q nq v)) (every-zero _) (omega arith) (λ t _ h.
    let k = L.known t h in
    free-quad Q (replicate np 0) (get_or (point_corners Q nq v) t 0 / 4) (λ j l.
    ap (λ (m : ℕ). eqb m 0) (get_or-replicate np (corner Q (get_or (point_corners Q nq v) t 0 / 4) j) 0 0 (within (get_or (point_corners Q nq v) t 0 / 4) j L.sheet (omega arith) l).point)))

-- Demand 3, proved; and that no pass of `coarsen` after the first can refuse. Assumes nothing.
use mathlib.Core.Path.{◌≡◌, refl}
use Prim.Native.Nat.{ℕ, ◌*◌}
use native.Mathlib.Nat.{mul-one}
use mathlib.Core.Bool.{Bool, true, false, cond, ◌&&◌}
use mathlib.Core.List.{List, [], ◌∷◌}
use native.Mathlib.Omega.{arith}
use lib.Dec.{leb}
use lib.ListN.{length}
use borrow.Author.Tests.{leb-true}
use Rattle.points.specs.Points.{finite_p}
use Rattle.rule_sheet.specs.Quads.{all}
use Rattle.rule_sheet.specs.Sheet.{Sheet}
use Rattle.rule_sheet.specs.Lent.{limit}
use Rattle.refine.specs.Finer.{finer_count}
use Rattle.rule_sheet.proofs.Weigh.{rings-closed}
use Rattle.rule_coarsen.specs.Coarse.{MergeFits, Position, coarse_run}
use Rattle.safety_rules.specs.Commands.{refined}
use Rattle.rule_sheet.specs.Sound.{AcceptedSheet, Sound}
use Rattle.safety_rules.specs.Commands.{FinitePosition, Command, regularize_call, improve_call, coarsen_call, subdivide_call, swaps_of, leaves, counts, leaves_all, counts_all, RulesKeep}
use Rattle.safety_rules.proofs.Fine.{fine_of, accepted-of}
use Rattle.safety_rules.proofs.Demand.{Good, Keeps, keeps_same, keeps-trans, Swapped, swaps-kept, swapped-euler, regularize-done, regularize-again, coarse-fine, coarse-kept, finer-kept}

pub good_of : (s : Sheet) → Sound s → Good s
good_of s a = record { fine = fine_of s a.accepted; rings = a.rings }

pub sound-of : (s : Sheet) → Good s → Sound s
sound-of s a = record { accepted = accepted-of s a.fine; closed = rings-closed s.quads a.rings; rings = a.rings }

pub one-call : (c : Command) (s : Sheet) → Good s → Keeps s (leaves c s) (counts c s)
one-call (regularize_call true k fits) s a =
    let w : Swapped s (swaps_of 1 k fits s).left (2 * ((swaps_of 1 k fits s).count * 1)) = swaps-kept s 1 (fits s.points) k a in
    record { good = w.good; euler = swapped-euler s (swaps_of 1 k fits s).left _ a w; falls = omega (arith, w.falls, mul-one (swaps_of 1 k fits s).count) }
one-call (regularize_call false k fits) s a = keeps_same s a
one-call (improve_call true k fits) s a =
    let w : Swapped s (swaps_of 0 k fits s).left (2 * ((swaps_of 0 k fits s).count * 0)) = swaps-kept s 0 (fits s.points) k a in
    record { good = w.good; euler = swapped-euler s (swaps_of 0 k fits s).left _ a w; falls = omega (arith, w.falls) }
one-call (improve_call false k fits) s a = keeps_same s a
one-call (coarsen_call true k fits position finite) s a = (coarse-kept fits position finite k s a).0
one-call (coarsen_call false k fits position finite) s a = keeps_same s a
one-call (subdivide_call true placed) s a = go few many fine refl refl refl
  where
    few : Bool
    few = leb (finer_count (length s.points) s.quads) limit

    many : Bool
    many = leb (4 * length s.quads) limit

    fine : Bool
    fine = all finite_p (refined s (placed s)).points

    go : (x y z : Bool) → few ≡ x → many ≡ y → fine ≡ z → Keeps s (cond (x && y && z) (refined s (placed s)) s) 0
    go true true true p q r = finer-kept s (placed s) (leb-true _ _ p) (leb-true _ _ q) r a
    go true true false p q r = keeps_same s a
    go true false z p q r = keeps_same s a
    go false y z p q r = keeps_same s a
one-call (subdivide_call false placed) s a = keeps_same s a

all-calls : (cs : List Command) (s : Sheet) → Good s → Keeps s (leaves_all cs s) (counts_all cs s)
all-calls [] s a = keeps_same s a
all-calls (c ∷ cs) s a =
    let k : Keeps s (leaves c s) (counts c s) = one-call c s a in
    keeps-trans s (leaves c s) (leaves_all cs (leaves c s)) (counts c s) (counts_all cs (leaves c s)) k (all-calls cs (leaves c s) k.good)

pub rules-keep : (cs : List Command) (s : Sheet) → Sound s → RulesKeep cs s
rules-keep cs s a = go (all-calls cs s (good_of s a))
  where
    go : Keeps s (leaves_all cs s) (counts_all cs s) → RulesKeep cs s
    go k = record {
      kept = record { sound = sound-of (leaves_all cs s) k.good; euler = k.euler; falls = k.falls };
      last = λ j fits h. record {
        none_left = regularize-done (leaves_all cs s) (fits (leaves_all cs s).points) j k.good h;
        again = regularize-again (leaves_all cs s) (fits (leaves_all cs s).points) j k.good h j;
      };
    }

-- "No pass after the first can refuse": what any passes of coarsen leave of an accepted sheet, closed or not, is accepted
pub coarse-accepted : (fits : Sheet → MergeFits) (position : Sheet → Position) → FinitePosition fits position → (k : ℕ) (s : Sheet) → AcceptedSheet s → AcceptedSheet (coarse_run fits position k s).left
coarse-accepted fits position finite k s a = accepted-of _ (coarse-fine fits position finite k s (fine_of s a))

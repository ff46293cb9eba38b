-- What one call keeps of a closed sheet: swaps, merges and the finer sheet. Assumes nothing.
use mathlib.Core.Path.{◌≡◌, refl, ap, sym, ◌∙◌, subst}
use Prim.Native.Nat.{ℕ, zero, suc, ◌+◌, ◌*◌, ◌≤◌, ◌<◌}
use native.Mathlib.Nat.{mul-one, zero-mul, add-mul}
use mathlib.Core.Bool.{Bool, true, false, cond}
use mathlib.Core.List.{List, [], ◌∷◌, map}
use native.Mathlib.Omega.{arith}
use lib.Dec.{eqb}
use lib.ListN.{length, get_or, replicate, length-map}
use borrow.Author.Tests.{ne_eqb}
use Rattle.lists.specs.Sort.{itself}
use Rattle.lists.proofs.Laws.{length-tab}
use Rattle.points.specs.declared.Point.{Point}
use Rattle.points.specs.Points.{finite_p, origin}
use Rattle.rule_sheet.specs.Quads.{Quad, all, uses, valence, touches}
use Rattle.rule_sheet.specs.Sheet.{Sheet}
use Rattle.rule_sheet.specs.Lent.{limit}
use Rattle.rule_sheet.specs.Closed.{Rings}
use Rattle.rule_sheet.proofs.Sums.{upto, upto-ext, sum-tab}
use Rattle.rule_finer.specs.Finer.{four_labels, finer}
use Rattle.refine.specs.Finer.{finer_count}
use Rattle.rule_sheet.specs.Squared.{sq, squared}
use Rattle.rule_sheet.specs.Claims.{Below, Differ, All, NoClash, Low}
use Rattle.rule_passes.specs.Runs.{run}
use Rattle.rule_passes.specs.Choices.{none_quad}
use Rattle.rule_regularize.specs.Swaps.{Fits, swap_pass, swap_run, NoSwap}
use Rattle.rule_sheet.proofs.Weigh.{rings-closed}
use Rattle.rule_sheet.proofs.Labels.{label-sum-map}
use Rattle.rule_regularize.proofs.Passes.{Pass}
use Rattle.rule_regularize.proofs.SwapPass.{pass_kept, inv-start}
use Rattle.rule_regularize.proofs.Gains.{half_of}
use Rattle.rule_regularize.proofs.Sweep.{Barred, pass-made, pass-none}
use Rattle.rule_passes.proofs.Runs.{Ran, run-keeps, run_ends, run-again}
use Rattle.rule_coarsen.specs.Merges.{Slot, out, slot, live, live_labels, order, renumber, gathered}
use Rattle.rule_coarsen.specs.Coarse.{MergeFits, Position, merge_pass, compact, next_sheet, coarse_run}
use Rattle.rule_coarsen.proofs.Joins.{sq_used, squared_used, in_use, Merges}
use Rattle.rule_coarsen.specs.Invariants.{Used, weigh}
use Rattle.rule_coarsen.proofs.MergePass.{slot-in, slot-inj, sq-used-pos, MKept, merges-kept, MAccepted, merges-accepted, slot_touches, SlotsNoClash, touches-live, live-length}
use Rattle.rule_coarsen.proofs.Renumber.{renumber-rings, renumber-proper, renumber-below, renumber-used, renumber-squared, renumber-points, renumber-length, renumber-clash, of-order}
use Rattle.rule_coarsen.proofs.Visits.{pass-merges}
use Rattle.rule_coarsen.proofs.Points.{all-gathered, pass-placed}
use Rattle.rule_coarsen.proofs.Slots.{slot-at, inv-fresh}
use Rattle.safety_rules.specs.Commands.{refined}
use Rattle.rule_sheet.specs.Sheet.{with_quads}
use Rattle.rule_sheet.specs.Sound.{SameEuler, squared_of}
use Rattle.safety_rules.proofs.Finer.{all-at}
use Rattle.safety_rules.proofs.Numbers.{finer-rings, finer-below, finer-used, finer-squared, finer-more, finer-proper, finer-length, finer-clash}
use Rattle.safety_rules.proofs.Edges.{edges-closed}
use Rattle.safety_rules.proofs.Fine.{Fine, Passing, passing}
use Rattle.rule_regularize.proofs.SwapPass

-- an accepted sheet with rings, which is closed
pub record Good (s : Sheet) : Type 0 where
  pub fine : Fine s
  pub rings : Rings s.quads

-- what calls that lead from s to t keep
pub record Keeps (s t : Sheet) (c : ℕ) : Type 0 where
  pub good : Good t
  pub euler : SameEuler s t
  pub falls : squared_of t + 2 * c ≤ squared_of s

-- the Euler numbers of two closed sheets, by points and quads alone
euler : (s t : Sheet) → Good s → Good t → length t.points + length s.quads ≡ length s.points + length t.quads → SameEuler s t
unfolding SameEuler
euler s t a b e = omega (
  arith,
  edges-closed s.quads a.fine.differ (rings-closed s.quads a.rings) (length s.points) a.fine.in_range,
  edges-closed t.quads b.fine.differ (rings-closed t.quads b.rings) (length t.points) b.fine.in_range,
)

pub keeps-trans : (s t u : Sheet) (c d : ℕ) → Keeps s t c → Keeps t u d → Keeps s u (c + d)
unfolding SameEuler
keeps-trans s t u c d a b = record { good = b.good; euler = omega (arith, a.euler, b.euler); falls = omega (arith, a.falls, b.falls) }

pub keeps_same : (s : Sheet) → Good s → Keeps s s 0
unfolding SameEuler
keeps_same s a = record { good = a; euler = refl; falls = omega arith }

-- ---- swaps

pub record Swapped (s : Sheet) (S : List Quad) (w : ℕ) : Type 0 where
  pub good : Good (with_quads s S)
  pub len : length S ≡ length s.quads
  pub falls : squared (length s.points) S + w ≤ squared_of s

pub one-pass : (m : ℕ) (s : Sheet) (S : List Quad) (B : ℕ → Type 0) (c : ℕ) → Pass s.quads s.labels m s.quads B S c → Good s → Swapped s S (2 * (c * m))
one-pass m s S B c p a =
    go (pass_kept s.quads s.labels m (length s.points) s.quads B S c p (inv-start s.quads B) a.fine.labelled a.fine.no_clash a.fine.differ a.rings a.fine.in_range)
  where
    go : SwapPass.SwapsKeep s.labels (length s.points) (2 * (c * m)) s.quads S → Swapped s S (2 * (c * m))
    go k = record {
      good = record {
        fine = record {
          few_points = a.fine.few_points;
          few_quads = omega (arith, k.len, a.fine.few_quads);
          some_quads = omega (arith, k.len, a.fine.some_quads);
          labelled = a.fine.labelled ∙ sym k.len;
          all_finite = a.fine.all_finite;
          labels_low = a.fine.labels_low;
          in_range = k.below;
          differ = k.four;
          in_use = λ v l. k.used v (a.fine.in_use v l);
          no_clash = k.clash;
        };
        rings = k.rings;
      };
      len = k.len;
      falls = k.falls;
    }

module _ (s : Sheet) (m : ℕ) (fits : Fits) where
  -- a pass of the rule, on any quads in place of the sheet's
  abbrev step : List Quad → List Quad
  step S = (swap_pass (length s.points) s.labels m fits S).quads

  abbrev swap_count : List Quad → ℕ
  swap_count S = (swap_pass (length s.points) s.labels m fits S).count

  -- quads that are good in place of the sheet's
  GoodQuads : List Quad → Type 0
  GoodQuads S = Good (with_quads s S)

  Fell : List Quad → List Quad → ℕ → Type 0
  Fell S T c = (length T ≡ length S) × (squared (length s.points) T + 2 * (c * half_of m) ≤ squared (length s.points) S)

  one-swap-pass : (S : List Quad) → GoodQuads S → GoodQuads (step S) × Fell S (step S) (swap_count S)
  unfolding GoodQuads Fell
  one-swap-pass S g = go (one-pass (half_of m) (with_quads s S) (step S) (Barred (replicate (length S) false)) (swap_count S) (pass-made (length s.points) s.labels m fits S) g)
    where
      go : Swapped (with_quads s S) (step S) (2 * (swap_count S * half_of m)) → Good (with_quads s (step S)) × ((length (step S) ≡ length S) × (squared (length s.points) (step S) + 2 * (swap_count S * half_of m) ≤ squared (length s.points) S))
      go k = (k.good, (k.len, k.falls))

  pub swaps-kept : (k : ℕ) → Good s → Swapped s (swap_run (length s.points) s.labels m fits k s.quads).left (2 * ((swap_run (length s.points) s.labels m fits k s.quads).count * half_of m))
  unfolding GoodQuads Fell
  swaps-kept k a = go (run-keeps swap_count step GoodQuads Fell (λ S g. (refl, omega (arith, zero-mul (half_of m)))) (λ S T Q c d p q. (q.0 ∙ p.0, omega (arith, p.1, q.1, add-mul c d (half_of m)))) one-swap-pass k s.quads 0 a)
    where
      go : Ran swap_count step GoodQuads Fell s.quads 0 (run swap_count step k s.quads 0) → Swapped s (run swap_count step k s.quads 0).left (2 * ((run swap_count step k s.quads 0).count * half_of m))
      go r = record { good = r.good; len = r.kept.0; falls = omega (arith, r.kept.1, ap (λ c. c * half_of m) r.counts) }

-- a sheet after swaps has the same Euler number
pub swapped-euler : (s : Sheet) (S : List Quad) (w : ℕ) → Good s → Swapped s S w → SameEuler s (with_quads s S)
swapped-euler s S w a k = euler s (with_quads s S) a k.good (omega (arith, k.len))

-- given more passes than half the sum it finds, regularize leaves no swap, and once more changes nothing
module _ (s : Sheet) (fits : Fits) (k : ℕ) (a : Good s) (h : squared_of s < 2 * k) where
  falls-twice : (S : List Quad) → GoodQuads s 1 fits S → GoodQuads s 1 fits (step s 1 fits S) × (squared (length s.points) (step s 1 fits S) + 2 * swap_count s 1 fits S ≤ squared (length s.points) S)
  unfolding Fell
  falls-twice S g = let p = one-swap-pass s 1 fits S g in (p.0, omega (arith, p.1.1, mul-one (swap_count s 1 fits S)))

  pub regularize-done : NoSwap (length s.points) s.labels 1 fits (swap_run (length s.points) s.labels 1 fits k s.quads).left
  unfolding GoodQuads
  regularize-done = (pass-none (length s.points) s.labels 1 fits (swap_run (length s.points) s.labels 1 fits k s.quads).left
      (run_ends (swap_count s 1 fits) (step s 1 fits) (GoodQuads s 1 fits) (squared (length s.points)) falls-twice k s.quads 0 a h)).1

  pub regularize-again : (j : ℕ) → swap_run (length s.points) s.labels 1 fits j (swap_run (length s.points) s.labels 1 fits k s.quads).left
      ≡ record { left = (swap_run (length s.points) s.labels 1 fits k s.quads).left; count = 0 }
  unfolding GoodQuads
  regularize-again j = run-again (swap_count s 1 fits) (step s 1 fits) (GoodQuads s 1 fits) (squared (length s.points)) falls-twice k j s.quads a h

-- ---- merges

live-slot : (S : List Quad) → live (map slot S) ≡ S
live-slot [] = refl
live-slot (q ∷ S) = ap {B = List Quad} (λ l. q ∷ l) (live-slot S)

slots-proper : (S : List Quad) → All Differ S → (j : ℕ) (q : Quad) → get_or (map slot S) j out ≡ slot q → Differ q
slots-proper S a j q e = subst Differ (slot-inj (get_or S j none_quad) q (sym (slot-at S j l) ∙ e)) (all-at S a j l)
  where
    l : j < length S
    l = rw length-map at (slot-in (map slot S) j q e)

live-proper : (S : List Slot) → ((j : ℕ) (q : Quad) → get_or S j out ≡ slot q → Differ q) → All Differ (live S)
unfolding All
live-proper [] h = tt
live-proper (out ∷ S) h = live-proper S (λ j q e. h (suc j) q e)
live-proper (slot q ∷ S) h = (h 0 q refl, live-proper S (λ j q e. h (suc j) q e))

live-low : (S : List Slot) (labels : List ℕ) → Low labels → Low (live_labels S labels)
unfolding Low
live-low [] labels h = tt
live-low (out ∷ S) [] h = tt
live-low (out ∷ S) (l ∷ labels) (p, h) = live-low S labels h
live-low (slot q ∷ S) [] h = tt
live-low (slot q ∷ S) (l ∷ labels) (p, h) = (p, live-low S labels h)

-- where all points are in use
all-used : (n : ℕ) (S : List Quad) → ((v : ℕ) → v < n → 0 < valence S v) → (squared_used n S ≡ squared n S) × (in_use n S ≡ n)
unfolding squared_used squared in_use
all-used n S h = (
  upto-ext (λ v. sq_used (valence S v)) (λ v. sq (valence S v)) n (λ v l. sq-used-pos (valence S v) (h v l)) ∙ sym (sum-tab (λ v. sq (valence S v)) itself n),
  upto-ext (λ v. cond (eqb (valence S v) 0) 0 1) (λ v. 1) n (λ v l. ap {B = ℕ} (λ b. cond b 0 1) (ne_eqb (valence S v) 0 (λ e. omega (arith, h v l)))) ∙ ones n,
)
  where
    ones : (n : ℕ) → upto n (λ v. 1) ≡ n
    ones zero = refl
    ones (suc n) = omega (arith, ones n)

clash-slots : (S : List Quad) (labels : List ℕ) → NoClash S labels → SlotsNoClash (map slot S) labels
unfolding NoClash SlotsNoClash
clash-slots S labels nc v j h = all (2 * j + 1) ∙ nc v j (omega (arith, h, all (2 * j)))
  where
    all : (l : ℕ) → slot_touches (map slot S) labels v l ≡ touches S labels v l
    all l = label-sum-map slot (weigh (uses v)) l S labels

clash-live : (S : List Slot) (labels : List ℕ) → length labels ≡ length S → SlotsNoClash S labels → NoClash (live S) (live_labels S labels)
unfolding NoClash SlotsNoClash
clash-live S labels e nc v j h = touches-live v (2 * j + 1) S labels e ∙ nc v j (omega (arith, h, touches-live v (2 * j) S labels e))

-- at most n of n points are in use
in-use-le : (n : ℕ) (S : List Quad) → in_use n S ≤ n
unfolding in_use
in-use-le n S = go n
  where
    one : (b : Bool) → cond {A = ℕ} b 0 1 ≤ 1
    one true = omega arith
    one false = omega arith

    go : (n : ℕ) → upto n (λ v. cond (eqb (valence S v) 0) 0 1) ≤ n
    go zero = omega arith
    go (suc n) = omega (arith, one (eqb (valence S n) 0), go n)

length-gathered : (ps : List Point) (S : List Slot) → length (gathered ps (order (live S))) ≡ length (order (live S))
length-gathered ps S = length-map (order (live S)) (λ v. get_or ps v origin)

-- What a pass leaves of an accepted sheet, closed or not, is accepted.
module _ (s : Sheet) (ps : List Point) (S : List Slot) (U : ℕ → Type 0) (c : ℕ) (p : Merges s.quads s.labels (map slot s.quads) U S c)
    (lp : length ps ≡ length s.points) (fin : all finite_p ps ≡ true) where
  slots-accepted : Fine s → MAccepted s.labels (length s.points) c (map slot s.quads) S
  slots-accepted a = merges-accepted s.quads s.labels (length s.points) (map slot s.quads) U S c p (inv-fresh s.quads U) (all-at s.quads a.differ) (slots-proper s.quads a.differ)
      (a.labelled ∙ sym (length-map s.quads slot)) (rw live-slot a.some_quads) (clash-slots s.quads s.labels a.no_clash) (rw live-slot a.in_range)

  few-used : Fine s → length (gathered ps (order (live S))) ≤ length s.points
  few-used a = let k = slots-accepted a in
      omega (arith, length-gathered ps S, renumber-points (live S) (length s.points) k.below, in-use-le (length s.points) (live S))

  one_less : Fine s → length (renumber (live S)) + c ≡ length s.quads
  one_less a = omega (arith, (slots-accepted a).quads, renumber-length (live S), ap length (live-slot s.quads))

  pub pass-fine : Fine s → Fine (compact S s.labels ps)
  unfolding Below
  pass-fine a = go (slots-accepted a)
    where
      go : MAccepted s.labels (length s.points) c (map slot s.quads) S → Fine (compact S s.labels ps)
      go k = record {
        few_points = omega (arith, few-used a, a.few_points);
        few_quads = omega (arith, one_less a, a.few_quads);
        some_quads = omega (arith, renumber-length (live S), k.some);
        labelled = live-length S s.labels e ∙ sym (renumber-length (live S));
        all_finite = all-gathered finite_p ps (order (live S)) fin (λ v h. omega (arith, lp, k.below v (of-order (live S) v h)));
        labels_low = live-low S s.labels a.labels_low;
        in_range = subst (λ n. Below n (renumber (live S))) (sym (length-gathered ps S)) (renumber-below (live S));
        differ = renumber-proper (live S) (live-proper S k.four);
        in_use = λ v l. renumber-used (live S) v (omega (arith, l, length-gathered ps S));
        no_clash = renumber-clash (live S) (live_labels S s.labels) (clash-live S s.labels e k.clash);
      }
        where
          e : length s.labels ≡ length S
          e = a.labelled ∙ (sym (length-map s.quads slot) ∙ sym k.len)

  -- and of a closed one it is closed, with one point less for each merge
  pub one-coarse : Good s → Keeps s (compact S s.labels ps) 0 × (length (order (live S)) + c ≡ length s.points)
  one-coarse a = go (merges-kept Q s.labels (length s.points) (map slot Q) U S c p (inv-fresh Q U) (all-at Q a.fine.differ) (slots-proper Q a.fine.differ)
      (a.fine.labelled ∙ sym (length-map Q slot)) (rw live-slot a.fine.some_quads) (clash-slots Q s.labels a.fine.no_clash) (rw live-slot a.rings) (rw live-slot a.fine.in_range))
    where
      Q : List Quad
      Q = s.quads

      go : MKept s.labels (length s.points) c (map slot s.quads) S → Keeps s (compact S s.labels ps) 0 × (length (order (live S)) + c ≡ length s.points)
      go k = (
        record {
          good = now;
          euler = euler s (compact S s.labels ps) a now (omega (arith, pts, length-gathered ps S, k.quads, renumber-length (live S), ap length (live-slot s.quads)));
          falls = omega (arith, k.squares, ap (λ n. squared n (renumber (live S))) (length-gathered ps S), renumber-squared (live S) (length s.points) k.below, (all-used (length s.points) s.quads a.fine.in_use).0, ap (squared_used (length s.points)) (live-slot s.quads));
        },
        pts,
      )
        where
          pts : length (order (live S)) + c ≡ length s.points
          pts = omega (arith, k.points, renumber-points (live S) (length s.points) k.below, (all-used (length s.points) s.quads a.fine.in_use).1, ap (in_use (length s.points)) (live-slot s.quads))

          now : Good (compact S s.labels ps)
          now = record { fine = pass-fine a.fine; rings = renumber-rings (live S) k.rings }

-- The passes of the rule.
module _ (fits : Sheet → MergeFits) (position : Sheet → Position)
    (finite : (s : Sheet) (ps : List Point) (S : List Slot) (f a c : ℕ) → all finite_p ps ≡ true → fits s ps S f a c ≡ true → finite_p (position s ps a c) ≡ true) where
  abbrev merge_count : Sheet → ℕ
  merge_count s = (merge_pass fits position s).count

  abbrev after : Sheet → Sheet
  after s = next_sheet (merge_pass fits position) s

  next-fine : (s : Sheet) → Fine s → Fine (after s)
  next-fine s a = let q = pass-placed fits position s (finite s) a.all_finite in
      pass-fine s (merge_pass fits position s).points (merge_pass fits position s).slots (Used (replicate (length s.points) false)) (merge_count s) (pass-merges fits position s a.labels_low a.in_range) q.0 q.1 a

  -- "No pass after the first can refuse": after any passes over an accepted sheet the sheet is accepted
  pub coarse-fine : (k : ℕ) (s : Sheet) → Fine s → Fine (coarse_run fits position k s).left
  coarse-fine k s a = (run-keeps merge_count after Fine (λ s t c. Unit {0}) (λ s g. tt) (λ s t u c d p q. tt) (λ s g. (next-fine s g, tt)) k s 0 a).good

  -- a pass leaves no more points, and one quad less for each merge
  Fewer : Sheet → Sheet → ℕ → Type 0
  Fewer s t c = (length t.points ≤ length s.points) × (length t.quads + c ≡ length s.quads)

  next-fewer : (s : Sheet) → Fine s → Fewer s (after s) (merge_count s)
  unfolding Fewer
  next-fewer s a = go (pass-placed fits position s (finite s) a.all_finite)
    where
      go : (length (merge_pass fits position s).points ≡ length s.points) × (all finite_p (merge_pass fits position s).points ≡ true)
          → (length (after s).points ≤ length s.points) × (length (after s).quads + merge_count s ≡ length s.quads)
      go (l, f) = let m = pass-merges fits position s a.labels_low a.in_range in
          let U = Used (replicate (length s.points) false) in
          (few-used s (merge_pass fits position s).points (merge_pass fits position s).slots U (merge_count s) m l f a, one_less s (merge_pass fits position s).points (merge_pass fits position s).slots U (merge_count s) m l f a)

  -- any passes do
  pub coarse-fewer : (k : ℕ) (s : Sheet) → Fine s → (length (coarse_run fits position k s).left.points ≤ length s.points) × (length (coarse_run fits position k s).left.quads + (coarse_run fits position k s).count ≡ length s.quads)
  unfolding Fewer
  coarse-fewer k s a = go (run-keeps merge_count after Fine Fewer (λ s g. (omega arith, omega arith)) (λ s t u c d p q. (omega (arith, p.0, q.0), omega (arith, p.1, q.1))) (λ s g. (next-fine s g, next-fewer s g)) k s 0 a)
    where
      go : Ran merge_count after Fine Fewer s 0 (run merge_count after k s 0) → (length (run merge_count after k s 0).left.points ≤ length s.points) × (length (run merge_count after k s 0).left.quads + (run merge_count after k s 0).count ≡ length s.quads)
      go r = (r.kept.0, omega (arith, r.kept.1, r.counts))

  -- a pass over a closed sheet, its merges counted
  Coarsened : Sheet → Sheet → ℕ → Type 0
  Coarsened s t c = Keeps s t 0 × (length t.points + c ≡ length s.points)

  one-merge-pass : (s : Sheet) → Good s → Good (after s) × Coarsened s (after s) (merge_count s)
  unfolding Coarsened
  one-merge-pass s a = go (pass-placed fits position s (finite s) a.fine.all_finite)
    where
      go : (length (merge_pass fits position s).points ≡ length s.points) × (all finite_p (merge_pass fits position s).points ≡ true)
          → Good (after s) × (Keeps s (after s) 0 × (length (after s).points + merge_count s ≡ length s.points))
      go (l, f) = let k = one-coarse s (merge_pass fits position s).points (merge_pass fits position s).slots (Used (replicate (length s.points) false)) (merge_count s)
          (pass-merges fits position s a.fine.labels_low a.fine.in_range) l f a in
          (k.0.good, (k.0, omega (arith, k.1, length-gathered (merge_pass fits position s).points (merge_pass fits position s).slots)))

  -- the passes keep a closed sheet, and their count is the number of points that went
  pub coarse-kept : (k : ℕ) (s : Sheet) → Good s → Keeps s (coarse_run fits position k s).left 0 × (length (coarse_run fits position k s).left.points + (coarse_run fits position k s).count ≡ length s.points)
  unfolding Coarsened
  coarse-kept k s a = go (run-keeps merge_count after Good Coarsened (λ s g. (keeps_same s g, omega arith)) (λ s t u c d p q. (keeps-trans s t u 0 0 p.0 q.0, omega (arith, p.1, q.1))) one-merge-pass k s 0 a)
    where
      go : Ran merge_count after Good Coarsened s 0 (run merge_count after k s 0) → Keeps s (run merge_count after k s 0).left 0 × (length (run merge_count after k s 0).left.points + (run merge_count after k s 0).count ≡ length s.points)
      go r = (r.kept.0, omega (arith, r.kept.1, r.counts))

-- ---- the finer sheet

four-length : (labels : List ℕ) → length (four_labels labels) ≡ 4 * length labels
four-length [] = refl
four-length (l ∷ labels) = omega (arith, four-length labels)

four_low : (labels : List ℕ) → Low labels → Low (four_labels labels)
unfolding Low
four_low [] h = tt
four_low (l ∷ labels) (p, h) = (p, (p, (p, (p, four_low labels h))))

-- quads and labels that 6 and 7 accept, closed or not, are accepted when each quad is split into four
pub finer-passing : (n : ℕ) (S : List Quad) (labels : List ℕ) → Passing n S labels → Passing (finer_count n S) (finer n S) (four_labels labels)
finer-passing n S labels a =
    let b = a.in_range in
    let p = a.differ in
    record {
      labelled = omega (arith, four-length labels, a.labelled, finer-length n S b p);
      labels_low = four_low labels a.labels_low;
      in_range = finer-below n S b p;
      differ = finer-proper n S b p;
      in_use = finer-used n S b p a.in_use;
      no_clash = finer-clash n S b p labels a.labelled a.no_clash;
    }

pub finer-kept : (s : Sheet) (placed : ℕ → Point) → finer_count (length s.points) s.quads ≤ limit → 4 * length s.quads ≤ limit → all finite_p (refined s placed).points ≡ true → Good s → Keeps s (refined s placed) 0
finer-kept s placed lp lq fin a = record {
  good = now;
  euler = euler s (refined s placed) a now (omega (arith, tabled, finer-more n S b p r, finer-length n S b p));
  falls = omega (arith, ap (λ k. squared k (finer n S)) tabled, finer-squared n S b p r);
}
  where
    n : ℕ
    n = length s.points

    S : List Quad
    S = s.quads

    b : Below n S
    b = a.fine.in_range

    p : All Differ S
    p = a.fine.differ

    r : Rings S
    r = a.rings

    four : Passing (finer_count n S) (finer n S) (four_labels s.labels)
    four = finer-passing n S s.labels (passing s a.fine)

    tabled : length (refined s placed).points ≡ finer_count n S
    tabled = length-tab placed (finer_count n S)

    now : Good (refined s placed)
    now = record {
      fine = record {
        few_points = omega (arith, tabled, lp);
        few_quads = omega (arith, finer-length n S b p, lq);
        some_quads = omega (arith, finer-length n S b p, a.fine.some_quads);
        labelled = four.labelled;
        all_finite = fin;
        labels_low = four.labels_low;
        in_range = subst (λ k. Below k (finer n S)) (sym tabled) four.in_range;
        differ = four.differ;
        in_use = λ v l. four.in_use v (omega (arith, l, tabled));
        no_clash = four.no_clash;
      };
      rings = finer-rings n S b p r;
    }

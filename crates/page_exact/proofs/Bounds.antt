-- No count of a measured sheet is above four times the limit. Assumes nothing.
use Prim.Native.Nat.{ℕ, ◌*◌, ◌≤◌, zero-le}
use mathlib.Core.Path.{◌≡◌, sym, ap}
use mathlib.Core.Bool.{Bool, true, false, cond}
use mathlib.Core.List.{List, [], ◌∷◌, map, zip_with}
use native.Mathlib.Omega.{arith}
use lib.Dec.{leb}
use lib.Ieee.{Float, le}
use lib.ListN.{length, length-map}
use borrow.Author.Tests.{le-leb}
use Rattle.lists.specs.Every.{count_to}
use Rattle.lists.proofs.Every.{count-le}
use Rattle.setting.specs.Settings.{Domain}
use Rattle.rule_sheet.specs.Quads.{Quad, num, all}
use Rattle.rule_sheet.specs.Flat.{quads_of}
use Rattle.rule_sheet.specs.Tests.{proper}
use Rattle.rule_sheet.specs.Sheet.{Sheet}
use Rattle.rule_sheet.specs.Lent.{Lent, Work, held, limit}
use Rattle.rule_sheet.specs.Edges.{boundary_edges, nonmanifold_edges, orientation_errors}
use Rattle.rule_admission.specs.Admission.{measurable_verdict}
use Rattle.sheet.proofs.Flat.{length-quads}
use Rattle.admission.proofs.Admitted.{admitted}
use Rattle.incidence.specs.Corners.{Cornered, edge_order}
use Rattle.edges.specs.declared.EdgeKind.{EdgeKind}
use Rattle.edges.specs.declared.EdgeKind.TheVariants.{Boundary, Turned, Nonmanifold}
use Rattle.edges.specs.Steps.{has_kind}
use Rattle.edges.proofs.Walk.{below-order}
use Rattle.edges.proofs.Sides.{boundary-places, nonmanifold-places, turned-places}
use Rattle.rule_quality.specs.Census.{irregular, bad_links, duplicate_faces}
use Rattle.rule_quality.specs.declared.Measures.{Measures}
use Rattle.rule_quality.specs.Measure.{flat, has_normal, cell_jacobian, cells_of, invalid_of, summary_of, measures_of, measure_rule}
use Rattle.rule_quality.specs.declared.report.Quality.{Quality}
use Rattle.rule_quality.specs.Quality.{quality_of, eight_counts, quality_rule, assessed_of}
use Rattle.quality.proofs.Accepted.{accepted}
use Rattle.quality.proofs.Tight.{told}
use Rattle.std.specs.Prelude.{Ok, Err}
use Rattle.rule_quality.specs.Measure.{Measured}
use Rattle.rule_sheet.specs.declared.Refusal.TheVariants.{Normal}

-- ---- counts of points and quads

irregular-le : (n : ℕ) (S : List Quad) → irregular n S ≤ n
unfolding irregular
irregular-le n S = count-le _ n

links-le : (n : ℕ) (S : List Quad) → bad_links n S ≤ n
unfolding bad_links
links-le n S = count-le _ n

duplicates-le : (S : List Quad) → duplicate_faces S ≤ length S
unfolding duplicate_faces
duplicates-le S = count-le _ (length S)

-- ---- counts of edges

module _ (np nq : ℕ) (Q : List ℕ) (C : Cornered np nq Q) (good : all (proper np) (quads_of nq Q) ≡ true) where
  -- at most as many places in edge order have one kind as there are places
  kind-le : (k : EdgeKind) {n : ℕ} → count_to (has_kind Q (length (edge_order np nq Q)) (edge_order np nq Q) k) (length (edge_order np nq Q)) ≡ n → n ≤ 4 * nq
  kind-le k e = omega (arith, count-le (has_kind Q (length (edge_order np nq Q)) (edge_order np nq Q) k) (length (edge_order np nq Q)), e, (below-order C).len)

  boundary-le : boundary_edges np (quads_of nq Q) ≤ 4 * nq
  boundary-le = kind-le Boundary (boundary-places np nq Q good)

  nonmanifold-le : nonmanifold_edges np (quads_of nq Q) ≤ 4 * nq
  nonmanifold-le = kind-le Nonmanifold (nonmanifold-places np nq Q good)

  orientation-le : orientation_errors np (quads_of nq Q) ≤ 4 * nq
  orientation-le = kind-le Turned (turned-places np nq Q good)

-- ---- cells

num-le : (b : Bool) → num b ≤ 1
num-le true = omega arith
num-le false = omega arith

flat-le : (l : List Float) → invalid_of l ≤ length l
unfolding invalid_of
flat-le [] = zero-le
flat-le (j ∷ l) = omega (arith, num-le (le j flat), flat-le l)

zip-le : {A B C : Type 0} (f : A → B → C) (a : List A) (b : List B) → length (zip_with f a b) ≤ length a
unfolding zip_with
zip-le f [] b = zero-le
zip-le f (x ∷ a) [] = zero-le
zip-le f (x ∷ a) (y ∷ b) = omega (arith, zip-le f a b)

cells-le : (d : Domain) (s : Sheet) → length (cells_of d s) ≤ length s.quads
unfolding cells_of
cells-le d s = zip-le _ s.quads s.labels

invalid-le : (d : Domain) (s : Sheet) (m : Measures) → measure_rule d s ≡ Ok m → m.invalid_cells ≤ length s.quads
unfolding measure_rule measures_of summary_of
invalid-le d s m e = go (all has_normal (cells_of d s)) e
  where
    -- what is measured, m where nothing is
    measures_or : Measured → Measures
    measures_or (Ok k) = k
    measures_or (Err k) = m

    go : (b : Bool) → cond b (Ok (measures_of (cells_of d s))) (Err Normal) ≡ Ok m → m.invalid_cells ≤ length s.quads
    go true h = rw (sym (ap measures_or h)) (omega (arith, flat-le (map cell_jacobian (cells_of d s)), length-map (cells_of d s) cell_jacobian, cells-le d s))
    go false h = absurd (let z : ◌≡◌ {A = ℕ} 0 1 = cc in omega arith)

-- ---- the eight counts

eight-fit : (m : ℕ) {a b c d e f g h : ℕ} → a ≤ m → b ≤ m → c ≤ m → d ≤ m → e ≤ m → f ≤ m → g ≤ m → h ≤ m → all (λ n. leb n m) (a ∷ b ∷ c ∷ d ∷ e ∷ f ∷ g ∷ h ∷ []) ≡ true
eight-fit m ha hb hc hd he hf hg hh = rw (le-leb _ m ha, le-leb _ m hb, le-leb _ m hc, le-leb _ m hd, le-leb _ m he, le-leb _ m hf, le-leb _ m hg, le-leb _ m hh)

module _ (d : Domain) (x : Lent) (w : Work) (q : Quality) (t : Bool) where
  pub counts-fit : assessed_of (quality_rule d x w) ≡ Ok (record { quality = q; is_tight = t }) → all (λ n. leb n (4 * limit)) (eight_counts q) ≡ true
  unfolding quality_of
  counts-fit e =
      let T = told d x w q t e in
      let few = (admitted (measurable_verdict d) x w T.admitted).sheet.few in
      let C = (accepted d x w T.admitted).counts in
      let np = x.counts.points in
      let nq = x.counts.quads in
      let S = (held x).quads in
      let k = length-quads nq x.quads in
      let p = few.points≤ in
      let s = few.quads≤ in
      rw T.is
      (eight-fit (4 * limit) {a = length S} {b = irregular np S} {c = boundary_edges np S} {d = nonmanifold_edges np S} {e = orientation_errors np S} {f = bad_links np S} {g = duplicate_faces S} {h = T.measures.invalid_cells} (omega (arith, k, s)) (omega (arith, irregular-le np S, p)) (omega (arith, boundary-le np nq x.quads C.sheet C.good, s)) (omega (arith, nonmanifold-le np nq x.quads C.sheet C.good, s))
      (omega (arith, orientation-le np nq x.quads C.sheet C.good, s)) (omega (arith, links-le np S, p)) (omega (arith, duplicates-le S, k, s)) (omega (arith, invalid-le d (held x) T.measures T.measured, k, s)))

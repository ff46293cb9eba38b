-- The answers of the parts are that of the rule. Assumes nothing.
use Prim.Native.Nat.{ℕ, ◌+◌, ◌*◌, ◌≤◌}
use mathlib.Core.Path.{◌≡◌, sym, ◌∙◌}
use mathlib.Core.Bool.{Bool}
use mathlib.Core.List.{List}
use native.Mathlib.Omega.{arith}
use lib.ListN.{length}
use Rattle.lists.specs.Sort.{tabulate}
use Rattle.lists.specs.Regions.{Part, Out, Kept}
use Rattle.lists.proofs.Regions.{part-kept}
use Rattle.setting.specs.Settings.{Domain}
use Rattle.rule_sheet.specs.Flat.{quads_of}
use Rattle.rule_sheet.specs.Lent.{Lent, Work, held}
use Rattle.rule_admission.specs.Admission.{measurable}
use Rattle.sheet.proofs.Flat.{length-quads}
use Rattle.sheet.proofs.Tests.{length-points}
use Rattle.incidence.specs.Corners.{first_at, corners_at}
use Rattle.edges.specs.declared.EdgeCounts.{EdgeCounts}
use Rattle.edges.specs.Steps.{edge_counts}
use Rattle.quality_counts.specs.Steps.{tight_by}
use Rattle.rule_quality.specs.Census.{duplicate_faces, tight}
use Rattle.quality_counts.proofs.Tight.{tight-counts}
use Rattle.quality_links.specs.Links.{LinkRoom}
use Rattle.rule_quality.specs.declared.Measures.{Measures}
use Rattle.rule_quality.specs.Measure.{measure_rule}
use Rattle.quality.specs.declared.PointCounts.{PointCounts}
use Rattle.rule_quality.specs.Quality.{quality_of, assessment_of, with_counts, quality_rule, assessed_of}
use Rattle.quality.specs.Quality.{point_counts, Countable}
use Rattle.std.specs.Prelude.{Ok, Err}
use Rattle.rule_quality.specs.Quality.{Assessed}
use Rattle.rule_sheet.specs.declared.Refusal.{Refusal}
use Rattle.rule_sheet.specs.Verdicts.{Accepted}

-- the slice after the numbers of quads are taken has what the links ask
pub link-room : {np nq m : ℕ} {Q v w : List ℕ} → Countable np nq Q m → m ≡ length v → Part (0 * (np + nq)) (np + 1) (tabulate (first_at nq Q) (np + 1)) v → Part (2 * (np + nq)) (4 * nq) (corners_at np nq Q) v → Kept (Out (10 * (np + nq)) np) v w
    → LinkRoom np nq Q (0 * (np + nq)) (2 * (np + nq)) (11 * (np + nq)) (12 * (np + nq)) w
link-room {np} {nq} {m} {Q} {v} {w} C e S O K =
    let len : length w ≡ m = K.len ∙ sym e in
    let room : 64 * (np + nq) ≤ length w = omega (arith, C.room) in
    let some = C.some in
    record {
      sheet = C.sheet;
      good = C.good;
      points = C.points;
      begin = part-kept S K (λ i p q a b. omega arith);
      at = part-kept O K (λ i p q a b. omega arith);
      in_deg = omega arith;
      in_acc = omega arith;
      starts_deg = λ i p q a b. omega arith;
      starts_acc = λ i p q a b. omega arith;
      order_deg = λ i p q a b. omega arith;
      order_acc = λ i p q a b. omega arith;
      deg_acc = λ i p q a b. omega arith;
    }

-- the record of the counts
pub counted : (n nq : ℕ) (Q : List ℕ) (m : Measures) (p : PointCounts) (e : EdgeCounts) (d : ℕ) (t : Bool)
    → p ≡ point_counts n (quads_of nq Q) → e ≡ edge_counts n (quads_of nq Q) → d ≡ duplicate_faces (quads_of nq Q) → t ≡ tight_by e p.bad_links
    → record {
      quality = record {
        quads = nq;
        irregular_vertices = p.irregular;
        boundary_edges = e.boundary;
        nonmanifold_edges = e.nonmanifold;
        orientation_errors = e.orientation;
        bad_vertex_links = p.bad_links;
        duplicate_faces = d;
        minimum_shape = m.minimum_shape;
        shape_size_p05 = m.shape_size_p05;
        shape_size_mean = m.shape_size_mean;
        minimum_sampled_jacobian = m.minimum_sampled_jacobian;
        invalid_cells = m.invalid_cells;
      };
      is_tight = t;
    } ≡ assessment_of n (quads_of nq Q) m
unfolding quality_of point_counts edge_counts
counted n nq Q m p e d t ep ee ed et = rw (et, ep, ee, ed, length-quads nq Q, tight-counts n (quads_of nq Q))

-- ---- the refusals in order

module _ (d : Domain) (x : Lent) (w : Work) where
  -- 12, 13, 1, 5, 6 or 7
  pub rule-refused : (k : Refusal) → measurable d x w ≡ Err k → Err k ≡ assessed_of (quality_rule d x w)
  unfolding quality_rule
  rule-refused k e = rw e

  -- 11, or the record
  pub rule-assessed : (r : Assessed) → measurable d x w ≡ Accepted → r ≡ assessed_of (with_counts x.counts.points (held x).quads (measure_rule d (held x))) → r ≡ assessed_of (quality_rule d x w)
  unfolding quality_rule
  rule-assessed r e g = rw (e, length-points x.counts.points x.points) g

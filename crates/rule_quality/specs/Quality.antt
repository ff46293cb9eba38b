-- The measured sheet: the record of `quality`, and its refusals in order. Document 01, "The measured sheet".
use Rattle.std.specs.Prelude.{ℕ, Bool, ◌&&◌, List, [], ◌∷◌, eqb, length, Result, Ok, Err}
use Rattle.numeric.specs.Num.{finite_of}
use Rattle.setting.specs.Settings.{Domain}
use Rattle.rule_sheet.specs.declared.Refusal.{Refusal}
use Rattle.rule_sheet.specs.Quads.{Quad}
use Rattle.rule_sheet.specs.Lent.{Lent, Work, held}
use Rattle.rule_sheet.specs.Outcomes.{Outcome, refuses, gives, after_test}
use Rattle.rule_admission.specs.Admission.{measurable}
use Rattle.rule_quality.specs.Census.{irregular, bad_links, duplicate_faces, tight}
use Rattle.rule_sheet.specs.Edges.{boundary_edges, nonmanifold_edges, orientation_errors}
use Rattle.rule_quality.specs.declared.Measures.{Measures}
use Rattle.rule_quality.specs.Measure.{measure_rule}
use Rattle.rule_quality.specs.declared.report.Quality.{Quality}
use Rattle.rule_quality.specs.declared.report.Assessment.{Assessment}
use Rattle.rule_quality.specs.Measure.{Measured}

-- "`is_valid` as in 000": "boundary_edges == 0 && nonmanifold_edges == 0 && orientation_errors == 0 &&
-- bad_vertex_links == 0 && duplicate_faces == 0 && invalid_cells == 0 && minimum_sampled_jacobian.is_finite()"
unfoldable pub is_valid : Quality → Bool
is_valid q =
    eqb q.boundary_edges 0
    && eqb q.nonmanifold_edges 0
    && eqb q.orientation_errors 0
    && eqb q.bad_vertex_links 0
    && eqb q.duplicate_faces 0
    && eqb q.invalid_cells 0
    && finite_of q.minimum_sampled_jacobian

-- "Twelve fields, four of them f64": the counts of n points and the quads S, and what is measured of them
unfoldable pub quality_of : ℕ → List Quad → Measures → Quality
quality_of n S m = record {
  quads = length S;
  irregular_vertices = irregular n S;
  boundary_edges = boundary_edges n S;
  nonmanifold_edges = nonmanifold_edges n S;
  orientation_errors = orientation_errors n S;
  bad_vertex_links = bad_links n S;
  duplicate_faces = duplicate_faces S;
  minimum_shape = m.minimum_shape;
  shape_size_p05 = m.shape_size_p05;
  shape_size_mean = m.shape_size_mean;
  minimum_sampled_jacobian = m.minimum_sampled_jacobian;
  invalid_cells = m.invalid_cells;
}

-- the eight counts of a record, in its order
abbrev pub eight_counts : Quality → List ℕ
eight_counts q =
    q.quads
    ∷ q.irregular_vertices
    ∷ q.boundary_edges
    ∷ q.nonmanifold_edges
    ∷ q.orientation_errors
    ∷ q.bad_vertex_links
    ∷ q.duplicate_faces
    ∷ q.invalid_cells
    ∷ []

-- the record, and beside it tight
abbrev pub assessment_of : ℕ → List Quad → Measures → Assessment
assessment_of n S m = record { quality = quality_of n S m; is_tight = tight n S }

-- the same with the counts, or the refusal of a normal
abbrev pub with_counts : ℕ → List Quad → Measured → Outcome Assessment
with_counts n S (Ok m) = gives (assessment_of n S m)
with_counts n S (Err k) = refuses k

-- `quality` of the sheet in lent slices: 12, 13, 1, 5, 6, 7, 11
unfoldable pub quality_rule : Domain → Lent → Work → Outcome Assessment
quality_rule d x w =
    after_test (measurable d x w) (with_counts (length (held x).points) (held x).quads (measure_rule d (held x)))

-- what `quality` answers: the record and tight, or a refusal
abbrev pub Assessed : Type 0
Assessed = Result Assessment Refusal

-- the answer of an outcome
abbrev pub assessed_of : Outcome Assessment → Assessed
assessed_of (refuses n) = Err n
assessed_of (gives a) = Ok a

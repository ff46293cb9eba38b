-- The record of zeros.
use Rattle.numeric.specs.Num.{zero_f}
use Rattle.rule_quality.specs.declared.report.Quality.{Quality}

-- the record of zeros
abbrev pub no_quality : Quality
no_quality = record {
  quads = 0;
  irregular_vertices = 0;
  boundary_edges = 0;
  nonmanifold_edges = 0;
  orientation_errors = 0;
  bad_vertex_links = 0;
  duplicate_faces = 0;
  minimum_shape = zero_f;
  shape_size_p05 = zero_f;
  shape_size_mean = zero_f;
  minimum_sampled_jacobian = zero_f;
  invalid_cells = 0;
}

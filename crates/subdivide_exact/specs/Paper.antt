-- "Interior points follow Catmull and Clark": worked in exact fractions instead of IEEE 754, the rule of `subdivide`
-- makes the points that the paper of 1978 makes, as smoothing/specs/CatmullClark.antt has them. Document 01, "The finer
-- sheet and the rows".
use Rattle.std.specs.Prelude.{ℕ, ◌≤◌, ◌<◌, ◌≡◌, true, false, List, [], ◌∷◌, map, eqb, length, get_or}
use Rattle.setting.specs.Settings.{Setting}
use Rattle.smoothing.specs.Fractions.{Fraction, ◌≈◌, whole_q, exact}
use Rattle.smoothing.specs.CatmullClark.{new_face_point, new_edge_point, new_vertex_point}
use Rattle.rule_sheet.specs.Quads.{Quad, quad, all, is_edge}
use Rattle.rule_sheet.specs.Sheet.{Sheet}
use Rattle.rule_sheet.specs.Lent.{Lent, Work, Room, held}
use Rattle.rule_sheet.specs.Outcomes.{gives}
use Rattle.rule_sheet.specs.Sound.{AcceptedSheet}
use Rattle.rule_finer.specs.Finer.{split, mid_of, cen_of}
use Rattle.rule_finer.specs.Smoothed.{edge_quads, point_quads, paired, is_crease, neighbours, creases, label_count}
use Rattle.rule_finer.specs.Smoothed.{smooth_places, smooth_sheet}
use Rattle.rule_finer.specs.Subdivide.{projected_sheet, subdivide_rule}

-- the corners of a quad
abbrev pub corners_of : Quad → List ℕ
corners_of (quad a b c d) = a ∷ b ∷ c ∷ d ∷ []

-- the numbers in the finer sheet of the point of an edge and of the point of a quad
abbrev pub edge_no : Sheet → ℕ → ℕ → ℕ
edge_no s u v = mid_of (length s.points) s.quads u v

abbrev pub quad_no : Sheet → ℕ → ℕ
quad_no s i = cen_of (length s.points) s.quads i

-- what point k of the finer sheet comes from
pub data Source (s : Sheet) (k : ℕ) : Type 0 where
  of_point : k < length s.points → Source s k
  of_edge : (u v : ℕ) → is_edge s.quads u v ≡ true → k ≡ edge_no s u v → Source s k
  of_quad : (i : ℕ) → i < length s.quads → k ≡ quad_no s i → Source s k

-- a sheet, and a fraction at each of its points: a coordinate's exact value, for one
module _ (s : Sheet) (at : ℕ → Fraction) where
  -- the fraction at point k of the finer sheet: `smooth_sheet` has the same list, in the arithmetic of IEEE 754
  abbrev pub finer_at : ℕ → Fraction
  finer_at k = get_or (smooth_places exact s at) k (whole_q 0)

  -- the paper's new face point of quad i
  abbrev pub face_at : ℕ → Fraction
  face_at i = new_face_point (map at (corners_of (get_or s.quads i (quad 0 0 0 0))))

  -- the edge of u and v has exactly two quads, f and g, and its point is the paper's new edge point, of its ends and
  -- of the new face points of these quads
  pub record EdgePoint (u v : ℕ) : Type 0 where
    pub f : ℕ
    pub g : ℕ
    pub different : f < g
    pub quads : edge_quads s.quads u v ≡ f ∷ g ∷ []
    pub point : finer_at (edge_no s u v) ≈ new_edge_point (at u) (at v) (face_at f) (face_at g)

  -- v has as many quads as edges, at least one, and comes to the paper's new vertex point, of the new face points of
  -- these quads and of the other ends of these edges
  pub record VertexPoint (v : ℕ) : Type 0 where
    pub some : 0 < length (point_quads s.quads v)
    pub as_many : length (neighbours s v) ≡ length (point_quads s.quads v)
    pub point : finer_at v ≈ new_vertex_point (at v) (map face_at (point_quads s.quads v)) (map at (neighbours s v))

  -- the paper's rule, where no crease is; the paper has none
  pub record FollowsPaper : Type 0 where
    -- there are new face points, new edge points and new vertex points, and no others
    pub sources : (k : ℕ) → k < length (smooth_places exact s at) → Source s k
    -- a new face point is the average of the old points of the face
    pub face_points : (i : ℕ) → i < length s.quads → finer_at (quad_no s i) ≈ face_at i
    -- a new edge point is the average of the midpoint of the edge with the average of the two new face points beside it
    pub edge_points : (u v : ℕ) → is_edge s.quads u v ≡ true → is_crease s u v ≡ false → EdgePoint u v
    -- a new vertex point is Q/n + 2R/n + S(n − 3)/n
    pub vertex_points : (v : ℕ) → v < length s.points → label_count s v ≤ 2 → creases s v ≡ [] → VertexPoint v
    -- each face becomes four: from a new vertex point over a new edge point to the new face point, and back over the
    -- other new edge point
    pub new_faces : (smooth_sheet s).quads ≡ split (edge_no s) (quad_no s) 0 s.quads

-- the theorem: it does so on every accepted sheet whose edges all have two quads, whatever fractions are at its points
unfoldable pub EverySheet : Type 0
EverySheet = (s : Sheet) (at : ℕ → Fraction) → AcceptedSheet s → paired (length s.points) s.quads ≡ true
    → FollowsPaper s at

-- no crease and no third label are in the way anywhere
pub record NoCrease (s : Sheet) : Type 0 where
  pub edges : (u v : ℕ) → is_crease s u v ≡ false
  pub points : (v : ℕ) → (label_count s v ≤ 2) × (creases s v ≡ [])

-- and that is so where all labels are the same
unfoldable pub OneLabel : Type 0
OneLabel = (s : Sheet) (l : ℕ) → AcceptedSheet s → paired (length s.points) s.quads ≡ true
    → all (eqb l) s.labels ≡ true → NoCrease s

-- a sheet t that a call of `subdivide` makes of the lent sheet x: "All are then projected", the points of x smoothed
-- by the rule that follows the paper
pub record Subdivided (s : Setting) (x : Lent) (t : Sheet) : Type 0 where
  pub projection : t ≡ projected_sheet s (smooth_sheet (held x))
  pub paper : (at : ℕ → Fraction) → FollowsPaper (held x) at

-- the same of every call that is not refused, by the rule that the contract of `subdivide` cites
unfoldable pub EveryCall : Type 0
EveryCall = (s : Setting) (x : Lent) (w : Work) (room : Room) (t : Sheet) → subdivide_rule s x w room ≡ gives t
    → Subdivided s x t

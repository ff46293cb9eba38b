-- The tests of a tried diagonal as the code makes them: loops over the corners of a point, and the state of a pass.
use Rattle.std.specs.Prelude.{ℕ, ◌+◌, ◌-◌, ◌/◌, Bool, not, ◌&&◌, ◌||◌, List, [], eqb, leb, Float, length, get_or}
use Rattle.lists.specs.Every.{every}
use Rattle.lists.specs.Sort.{tabulate}
use Rattle.rule_sheet.specs.Flat.{corner, quad_at, quads_of}
use Rattle.rule_sheet.specs.Quads.{Quad, is_edge, valence}
use Rattle.rule_sheet.specs.Sheet.{points_of}
use Rattle.rule_sheet.specs.Squared.{sq}
use Rattle.sheet.specs.Flat.{to, before}
use Rattle.sheet.specs.Edges.{point_corners}
use Rattle.rule_coarsen.specs.Coarse.{MergeState, has_corner, share_only, no_further, near_free, sum_before, sum_after}
use Rattle.rule_coarsen.specs.Invariants.{slots_of}
use Rattle.pass_map.specs.Regions.{start_in}
use Rattle.coarsen_merge.specs.declared.Sums.{Sums}
use Rattle.coarsen_merge.specs.Regions.{used_in}
use Rattle.coarsen_masks.specs.Masks.{masks_joined}

-- ---- gain

-- the sum over four corners before a merge, by how many quads each has
unfoldable pub sum_of_four : ℕ → ℕ → ℕ → ℕ → ℕ
sum_of_four a b c d = sq a + (sq b + (sq c + sq d))

-- and after it
unfoldable pub sum_of_three : ℕ → ℕ → ℕ → ℕ → ℕ
sum_of_three a b c d = sq (a + c - 2) + (sq (b - 1) + sq (d - 1))

-- ---- corners

-- m is no mark
abbrev pub unmarked : List ℕ → ℕ → Bool
unmarked U v = eqb (get_or U v 0) 0

-- no corner of quad q is marked
unfoldable pub quad_free : List ℕ → List ℕ → ℕ → Bool
quad_free Q U q =
    unmarked U (corner Q q 0) && unmarked U (corner Q q 1) && unmarked U (corner Q q 2) && unmarked U (corner Q q 3)

-- no corner of the quad of corner t of a list is marked
abbrev pub free_at : List ℕ → List ℕ → List ℕ → ℕ → Bool
free_at cs Q U t = quad_free Q U (get_or cs t 0 / 4)

-- the quad of corner t of a list is f, or has not the corner v
abbrev pub not_further : List ℕ → List ℕ → ℕ → ℕ → ℕ → Bool
not_further cs Q f v t = eqb (get_or cs t 0 / 4) f || not (has_corner (quad_at Q (get_or cs t 0 / 4)) v)

-- the neighbour x is one of the other two corners, or no neighbour of v
abbrev pub apart_from : List Quad → ℕ → ℕ → ℕ → ℕ → Bool
apart_from S b d v x = eqb x b || eqb x d || not (is_edge S v x)

-- both neighbours at corner c are
abbrev pub shares_at : List ℕ → List Quad → ℕ → ℕ → ℕ → ℕ → Bool
shares_at Q S b d v c = apart_from S b d v (before Q c) && apart_from S b d v (to Q c)

-- both neighbours at corner t of a list are
abbrev pub shares_none : List ℕ → List ℕ → List Quad → ℕ → ℕ → ℕ → ℕ → Bool
shares_none cs Q S b d v t = shares_at Q S b d v (get_or cs t 0)

-- no quad at v has a marked corner
unfoldable pub free_around : List ℕ → List ℕ → ℕ → ℕ → Bool
free_around Q U n v = every (free_at (point_corners Q n v) Q U) (length (point_corners Q n v))

-- no quad at v has the corner u, but quad f
unfoldable pub none_further : List ℕ → ℕ → ℕ → ℕ → ℕ → Bool
none_further Q n f v u = every (not_further (point_corners Q n v) Q f u) (length (point_corners Q n v))

-- v and u share only the neighbours b and d
unfoldable pub shared_only : List ℕ → ℕ → ℕ → ℕ → ℕ → ℕ → Bool
shared_only Q n v b u d =
    every (shares_none (point_corners Q n v) Q (quads_of n Q) b d u) (length (point_corners Q n v))

-- ---- the state of a pass

-- point v is barred
abbrev pub is_marked : List ℕ → ℕ → Bool
is_marked U v = not (unmarked U v)

-- the barred points of n
unfoldable pub used_of : ℕ → List ℕ → List Bool
used_of n U = tabulate (is_marked U) n

-- the state: coordinates P, quads Q, marks R of the quads that are out, marks U of the barred points, and the merges so
-- far
unfoldable pub state_of : ℕ → ℕ → List Float → List ℕ → List ℕ → List ℕ → ℕ → MergeState
state_of np nq P Q R U k = record { slots = slots_of nq Q R; used = used_of np U; points = points_of np P; count = k }

-- ---- the tests of a diagonal

-- the labels do not matter to the tests that read no mask
abbrev pub no_labels : List ℕ
no_labels = []

-- the sums before and after a merge of a and c
unfoldable pub gain_of : ℕ → ℕ → ℕ → ℕ → ℕ → ℕ → List ℕ → Sums
gain_of np nq a b c d w =
    record {
      before = sum_before np (start_in np nq w) no_labels a b c d;
      after = sum_after np (start_in np nq w) no_labels a b c d;
    }

-- a and c share only b and d as neighbours, and no further quad than f
unfoldable pub meet_only : ℕ → ℕ → ℕ → ℕ → ℕ → ℕ → ℕ → List ℕ → Bool
meet_only np nq f a b c d w =
    share_only np (start_in np nq w) no_labels a b c d && no_further np (start_in np nq w) no_labels f a c

-- the tests that read masks and numbers of quads
unfoldable pub worth_it : ℕ → ℕ → ℕ → ℕ → ℕ → ℕ → List ℕ → Bool
worth_it np nq a b c d w =
    masks_joined (get_or w a 0) (get_or w c 0) && leb 4 (valence (start_in np nq w) b)
    && leb 4 (valence (start_in np nq w) d)
    && leb (sum_after np (start_in np nq w) no_labels a b c d) (sum_before np (start_in np nq w) no_labels a b c d)

-- all tests of a diagonal that do not read the points
unfoldable pub allowed_in : ℕ → ℕ → ℕ → ℕ → ℕ → ℕ → ℕ → List ℕ → Bool
allowed_in np nq f a b c d w =
    worth_it np nq a b c d w
    && (meet_only np nq f a b c d w && near_free np (start_in np nq w) no_labels (used_of np (used_in np nq w)) a c)

-- The search for the merge in a quad, its two diagonals one after the other; and the visits of all quads in the words
-- of the rule.
use Rattle.std.specs.Prelude.{ℕ, zero, suc, ◌+◌, ◌-◌, ◌%◌, max, Bool, cond, ◌&&◌, List, [], ltb, Float, get_or, take}
use Rattle.std.specs.Prelude.{Option, None, Some}
use Rattle.lists.specs.Every.{every}
use Rattle.points.specs.declared.Point.{Point}
use Rattle.points.specs.Points.{point_at, halfway_p}
use Rattle.field.specs.declared.Field.{Field}
use Rattle.band.specs.declared.Band.{Band}
use Rattle.projection.specs.Project.{longest_move, look_count, project_with}
use Rattle.rule_sheet.specs.Flat.{corner}
use Rattle.rule_sheet.specs.Sheet.{Sheet}
use Rattle.rule_coarsen.specs.Merges.{out}
use Rattle.rule_coarsen.specs.Coarse.{MergeState, MergeFits, Position, try_face, visit}
use Rattle.rule_passes.specs.Choices.{take_or}
use Rattle.rule_coarsen.specs.MergeFits.{merge_at, merge_fits, merge_position}
use Rattle.coarsen_shapes.specs.MergeFits.{stays_at}
use Rattle.pass_map.specs.Regions.{was_in, start_in}
use Rattle.coarsen_merge.specs.Regions.{used_in, removed_in}
use Rattle.coarsen_merge.specs.Steps.{unmarked, quad_free, state_of, allowed_in, gain_of}
use Rattle.coarsen_search.specs.declared.Candidate.{Candidate}
use Rattle.coarsen_search.specs.declared.Diagonal.{Diagonal}

-- diagonal k of quad f, whose corners are those of the flat list Q
unfoldable pub diagonal_of : List ℕ → ℕ → ℕ → Diagonal
diagonal_of Q f k =
    record {
      face = f;
      a = corner Q f k;
      b = corner Q f (k + 1);
      c = corner Q f (k + 2);
      d = corner Q f ((k + 3) % 4);
    }

-- what a search finds
abbrev pub Choice : Type 0
Choice = Option Candidate

-- of two candidates the second only if it gains more: "the higher gain wins, the first on a tie"
unfoldable pub better_of : Choice → Candidate → Choice
better_of None y = Some y
better_of (Some x) y = cond (ltb x.gain y.gain) (Some y) (Some x)

-- ---- as the code finds them

-- where a diagonal's merge lands
unfoldable pub landing_of : Diagonal → Band → Float → List Float → List ℕ → Option Point
landing_of g b len P w =
    project_with b len longest_move look_count (halfway_p (point_at P g.a) (point_at P g.c))
    (max (get_or w g.a 0) (get_or w g.c 0))

-- the quads at the point v stay
abbrev pub stay_around : ℕ → ℕ → Diagonal → Field → Float → Point → List Float → List ℕ → List ℕ → ℕ → Bool
stay_around np nq g f len p P labels w v =
    every (stays_at f len (point_at P) labels (was_in np nq w) (merge_at g.face g.a g.c p) v) nq

-- the candidate of a diagonal
abbrev pub candidate_of : ℕ → ℕ → Diagonal → Point → List ℕ → Candidate
candidate_of np nq g p w =
    record {
      gain = (gain_of np nq g.a g.b g.c g.d w).before - (gain_of np nq g.a g.b g.c g.d w).after;
      a = g.a;
      c = g.c;
      to = p;
    }

-- the better of what was found and a diagonal whose merge lands at p
unfoldable pub weighed_of : ℕ → ℕ → Diagonal → Field → Float → Point → List Float → List ℕ → List ℕ → Choice → Choice
weighed_of np nq g f len p P labels w best =
    cond (stay_around np nq g f len p P labels w g.a && stay_around np nq g f len p P labels w g.c)
    (better_of best (candidate_of np nq g p w))
    best

-- what a landing makes of what was found: "If projecting the halfway point is refused, that diagonal is passed over."
abbrev pub after_landing
    : ℕ → ℕ → Diagonal → Field → Float → List Float → List ℕ → List ℕ → Choice → Option Point → Choice
after_landing np nq g f len P labels w best (Some p) = weighed_of np nq g f len p P labels w best
after_landing np nq g f len P labels w best None = best

-- what a diagonal makes of it: passed over too where the rule does not allow it
unfoldable pub after_diagonal : ℕ → ℕ → Diagonal → Band → Float → List Float → List ℕ → List ℕ → Choice → Choice
after_diagonal np nq g b len P labels w best =
    cond (allowed_in np nq g.face g.a g.b g.c g.d w)
    (after_landing np nq g b.field len P labels w best (landing_of g b len P w))
    best

-- the choice after the first k diagonals of quad f
unfoldable pub found_to : ℕ → ℕ → Band → Float → List Float → List ℕ → List ℕ → List ℕ → ℕ → ℕ → Choice
found_to np nq b len P Q labels w f zero = None
found_to np nq b len P Q labels w f (suc k) =
    after_diagonal np nq (diagonal_of Q f k) b len P labels w (found_to np nq b len P Q labels w f k)

-- ---- in the words of the rule

-- the quads and labels at the pass's start, as the parameters of the rule read them
abbrev pub start_sheet : ℕ → ℕ → List ℕ → List ℕ → Sheet
start_sheet np nq labels w = record { points = []; quads = start_in np nq w; labels = take nq labels }

-- the rule's part that reads the points, and its position
abbrev pub fits_in : Band → ℕ → ℕ → List ℕ → List ℕ → MergeFits
fits_in b np nq labels w = merge_fits b (start_sheet np nq labels w)

abbrev pub position_in : Band → ℕ → ℕ → List ℕ → List ℕ → Position
position_in b np nq labels w = merge_position b (start_sheet np nq labels w)

-- the state after the visit of quad f
abbrev pub visited : Band → ℕ → ℕ → List ℕ → List ℕ → ℕ → MergeState → MergeState
visited b np nq labels w f st =
    take_or st
    (try_face np (start_in np nq w) (take nq labels) (fits_in b np nq labels w) (position_in b np nq labels w) st f
    (get_or st.slots f out))

-- the state that the slices have
abbrev pub state_in : ℕ → ℕ → List Float → List ℕ → List ℕ → ℕ → MergeState
state_in np nq P Q w k = state_of np nq P Q (removed_in np nq w) (used_in np nq w) k

-- quad f is still here, and none of its corners is barred
unfoldable pub tried_in : ℕ → ℕ → ℕ → List ℕ → List ℕ → Bool
tried_in np nq f Q w = unmarked (removed_in np nq w) f && quad_free Q (used_in np nq w) f

-- the state after the visits of the m quads from quad f on
abbrev pub visits_from : Band → ℕ → ℕ → List ℕ → List ℕ → ℕ → ℕ → MergeState → MergeState
visits_from b np nq labels w m f st =
    visit np (start_in np nq w) (take nq labels) (fits_in b np nq labels w) (position_in b np nq labels w) m f st

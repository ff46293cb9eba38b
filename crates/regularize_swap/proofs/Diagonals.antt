-- What the valences and the edge map say of a diagonal. Assumes nothing.
use Prim.Native.Nat.{ℕ, ◌+◌, ◌*◌, ◌≤◌, ◌<◌}
use mathlib.Core.Path.{◌≡◌, refl, ◌∙◌}
use mathlib.Core.Bool.{Bool, true, false, not, ◌&&◌}
use mathlib.Core.List.{List}
use native.Mathlib.Omega.{arith}
use lib.ListN.{length, get_or}
use borrow.Author.Tests.{le-leb}
use Rattle.lists.proofs.Regions.{part-get, part_of, part-len}
use Rattle.rule_sheet.specs.Quads.{is_edge}
use Rattle.edges.proofs.Walk.{walked-of}
use Rattle.regularize_shapes.specs.declared.Diagonal.{Diagonal}
use Rattle.regularize_shapes.specs.declared.Six.{Six}
use Rattle.regularize_shapes.specs.SwapFits.{SixBelow, turned}
use Rattle.regularize_shapes.proofs.SwapFits.{turned-below}
use Rattle.pass_map.specs.Regions.{was_at, edges_at, was_in, start_in}
use Rattle.pass_map.specs.Conditions.{MapHolds}
use Rattle.regularize_swap.specs.Regions.{sum_in, edge_corner}
use Rattle.regularize_swap.specs.Steps.{open_in}

pub ends-below : {np : ℕ} {h : Six} (k : Diagonal) (g : Six) → SixBelow np h → g ≡ turned h k → (g.h0 < np) × (g.h3 < np)
ends-below k g B e = let G = turned-below k B in rw e (G.h0<, G.h3<)

pub open-yes : (np nq : ℕ) (w : List ℕ) (h : Six) (k : Diagonal) (g : Six) → g ≡ turned h k → (x y : ℕ) → x ≡ sum_in np nq w g.h0 g.h3 → y ≡ sum_in np nq w h.h0 h.h3
    → (m : ℕ) (r : Bool) → r ≡ is_edge (start_in np nq w) g.h0 g.h3 → x + 2 + m ≤ y → not r ≡ open_in np nq m h k w
open-yes np nq w h k g e x y ex ey m r er l = rw (← e, ← ex, ← ey, le-leb (x + 2 + m) y l, ← er) (yes r)
  where
    yes : (b : Bool) → not b ≡ (not b && true)
    yes true = refl
    yes false = refl

pub corner-told : {np nq : ℕ} {w : List ℕ} (i r : ℕ) → MapHolds np nq w → i < 4 * nq → r ≡ get_or w (edges_at np nq + i) 0
    → (r ≡ edge_corner np nq w i) × (r < 4 * nq)
corner-told {np} {nq} {w} i r H h e =
    let M = H.edges in
    let a : r ≡ edge_corner np nq w i = e ∙ part-get 0 i (part_of (edges_at np nq) (4 * nq) w M.at.fits) h in
    let k = (walked-of M.sheet M.at).known i h in
    let l : length (was_in np nq w) ≡ 4 * nq = part-len (part_of (was_at np nq) (4 * nq) w M.in_was) in
    (a, omega arith)

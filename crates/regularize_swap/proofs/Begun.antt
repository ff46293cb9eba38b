-- What begins a pass: the map of its start, and no marks. Assumes nothing.
use Prim.Native.Nat.{ℕ, ◌+◌, ◌-◌}
use mathlib.Core.Path.{◌≡◌, ◌∙◌}
use mathlib.Core.Bool.{false}
use mathlib.Core.List.{List}
use native.Mathlib.Omega.{arith}
use lib.ListN.{length, replicate, get_or-replicate}
use borrow.Rule.Slice.PartMut.{mid_of, put_mid}
use Rattle.lists.proofs.Laws.{always, tab-ext, tab-same}
use Rattle.lists.proofs.Regions.{part-get, part-kept, lent-all}
use Rattle.rule_sheet.specs.Flat.{quads_of}
use Rattle.rule_sheet.specs.Claims.{All, Differ}
use Rattle.incidence.proofs.Bounds.{bounded-kept}
use Rattle.pass_map.specs.Conditions.{MapAsks, MapLeaves}
use Rattle.pass_map.proofs.Maps.{start_is}
use Rattle.regularize_swap.specs.Regions.{marks_at, bars_of}
use Rattle.regularize_swap.specs.Conditions.{BeginPassLeaves}
use Rattle.regularize_swap.proofs.Bars.{marks-kept, start-kept}

-- e has the map of the quads Q, and the marks came back as y
pub begun : {np nq : ℕ} {Q v e : List ℕ} → MapAsks np nq Q v → All Differ (quads_of nq Q) → MapLeaves np nq Q v e
    → (y : List ℕ) → y ≡ replicate (length (mid_of (marks_at np nq) (marks_at np nq + nq - marks_at np nq) e)) 0
    → BeginPassLeaves np nq Q (put_mid (marks_at np nq) (marks_at np nq + nq - marks_at np nq) e y)
unfolding bars_of
begun {np} {nq} {Q} {v} {e} A D M y z =
    let L = lent-all 0 (marks_at np nq) nq e y (omega (arith, M.map.work.long)) z in
    let K = L.kept in
    record {
      holds = record {
        sheet = A.sheet;
        map = marks-kept M.map K;
        valences = part-kept M.valences K (λ i p q r t. omega arith);
        differ = D;
        bounded = bounded-kept (M.bounded D) K (λ i p q r t. omega arith);
      };
      start = rw (start-kept M.map K) (start_is M);
      bars = tab-ext _ (always false) nq (λ q h. rw (part-get 0 q L.part h, get_or-replicate {A = ℕ} nq q 0 0 h)) ∙ tab-same false nq;
    }

-- The mean of the crossings of a group, added up edge by edge from their paths. Assumes nothing.
use Prim.Native.Nat.{ℕ, suc, ◌+◌, ◌/◌, ◌≤◌, ◌<◌}
use mathlib.Core.Path.{◌≡◌, refl, sym, ap, ◌∙◌}
use mathlib.Core.Bool.{Bool, true, false}
use mathlib.Core.List.{List, [], ◌∷◌, ◌++◌, map, foldl, map-append, foldl-append, append-nil}
use native.Mathlib.Omega.{arith}
use native.Mathlib.Numerals.{add-one}
use lib.Dec.{eqb}
use lib.ListN.{length, length-append}
use lib.Ieee.{Float, binary64, div}
use Rattle.lists.specs.Sort.{tabulate, itself, cons_if, keep}
use Rattle.lists.proofs.Every.{and_left}
use Rattle.points.specs.declared.Point.{Point}
use Rattle.points.specs.Points.{one, add_p, mul_p, origin}
use Rattle.rule_extract.specs.declared.Grid.{Grid}
use Rattle.rule_extract.specs.declared.Site.{Site}
use Rattle.numeric.specs.Num.{float}
use Rattle.extract_crossings.specs.Crossings.{replay_from}
use Rattle.rule_extract.specs.Crossings.{edge_span, halvings}
use Rattle.extract_crossings.proofs.Paths.{replay-crossing}
use Rattle.rule_extract.specs.Cells.{bit_of}
use Rattle.extract_cells.specs.Cells.{kind_of}
use Rattle.extract_cells.proofs.Bits.{kind-edge}
use Rattle.rule_extract.specs.Lattice.{case_of, edge_site}
use Rattle.rule_extract.specs.Paths.{edge_crosses}
use Rattle.extract_paths.specs.Paths.{edge_path}
use Rattle.extract_points.specs.declared.Sum.{Sum}
use Rattle.rule_extract.specs.Drawing.{is_member, members_of, crossing_at, mean_of}
use Rattle.extract_points.specs.Slots.{is_member_in, added_if}
use Rattle.lists.proofs.Laws.{keep_append}

-- a crossing is found again by the path in its slot
pub crossing-read : (g : Grid) (c : Site) {d : Site} {r : Point} (e p : ℕ) → p ≡ edge_path g c e → d ≡ edge_site c e
    → r ≡ replay_from halvings (edge_span g d (e / 4)) p → r ≡ crossing_at g c e
unfolding crossing_at
crossing-read g c e p x q f = f ∙ rw (q, x) (replay-crossing g (edge_site c e) (e / 4))

-- a member of a group crosses
pub member-crosses : (g : Grid) (c : Site) {kind : ℕ} {b : Bool} (group k e : ℕ) → kind ≡ kind_of (bit_of (case_of g c)) → e < 12 → b ≡ is_member_in kind group k e → b ≡ true → edge_crosses g c e ≡ true
member-crosses g c {kind} group k e q h f t =
    sym (kind-edge (bit_of (case_of g c)) kind e q h) ∙ and_left (bit_of kind e) (eqb group k) (sym f ∙ t)

-- the crossings of the group k on the first e edges
pub part_to : Grid → Site → ℕ → ℕ → List Point
part_to g c k e = map (crossing_at g c) (keep (is_member g c k) (tabulate itself e))

part-suc : (g : Grid) (c : Site) (k e : ℕ) (b : Bool) → is_member g c k e ≡ b → part_to g c k (suc e) ≡ part_to g c k e ++ cons_if b (crossing_at g c e) []
unfolding part_to tabulate
part-suc g c k e b q =
    ap (map (crossing_at g c)) (keep_append (is_member g c k) (tabulate itself e) (e ∷ []))
    ∙ map-append (crossing_at g c) (keep (is_member g c k) (tabulate itself e)) (cons_if (is_member g c k e) e [])
    ∙ ap (λ l. part_to g c k e ++ l) (rw q (mapped b))
  where
    mapped : (b : Bool) → map (crossing_at g c) (cons_if b e []) ≡ cons_if b (crossing_at g c e) []
    mapped true = refl
    mapped false = refl

-- the sum of the crossings of the group k on the first e edges
pub record Summing (g : Grid) (c : Site) (k : ℕ) (s : Sum) (e : ℕ) : Type 0 where
  pub count≤ : s.count ≤ e
  pub point_is : s.point ≡ foldl add_p origin (part_to g c k e)
  pub count_is : s.count ≡ length (part_to g c k e)

pub summing_start : (g : Grid) (c : Site) (k : ℕ) {p : Point} → p ≡ origin → Summing g c k (record { point = p; count = 0 }) 0
unfolding part_to tabulate
summing_start g c k o = record { count≤ = omega arith; point_is = o; count_is = refl }

turn_by : (g : Grid) (c : Site) (k e : ℕ) (s : Sum) → Summing g c k s e → (b : Bool) → is_member g c k e ≡ b → Summing g c k (added_if b s (crossing_at g c e)) (e + 1)
unfolding added_if
turn_by g c k e s S true q =
    let p = rw (← add-one e) at (part-suc g c k e true q) in
    let l = S.count≤ in
    record {
      count≤ = omega arith;
      point_is = rw (p, S.point_is) (sym (foldl-append add_p origin (part_to g c k e) (crossing_at g c e ∷ [])));
      count_is = rw (p, S.count_is) (sym (length-append (part_to g c k e) (crossing_at g c e ∷ [])));
    }
turn_by g c k e s S false q =
    let p = rw (← add-one e) at (part-suc g c k e false q) in
    let l = S.count≤ in
    record {
      count≤ = omega arith;
      point_is = rw (p, append-nil (part_to g c k e)) S.point_is;
      count_is = rw (p, append-nil (part_to g c k e)) S.count_is;
    }

pub summing-turn : {g : Grid} {c : Site} {k e : ℕ} {s t : Sum} {b : Bool} → Summing g c k s e → b ≡ is_member g c k e → t ≡ added_if b s (crossing_at g c e) → Summing g c k t (e + 1)
summing-turn {g} {c} {k} {e} {s} {b = b} S q f = rw f (turn_by g c k e s S b (sym q))

pub summing-end : {g : Grid} {c : Site} {k e : ℕ} {s : Sum} {r : Point} {y : Float} → Summing g c k s e → e ≡ 12 → y ≡ float s.count → r ≡ mul_p s.point (div binary64 one y)
    → r ≡ mean_of (map (crossing_at g c) (members_of g c k))
unfolding mean_of members_of part_to
summing-end S z q f = f ∙ rw (q, S.point_is, S.count_is, z)

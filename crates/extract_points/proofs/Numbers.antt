-- The numbers of the points of a cell in its slots. Assumes nothing.
use Rattle.extract_paths.proofs.Slots.{no-crossing}
use Rattle.extract_points.proofs.Counts.{rank_is, no-points}
use Rattle.rule_sheet.specs.Edges.{join_to}
use Rattle.lists.proofs.Laws.{eq-or-ne}
use lib.Seq.{get_or-set_same, get_or-set_other}
use mathlib.Core.Logic.{⊎_elim, ◌⊎◌}
use Prim.Native.Nat.{ℕ, ◌+◌, ◌%◌, ◌≤◌, ◌<◌, ◌*◌}
use mathlib.Core.Path.{◌≡◌, sym, ap, ◌∙◌, refl}
use mathlib.Core.Bool.{Bool, true, false, cond, false≢true}
use mathlib.Core.List.{List, [], ◌∷◌}
use native.Mathlib.Omega.{arith}
use lib.ListN.{get_or, length, set}
use lib.Ieee.{Float, lt}
use borrow.Author.Tests.{eq-eqb, ne_eqb}
use Rattle.points.specs.declared.Point.{Point}
use Rattle.rule_extract.specs.declared.Grid.{Grid}
use Rattle.rule_extract.specs.declared.Site.{Site}
use Rattle.rule_extract.specs.declared.Sampled.{Sampled}
use Rattle.rule_extract.specs.Samples.{farther_of, levels_of, axis_of, sample_of}
use Rattle.rule_extract.specs.Cells.{bit_of}
use Rattle.extract_cells.proofs.Faces.{twelve-groups}
use Rattle.extract_cells.proofs.Bits.{kind-edge}
use Rattle.rule_extract.specs.Paths.{edge_crosses}
use Rattle.extract_paths.specs.Paths.{edge_path}
use Rattle.rule_extract.specs.Lattice.{case_of, cell_groups, centre_inside, index_of, site_at}
use Rattle.rule_extract.specs.Drawing.{crossing_at, group_points, points_to, number_of, points_in, cell_points}
use Rattle.extract_points.specs.Slots.{Known, label_of, CellPaths, rank_in, slot_number, numbered_if, Numbered, put_points}

-- ---- labels are below 8

label-by : (b : Bool) (s t : Sampled) → s.label < 8 → t.label < 8 → (cond b s t).label < 8
label-by true s t h l = h
label-by false s t h l = l

farther-low : (s : Sampled) (d : Float) (l : ℕ) → s.label < 8 → l < 8 → (farther_of s d l).label < 8
unfolding farther_of
farther-low s d l h k = label-by (lt s.distance d) (record { distance = d; label = l }) s k h

axis-low : (s : Sampled) (lo hi x : Float) (l : ℕ) → s.label < 8 → l < 7 → (axis_of s lo hi x l).label < 8
unfolding axis_of
axis-low s lo hi x l h k = farther-low _ _ (l + 1) (farther-low s _ l h (omega arith)) (omega arith)

levels-low : (v lower upper scale : Float) → (levels_of v lower upper scale).label < 8
unfolding levels_of
levels-low v lower upper scale = farther-low _ _ 1 (omega arith) (omega arith)

pub sample-low : (g : Grid) (p : Point) → (sample_of g p).label < 8
unfolding sample_of
sample-low g p = axis-low _ _ _ _ 6 (axis-low _ _ _ _ 4 (axis-low _ _ _ _ 2 (levels-low _ _ _ _) (omega arith)) (omega arith)) (omega arith)

-- the label of a slot, by the sample at its crossing
pub label_is : (g : Grid) (c : Site) (e : ℕ) {s : Sampled} {p : Point} → e % 4 ≡ 0 → s ≡ sample_of g p → p ≡ crossing_at g c e → (s.label ≡ label_of g c e) × (s.label < 8)
unfolding label_of
label_is g c e {s} {p} z q f =
    (rw (eq-eqb (e % 4) 0 z) (ap (λ t. t.label) (q ∙ ap (sample_of g) f)), rw q (sample-low g p))

pub no_label : (g : Grid) (c : Site) (e : ℕ) → (e % 4 ≡ 0 → ⊥) → 0 ≡ label_of g c e
unfolding label_of
no_label g c e z = rw (ne_eqb (e % 4) 0 z)

-- the groups of a cell have numbers below 12
pub group-low : {g : Grid} {c : Site} {kind : ℕ} {G : List ℕ} (e : ℕ) → Known g c kind G → e < 12 → get_or G e 0 ≤ 12
unfolding cell_groups
group-low {g} {c} e K h = rw K.groups (let l = (twelve-groups (bit_of (case_of g c)) (centre_inside g c)).below e h in omega arith)

-- an edge crosses where the bit of its cell's kind says so
pub bit-crosses : {g : Grid} {c : Site} {kind : ℕ} {G : List ℕ} {b d : Bool} (e : ℕ) → Known g c kind G → e < 12 → b ≡ bit_of kind e → b ≡ d → edge_crosses g c e ≡ d
bit-crosses {g} {c} {kind} e K h q t = sym (kind-edge (bit_of (case_of g c)) kind e K.kinds h) ∙ (sym q ∙ t)

-- ---- the slots of a cell one after the other

pub number_is : {g : Grid} {c : Site} {kind : ℕ} {G : List ℕ} (n i first e : ℕ) → Known g c kind G → i ≡ index_of n c → first ≡ length (points_to g n i)
    → first + rank_in kind G (get_or G e 0) ≡ number_of g n c e
unfolding number_of
number_is {g} {c} {kind} {G} n i first e K q f =
    rw (f, q, rank_is (get_or G e 0) K) (ap (λ H. length (points_to g n (index_of n c)) + length (join_to (group_points g c) (get_or H e 0))) K.groups)

-- the slots of a cell once e of its edges are numbered
pub record Numbering (g : Grid) (n : ℕ) (c : Site) (i : ℕ) (v w : List ℕ) (e : ℕ) : Type 0 where
  pub done : (j : ℕ) → j < e → edge_crosses g c j ≡ true → get_or w (12 * i + j) 0 ≡ slot_number g n c j
  pub below : (k : ℕ) → k < 12 * i → get_or w k 0 ≡ get_or v k 0
  pub rest : (k : ℕ) → 12 * i + e ≤ k → get_or w k 0 ≡ get_or v k 0

pub numbering_start : (g : Grid) (n : ℕ) (c : Site) (i : ℕ) (w : List ℕ) → Numbering g n c i w w 0
numbering_start g n c i w = record { done = λ j l x. absurd (omega arith); below = λ k l. refl; rest = λ k l. refl }

turn_by : {g : Grid} {n : ℕ} {c : Site} {i : ℕ} {v w : List ℕ} {e : ℕ} (x : ℕ) (b : Bool) → Numbering g n c i v w e → 12 * i + e < length w → edge_crosses g c e ≡ b → x ≡ slot_number g n c e
    → Numbering g n c i v (cond b (set w (12 * i + e) x) w) (e + 1)
turn_by {g} {n} {c} {i} {v} {w} {e} x true N h t q = record {
  done = λ j l y. ⊎_elim
      (λ (z : j ≡ e). rw z (get_or-set_same w (12 * i + e) x 0 h ∙ q))
      (λ (z : j ≡ e → ⊥). get_or-set_other w (12 * i + e) (12 * i + j) x 0 (λ u. z (omega (arith, u))) ∙ N.done j (omega arith) y)
      (eq-or-ne j e);
  below = λ k l. get_or-set_other w (12 * i + e) k x 0 (λ u. absurd (omega (arith, u))) ∙ N.below k l;
  rest = λ k l. get_or-set_other w (12 * i + e) k x 0 (λ u. absurd (omega (arith, u))) ∙ N.rest k (omega arith);
}
turn_by {g} {n} {c} {i} {v} {w} {e} x false N h t q = record {
  done = λ j l y. ⊎_elim
      (λ (z : j ≡ e). absurd (false≢true (sym t ∙ rw z at y)))
      (λ (z : j ≡ e → ⊥). N.done j (omega arith) y)
      (eq-or-ne j e);
  below = N.below;
  rest = λ k l. N.rest k (omega arith);
}

pub numbering-turn : {g : Grid} {n : ℕ} {c : Site} {i : ℕ} {v w z : List ℕ} {e kind first : ℕ} {G : List ℕ} → Numbering g n c i v w e → e < 12 → 12 * i + 12 ≤ length w → Known g c kind G → i ≡ index_of n c
    → first ≡ length (points_to g n i) → z ≡ numbered_if g c i first kind G e w → Numbering g n c i v z (e + 1)
unfolding numbered_if
numbering-turn {g} {n} {c} {i} {e = e} {kind} {first} {G} N h l K q f d =
    rw d (turn_by (8 * (first + rank_in kind G (get_or G e 0)) + label_of g c e) (bit_of kind e) N (omega arith) (bit-crosses e K h refl refl) (ap (λ m. 8 * m + label_of g c e) (number_is n i first e K q f)))

pub numbering-end : {g : Grid} {n : ℕ} {c : Site} {i : ℕ} {v w : List ℕ} {e : ℕ} → Numbering g n c i v w e → e ≡ 12 → Numbered g n c i v w
numbering-end {e = e} N h = record {
  is = λ j l x. N.done j (omega arith) x;
  below = N.below;
  above = λ k l. N.rest k (omega arith);
}

-- a slot that is not numbered yet has its path
pub path-kept : {g : Grid} {n : ℕ} {c : Site} {i : ℕ} {v w : List ℕ} {e : ℕ} → Numbering g n c i v w e → CellPaths g c i v → e < 12 → edge_crosses g c e ≡ true → get_or w (12 * i + e) 0 ≡ edge_path g c e
path-kept {i = i} {e = e} N P h x = N.rest (12 * i + e) (omega arith) ∙ P.is e h x

-- ---- a cell by its number

empty-is : {A : Type 0} (l : List A) → length l ≡ 0 → l ≡ []
empty-is [] e = refl
empty-is (x ∷ l) e = absurd (omega (arith, e))

-- a cell without a crossing: nothing is put, nothing is numbered
pub drawn-none : (g : Grid) (n e place k : ℕ) {c : Site} (w : List ℕ) (out : List Float) → c ≡ site_at n e → k ≡ case_of g c → (k ≡ 0) ⊎ (k ≡ 255)
    → (place ≡ place + length (points_in g n e)) × ((out ≡ put_points (points_in g n e) place out) × Numbered g n (site_at n e) e w w)
unfolding put_points
drawn-none g n e place k w out q f u =
    let z : points_in g n e ≡ [] = empty-is _ (sym (no-points g k q f u)) in (
      rw z (omega arith),
      (
        rw z refl,
        record {
          is = λ j h x. absurd (false≢true (sym (rw q at (no-crossing g _ k f u j h)) ∙ x));
          below = λ i h. refl;
          above = λ i h. refl;
        },
      ),
    )

pub paths-at : {g : Grid} {e : ℕ} {c : Site} {w : List ℕ} (n : ℕ) → c ≡ site_at n e → CellPaths g (site_at n e) e w → CellPaths g c e w
paths-at n q P = rw q P

pub room_at : (g : Grid) (n e place m : ℕ) {c : Site} → c ≡ site_at n e → 3 * (place + length (points_in g n e)) ≤ m → 3 * (place + length (cell_points g c)) ≤ m
room_at g n e place m q h = rw q h

pub drawn-at : (g : Grid) (n e place r : ℕ) {c : Site} {v w : List ℕ} {out : List Float} (s : List Float) → c ≡ site_at n e
    → (r ≡ place + length (cell_points g c)) × ((out ≡ put_points (cell_points g c) place s) × Numbered g n c e v w)
    → (r ≡ place + length (points_in g n e)) × ((out ≡ put_points (points_in g n e) place s) × Numbered g n (site_at n e) e v w)
drawn-at g n e place r s q E = rw q at E

-- The slots of paths: a path that stands in the cell before is that of the same edge, and the slots are filled one after the other. Assumes nothing.
use Prim.Native.Nat.{ℕ, ◌+◌, ◌-◌, ◌*◌, ◌/◌, ◌%◌, ◌≤◌, ◌<◌}
use mathlib.Core.Path.{◌≡◌, refl, sym, ap, ◌∙◌}
use mathlib.Core.Bool.{Bool, true, false, cond, not, ◌&&◌, false≢true}
use mathlib.Core.Logic.{◌⊎◌, ⊎_elim}
use mathlib.Core.List.{List}
use native.Mathlib.Omega.{arith}
use lib.Dec.{eqb, ltb}
use lib.Ieee.{Float}
use lib.ListN.{length, get_or, set, length-set}
use lib.Seq.{get_or-set_same, get_or-set_other}
use borrow.Author.Tests.{eqb-true, ltb-true}
use Rattle.lists.specs.Every.{every}
use Rattle.lists.proofs.Laws.{eq-or-ne, lt-or-le}
use Rattle.lists.proofs.Every.{and_left, and_right, every-at}
use Rattle.rule_extract.specs.declared.Grid.{Grid}
use Rattle.rule_extract.specs.declared.Site.{Site}
use Rattle.rule_extract.specs.Samples.{is_inside}
use Rattle.extract_crossings.specs.Crossings.{Near, path_from}
use Rattle.rule_extract.specs.Crossings.{next_site, edge_span, halvings}
use Rattle.rule_extract.specs.Cells.{bit_of, crosses, low_end, high_end}
use Rattle.extract_cells.specs.Cells.{kind_of}
use Rattle.extract_cells.proofs.Bits.{kind-edge}
use Rattle.extract_grid.specs.Lattice.{Within, Samples, CellIn, eight_of}
use Rattle.rule_extract.specs.Lattice.{site_at, index_of, value_at, inside_at, case_of, edge_site}
use Rattle.extract_grid.proofs.Places.{site-index, within-at, index-site, index-room, near_of}
use Rattle.extract_grid.proofs.Signs.{corner-within, cell_in, case-is}
use Rattle.rule_extract.specs.Paths.{edge_crosses}
use Rattle.extract_paths.specs.Paths.{edge_path, cell_of, Pathed, CellAt, along_of, stride_of, source_of}
use Rattle.extract_paths.proofs.Edges.{bit-case, low-lt, crosses-is, same-edge-b, same-edge-d, prev_site, next-prev, prev-within, next-index}

-- slot s has the edge j of the cell c
pub record Same (n : ℕ) (c : Site) (j s : ℕ) : Type 0 where
  pub at : edge_site (cell_of n s) (s % 12) ≡ edge_site c j
  pub axis : s % 12 / 4 ≡ j / 4

-- a slot of the cell before along the axis a
before : (n : ℕ) (c : Site) (j k a : ℕ) → Within n c → a < 3 → 0 < along_of c a → j + k < 12 → (j + k) / 4 ≡ j / 4
    → edge_site (prev_site c a) (j + k) ≡ edge_site (next_site (prev_site c a) a) j → Same n c j (12 * index_of n c + j + k - 12 * stride_of n a)
before n c j k a W l p h q e =
    let d = prev_site c a in
    let f : index_of n c ≡ index_of n d + stride_of n a = ap (index_of n) (sym (next-prev c a l p)) ∙ next-index n d a l in
    let s : 12 * index_of n c + j + k - 12 * stride_of n a ≡ 12 * index_of n d + (j + k) = omega arith in
    let u : (12 * index_of n d + (j + k)) / 12 ≡ index_of n d = omega arith in
    let v : (12 * index_of n d + (j + k)) % 12 ≡ j + k = omega arith in
    rw s (record {
      at = rw (u, v, site-index n d (prev-within n c a l W)) (e ∙ ap (λ z. edge_site z j) (next-prev c a l p));
      axis = rw v q;
    })

test-b : ℕ → Site → Bool
test-b j c = eqb (j / 2 % 2) 0 && ltb 0 (along_of c ((j / 4 + 1) % 3))

test-d : ℕ → Site → Bool
test-d j c = eqb (j % 2) 0 && ltb 0 (along_of c ((j / 4 + 2) % 3))

before-b : (n : ℕ) (c : Site) (j : ℕ) → Within n c → j < 12 → test-b j c ≡ true → Same n c j (12 * index_of n c + j + 2 - 12 * stride_of n ((j / 4 + 1) % 3))
unfolding test-b
before-b n c j W h t =
    let b = eqb-true (j / 2 % 2) 0 (and_left _ _ t) in
    let p = ltb-true 0 (along_of c ((j / 4 + 1) % 3)) (and_right (eqb (j / 2 % 2) 0) _ t) in
    before n c j 2 ((j / 4 + 1) % 3) W (omega arith) p (omega arith) (omega arith) (same-edge-b (prev_site c ((j / 4 + 1) % 3)) j h b)

before-d : (n : ℕ) (c : Site) (j : ℕ) → Within n c → j < 12 → test-d j c ≡ true → Same n c j (12 * index_of n c + j + 1 - 12 * stride_of n ((j / 4 + 2) % 3))
unfolding test-d
before-d n c j W h t =
    let b = eqb-true (j % 2) 0 (and_left _ _ t) in
    let p = ltb-true 0 (along_of c ((j / 4 + 2) % 3)) (and_right (eqb (j % 2) 0) _ t) in
    before n c j 1 ((j / 4 + 2) % 3) W (omega arith) p (omega arith) (omega arith) (same-edge-d (prev_site c ((j / 4 + 2) % 3)) j h b)

source-by : (n : ℕ) (c : Site) (j slot : ℕ) → Within n c → j < 12 → slot ≡ 12 * index_of n c + j → (a b : Bool) → test-b j c ≡ a → test-d j c ≡ b
    → let s = cond a (slot + 2 - 12 * stride_of n ((j / 4 + 1) % 3)) (cond b (slot + 1 - 12 * stride_of n ((j / 4 + 2) % 3)) slot) in s < slot → Same n c j s
source-by n c j slot W h e true b t u l = rw e (before-b n c j W h t)
source-by n c j slot W h e false true t u l = rw e (before-d n c j W h u)
source-by n c j slot W h e false false t u l = absurd (omega arith)

-- a source before the slot is a slot of the same edge
pub source-same : (n : ℕ) (c : Site) (j slot : ℕ) → Within n c → j < 12 → slot ≡ 12 * index_of n c + j → source_of n c slot j < slot → Same n c j (source_of n c slot j)
unfolding source_of test-b test-d
source-same n c j slot W h e l = source-by n c j slot W h e (test-b j c) (test-d j c) refl refl l

-- the numbers on the way: the cell before has a number
pub stride-le : (n : ℕ) (c : Site) (a : ℕ) → a < 3 → 0 < along_of c a → stride_of n a ≤ index_of n c
stride-le n c a l p = let f = ap (index_of n) (sym (next-prev c a l p)) ∙ next-index n (prev_site c a) a l in omega arith

-- ---- the slots one after the other

same-path : (g : Grid) (c d : Site) (i j : ℕ) → edge_site d i ≡ edge_site c j → i / 4 ≡ j / 4 → edge_path g d i ≡ edge_path g c j
same-path g c d i j e f = rw (e, f)

same-crosses : (g : Grid) (c d : Site) (i j : ℕ) → i < 12 → j < 12 → edge_site d i ≡ edge_site c j → i / 4 ≡ j / 4 → edge_crosses g d i ≡ edge_crosses g c j
same-crosses g c d i j h l e f = crosses-is g d i h ∙ (rw (e, f) refl ∙ sym (crosses-is g c j l))

-- a path that stands in an earlier slot of the same edge
pub copied : {g : Grid} {n : ℕ} {w : List ℕ} {i : ℕ} (c : Site) (j s : ℕ) → Pathed g n w i → s < i → j < 12 → Same n c j s → edge_crosses g c j ≡ true → get_or w s 0 ≡ edge_path g c j
copied {g} {n} c j s P l h S e =
    P.is s l (same-crosses g c (cell_of n s) (s % 12) j (omega arith) h S.at S.axis ∙ e) ∙ same-path g c (cell_of n s) (s % 12) j S.at S.axis

pub pathed-start : (g : Grid) (n : ℕ) (w : List ℕ) → Pathed g n w 0
pathed-start g n w = record { fits = omega arith; is = λ k h e. absurd (omega arith) }

-- the slot of the edge j of the cell with the number e
pub record Slot (n : ℕ) (c : Site) (e j slot : ℕ) : Type 0 where
  pub is : slot ≡ 12 * e + j
  pub j< : j < 12
  pub within : Within n c
  pub number : e ≡ index_of n c

slot-cell : {n : ℕ} {c : Site} {e j slot : ℕ} → Slot n c e j slot → cell_of n slot ≡ c
slot-cell {n} {c} {e} {j} {slot} S =
    let a = S.is in
    let b = S.j< in
    let q : slot / 12 ≡ e = omega arith in
    ap (site_at n) (q ∙ S.number) ∙ site-index n c S.within

slot-edge : {n : ℕ} {c : Site} {e j slot : ℕ} → Slot n c e j slot → slot % 12 ≡ j
slot-edge S = let a = S.is in let b = S.j< in omega arith

-- the path of a slot is stored
pub pathed-put : {g : Grid} {n : ℕ} {w : List ℕ} {c : Site} {e j slot : ℕ} (v : ℕ) → Pathed g n w slot → Slot n c e j slot → slot < length w → v ≡ edge_path g c j
    → Pathed g n (set w slot v) (slot + 1)
pathed-put {g} {n} {w} {c} {e} {j} {slot} v P S l q = record {
  fits = rw (length-set w slot v) (omega arith);
  is = λ k h x. ⊎_elim
      (λ (z : k ≡ slot). rw (z, get_or-set_same w slot v 0 l, slot-cell S, slot-edge S) q)
      (λ (z : k ≡ slot → ⊥). get_or-set_other w slot k v 0 z ∙ P.is k (omega arith) x)
      (eq-or-ne k slot);
}

-- a slot whose edge does not cross
pub pathed-skip : {g : Grid} {n : ℕ} {w : List ℕ} {c : Site} {e j slot : ℕ} → Pathed g n w slot → Slot n c e j slot → slot < length w → edge_crosses g c j ≡ false
    → Pathed g n w (slot + 1)
pathed-skip {g} {n} {w} {c} {e} {j} {slot} P S l q = record {
  fits = omega arith;
  is = λ k h x. ⊎_elim
      (λ (z : k ≡ slot). absurd (false≢true (sym q ∙ (rw (z, slot-cell S, slot-edge S) at x))))
      (λ (z : k ≡ slot → ⊥). P.is k (omega arith) x)
      (eq-or-ne k slot);
}

-- ---- cells without a crossing

none_of : ℕ → ℕ → Bool
none_of n j = not (crosses (bit_of n) j)

not-true : (b : Bool) → not b ≡ true → b ≡ false
not-true true e = sym e
not-true false e = refl

outside : (j : ℕ) → j < 12 → crosses (bit_of 0) j ≡ false
unfolding none_of every crosses bit_of low_end high_end
outside j h = not-true _ (every-at (none_of 0) 12 j refl h)

inside : (j : ℕ) → j < 12 → crosses (bit_of 255) j ≡ false
unfolding none_of every crosses bit_of low_end high_end
inside j h = not-true _ (every-at (none_of 255) 12 j refl h)

pub no-crossing : (g : Grid) (c : Site) (n : ℕ) → n ≡ case_of g c → (n ≡ 0) ⊎ (n ≡ 255) → (j : ℕ) → j < 12 → edge_crosses g c j ≡ false
no-crossing g c n e u j h = ⊎_elim
    (λ (z : n ≡ 0). ap (λ k. crosses (bit_of k) j) (sym e ∙ z) ∙ outside j h)
    (λ (z : n ≡ 255). ap (λ k. crosses (bit_of k) j) (sym e ∙ z) ∙ inside j h)
    u

pub pathed-over : {g : Grid} {n : ℕ} {w : List ℕ} (c : Site) (e : ℕ) → Pathed g n w (12 * e) → CellAt n c e (length w) → ((j : ℕ) → j < 12 → edge_crosses g c j ≡ false)
    → Pathed g n w (12 * (e + 1))
pathed-over {g} {n} {w} c e P C none = record {
  fits = let r = C.room in omega arith;
  is = λ k h x. ⊎_elim
      (λ (l : k < 12 * e). P.is k l x)
      (λ (l : 12 * e ≤ k).
      let S : Slot n c e (k - 12 * e) k = record { is = omega arith; j< = omega arith; within = C.within; number = C.number } in
      absurd (false≢true (sym (none (k - 12 * e) (omega arith)) ∙ (rw (slot-cell S, slot-edge S) at x))))
      (lt-or-le k (12 * e));
}

-- ---- what the functions ask

pub cell-number : {n : ℕ} {c : Site} {e l : ℕ} → CellAt n c e l → e < 2500000
unfolding index_of
cell-number {n} {c} C =
    let h = C.n≤ in
    let r = index-room n c (omega arith) C.within in
    let z = C.within.z< in
    let q = C.number in
    omega arith

pub stride-room : {n : ℕ} {c : Site} {e l : ℕ} (a s r : ℕ) (x : Bool) → CellAt n c e l → a < 3 → (x && ltb 0 r) ≡ true → r ≡ along_of c a → s ≡ stride_of n a → s ≤ e
stride-room {n} {c} a s r x C h t q f =
    let p = ltb-true 0 r (and_right x (ltb 0 r) t) in
    let g = stride-le n c a h (rw q at p) in
    let k = C.number in
    omega arith

pub cell-least : {n : ℕ} {c : Site} {e l : ℕ} → CellAt n c e l → CellAt n c e (12 * e + 12)
cell-least C = record { n≤ = C.n≤; within = C.within; number = C.number; room = omega arith }

pub cell-near : {n : ℕ} {c : Site} {e l : ℕ} → CellAt n c e l → Near c
cell-near C = near_of (let h = C.n≤ in omega arith) C.within

pub edge-near : {n : ℕ} {c d : Site} {e l : ℕ} (j : ℕ) → CellAt n c e l → d ≡ edge_site c j → Near d
unfolding edge_site
edge-near {n} {c} j C q = rw q (near_of (let h = C.n≤ in omega arith) (corner-within n c (low_end j) C.within))

pub copied_source : {g : Grid} {n : ℕ} {w : List ℕ} {c : Site} {e l : ℕ} (j s : ℕ) → Pathed g n w (12 * e + j) → CellAt n c e l → j < 12 → s ≡ source_of n c (12 * e + j) j → s < 12 * e + j
    → edge_crosses g c j ≡ true → get_or w s 0 ≡ edge_path g c j
copied_source {g} {n} {w} {c} {e} j s P C h q l x =
    let k : 12 * e + j ≡ 12 * index_of n c + j = ap (λ m. 12 * m + j) C.number in
    copied c j s P l h (rw q (source-same n c j (12 * e + j) C.within h k (rw q at l))) x

-- the path that is searched for is the edge's own
pub found-path : (g : Grid) (c : Site) {d : Site} {sign : Bool} (j p : ℕ) → p ≡ path_from halvings g sign (edge_span g d (j / 4)) → sign ≡ inside_at g (edge_site c j) → d ≡ edge_site c j → p ≡ edge_path g c j
unfolding inside_at value_at is_inside
found-path g c j p q s e = q ∙ rw (e, s)

pub slot_of : {n : ℕ} {c : Site} {e l : ℕ} (j : ℕ) → CellAt n c e l → j < 12 → Slot n c e j (12 * e + j)
slot_of j C h = record { is = refl; j< = h; within = C.within; number = C.number }

pub kind-says : (g : Grid) (c : Site) {n k : ℕ} {b d : Bool} (j : ℕ) → n ≡ case_of g c → k ≡ kind_of (bit_of n) → j < 12 → b ≡ bit_of k j → b ≡ d → edge_crosses g c j ≡ d
kind-says g c {n} {k} j e q h f r = ap (λ m. crosses (bit_of m) j) (sym e) ∙ (sym (kind-edge (bit_of n) k j q h) ∙ (sym f ∙ r))

pub sign-says : (g : Grid) (c : Site) {n v : ℕ} {b : Bool} (j : ℕ) → n ≡ case_of g c → v ≡ low_end j → j < 12 → b ≡ bit_of n v → b ≡ inside_at g (edge_site c j)
unfolding edge_site
sign-says g c j e q h f = f ∙ (rw (e, q) (bit-case g c (low_end j) (low-lt j h)))

pub cell-kept : {n : ℕ} {c : Site} {e : ℕ} (v w : List ℕ) → length w ≡ length v → CellAt n c e (length v) → CellAt n c e (length w)
cell-kept v w l C = rw l C

-- the first edge of a cell, the edge after, and the first of the next cell
pub cell-start : {g : Grid} {n : ℕ} (e : ℕ) {w : List ℕ} → Pathed g n w (12 * e) → Pathed g n w (12 * e + 0)
cell-start e P = let q : 12 * e ≡ 12 * e + 0 = omega arith in rw q at P

pub cell-turn : {g : Grid} {n : ℕ} (e j : ℕ) {w : List ℕ} → Pathed g n w (12 * e + j + 1) → Pathed g n w (12 * e + (j + 1))
cell-turn e j P = let q : 12 * e + j + 1 ≡ 12 * e + (j + 1) = omega arith in rw q at P

pub cell-end : {g : Grid} {n j : ℕ} (e : ℕ) {w : List ℕ} → Pathed g n w (12 * e + j) → j ≡ 12 → Pathed g n w (12 * (e + 1))
cell-end {j = j} e P h = let q : 12 * e + j ≡ 12 * (e + 1) = omega arith in rw q at P

-- ---- all cells

pub cell_at : {g : Grid} {n : ℕ} {F : List Float} {d : Site} {e l : ℕ} → Samples g (n + 1) F → e < n * n * n → 12 * e + 12 ≤ l → d ≡ site_at n e → CellAt n d e l
cell_at {n = n} {e = e} S h r q = let m = S.m≤ in rw q (record { n≤ = omega arith; within = within-at n e h; number = sym (index-site n e); room = r })

pub case-read : {g : Grid} {F : List Float} {d : Site} {k : ℕ} (n e : ℕ) → Samples g (n + 1) F → e < n * n * n → d ≡ site_at n e
    → k ≡ eight_of F ((n + 1) * (n + 1)) (n + 1) (index_of (n + 1) d) → k ≡ case_of g d
case-read {d = d} n e S h q f = f ∙ case-is d S (rw q (within-at n e h))

pub cell-read : {g : Grid} {F : List Float} {d : Site} (n e : ℕ) → Samples g (n + 1) F → e < n * n * n → d ≡ site_at n e → CellIn (n + 1) d (length F)
cell-read {d = d} n e S h q = cell_in d S (rw q (within-at n e h))

-- The cells of a lent sheet are a table, and the loop that measures them fills three regions. Assumes nothing.
use Prim.Native.Nat.{ℕ, ◌+◌, ◌*◌, ◌≤◌, ◌<◌, zero-le}
use mathlib.Core.Path.{◌≡◌, refl, sym, ap, ◌∙◌}
use mathlib.Core.Bool.{Bool, true, false, true≢false}
use mathlib.Core.Logic.{⊎_elim}
use mathlib.Core.List.{List, map}
use native.Mathlib.Omega.{arith}
use lib.ListN.{length, get_or, set, take, length-set}
use lib.Seq.{get_or-take, get_or-set_same, get_or-set_other, length-take-le}
use lib.Ieee.{Float, nan}
use Rattle.lists.specs.Sort.{tabulate}
use Rattle.lists.specs.Every.{every}
use Rattle.lists.specs.Regions.{Part, Out, Kept}
use Rattle.lists.proofs.Laws.{eq-or-ne, length-tab, get_or-tab, tab-ext, map-tab}
use Rattle.lists.proofs.Every.{every-zero, every-suc, every-fails}
use Rattle.lists.proofs.Regions.{part-is, kept_refl, kept_set}
use Rattle.points.specs.declared.Point.{Point}
use Rattle.points.specs.Points.{point_at}
use Rattle.field.specs.declared.Field.{Field}
use Rattle.band.specs.declared.Band.{Band}
use Rattle.band.specs.Bands.{length_of, normal_with, normal_of}
use Rattle.rule_sheet.specs.declared.Counts.{Counts}
use Rattle.rule_sheet.specs.Quads.{quad, all}
use Rattle.rule_sheet.specs.Flat.{corner, quad_at, quads_of}
use Rattle.rule_sheet.specs.Sheet.{sheet_of, points_of}
use Rattle.sheet.proofs.Flat.{length-quads}
use Rattle.sheet.proofs.Tests.{all-tab}
use Rattle.rule_quality.specs.declared.Corners.{Corners}
use Rattle.rule_quality.specs.Measure.{Cell, nowhere, centre_of, good_normal, corners_of, cell_of, cells_of, has_normal, cell_shape, cell_jacobian, cell_area}
use Rattle.quality_readings.specs.Readings.{corners_at, cell_with, cell_at, cells_to, stored, stored_if, Readings, Readable, Measurable}
use Rattle.quality_readings.proofs.Zips.{zip-tab}

-- ---- the cells of a lent sheet

corners-flat : (n : ℕ) (P : List Float) (Q : List ℕ) (q : ℕ) → ((j : ℕ) → j < 4 → corner Q q j < n) → corners_of (points_of n P) (quad_at Q q) ≡ corners_at P Q q
unfolding corners_of corners_at points_of
corners-flat n P Q q h =
    rw (
      get_or-tab (point_at P) n (corner Q q 0) nowhere (h 0 (omega arith)),
      get_or-tab (point_at P) n (corner Q q 1) nowhere (h 1 (omega arith)),
      get_or-tab (point_at P) n (corner Q q 2) nowhere (h 2 (omega arith)),
      get_or-tab (point_at P) n (corner Q q 3) nowhere (h 3 (omega arith)),
    )

module _ (b : Band) (c : Counts) (P : List Float) (Q labels : List ℕ) (M : Measurable c (length P) Q (length labels)) where
  cell-flat : (q : ℕ) → q < c.quads
      → cell_of b (points_of c.points P) (get_or (quads_of c.quads Q) q (quad 0 0 0 0)) (get_or (take c.labels labels) q 0) ≡ cell_at b.field (length_of b) P Q labels q
  unfolding quads_of cell_with normal_of
  cell-flat q h =
      rw (
        get_or-tab (quad_at Q) c.quads q (quad 0 0 0 0) h,
        get_or-take c.labels labels q 0 (omega (arith, M.labelled)),
        corners-flat c.points P Q q (λ j l. M.corners (4 * q + j) (omega arith)),
      )

  -- the cells of the sheet are those of its slices
  pub cells-flat : cells_of b (sheet_of c P Q labels) ≡ cells_to b.field (length_of b) P Q labels c.quads
  unfolding cells_of
  cells-flat =
      zip-tab (cell_of b (points_of c.points P)) (quad 0 0 0 0) 0 (quads_of c.quads Q) (take c.labels labels) c.quads (length-quads c.quads Q)
      (length-take-le c.labels labels M.lent.labels ∙ M.labelled)
      ∙ tab-ext _ _ c.quads (λ q h. cell-flat q h)

  -- its slices hold what is read
  pub readable : (f : ℕ) → 5 * c.quads ≤ f → Readable c.quads (length P) Q (length labels) f
  readable f h = record {
    few = M.lent.few.quads≤;
    labels = omega (arith, M.lent.labels, M.labelled);
    floats = omega arith;
    held = λ q l. record {
      quad = omega (arith, M.lent.quads);
      c0 = omega (arith, M.lent.points, M.corners (4 * q + 0) (omega arith));
      c1 = omega (arith, M.lent.points, M.corners (4 * q + 1) (omega arith));
      c2 = omega (arith, M.lent.points, M.corners (4 * q + 2) (omega arith));
      c3 = omega (arith, M.lent.points, M.corners (4 * q + 3) (omega arith));
    };
  }

-- ---- one cell

module _ (f : Field) (len : Float) (p : Corners) (l n q : ℕ) where
  -- the cell has a normal m, and is measured
  pub cell-read : (a m : Point) (g : Bool) (F H : List Float) → a ≡ centre_of p → m ≡ normal_with f len a l → g ≡ good_normal m → g ≡ true
      → H ≡ stored n q (record { corners = p; normal = m }) F → (true ≡ has_normal (cell_with f len p l)) × (H ≡ stored_if n q (cell_with f len p l) F)
  unfolding cell_with stored_if
  cell-read a m g F H ea em eg t s =
      let k : normal_with f len (centre_of p) l ≡ m = sym (em ∙ rw ea) in
      let y : good_normal m ≡ true = sym eg ∙ t in
      rw (k, y) (refl, s)

  -- it has none, and is left
  pub cell-left : (a m : Point) (g : Bool) (F : List Float) → a ≡ centre_of p → m ≡ normal_with f len a l → g ≡ good_normal m → g ≡ false
      → (false ≡ has_normal (cell_with f len p l)) × (F ≡ stored_if n q (cell_with f len p l) F)
  unfolding cell_with stored_if
  cell-left a m g F ea em eg t =
      let k : normal_with f len (centre_of p) l ≡ m = sym (em ∙ rw ea) in
      let y : good_normal m ≡ false = sym eg ∙ t in
      rw (k, y) (refl, refl)

-- ---- the loop that measures

-- the first i elements of the region at `at` are f 0, f 1, ..
abbrev pub Grown : (ℕ → Float) → ℕ → ℕ → List Float → Type 0
Grown f at i G = (j : ℕ) → j < i → get_or G (at + j) nan ≡ f j

grown-in : (f : ℕ → Float) (at i : ℕ) (G : List Float) → Grown f at i G → at + i < length G → Grown f at (i + 1) (set G (at + i) (f i))
grown-in f at i G g h j l =
    ⊎_elim
    (λ (q : j ≡ i). rw q (get_or-set_same G (at + i) (f i) nan h))
    (λ (ne : j ≡ i → ⊥). get_or-set_other G (at + i) (at + j) (f i) nan (λ z. ne (omega arith)) ∙ g j (omega arith))
    (eq-or-ne j i)

grown-out : (f : ℕ → Float) (at i p : ℕ) (x : Float) (G : List Float) → Grown f at i G → ((j : ℕ) → j < i → at + j ≡ p → ⊥) → Grown f at i (set G p x)
grown-out f at i p x G g ne j l = get_or-set_other G p (at + j) x nan (ne j l) ∙ g j l

-- the regions at 0, n and 2 * n after i cells
pub record Reading (cell : ℕ → Cell) (n : ℕ) (F G : List Float) (i : ℕ) : Type 0 where
  pub i≤ : i ≤ n
  pub fits : 3 * n ≤ length G
  pub normals : every (λ q. has_normal (cell q)) i ≡ true
  pub kept : Kept (Out 0 (3 * n)) F G
  pub shapes : Grown (λ q. cell_shape (cell q)) 0 i G
  pub jacobians : Grown (λ q. cell_jacobian (cell q)) n i G
  pub areas : Grown (λ q. cell_area (cell q)) (2 * n) i G

module _ (cell : ℕ → Cell) (n : ℕ) where
  pub reading-start : (F : List Float) → 3 * n ≤ length F → Reading cell n F F 0
  reading-start F h = record {
    i≤ = zero-le;
    fits = h;
    normals = every-zero (λ q. has_normal (cell q));
    kept = kept_refl (Out 0 (3 * n)) F;
    shapes = λ j l. absurd (omega arith);
    jacobians = λ j l. absurd (omega arith);
    areas = λ j l. absurd (omega arith);
  }

  pub reading-turn : (F G H : List Float) (i : ℕ) → Reading cell n F G i → i < n → has_normal (cell i) ≡ true → H ≡ stored_if n i (cell i) G → Reading cell n F H (i + 1)
  unfolding stored_if stored
  reading-turn F G H i R h e s =
      let a = cell_shape (cell i) in
      let b = cell_jacobian (cell i) in
      let d = cell_area (cell i) in
      let G₁ = set G i a in
      let G₂ = set G₁ (n + i) b in
      let G₃ = set G₂ (2 * n + i) d in
      let l₁ : length G₁ ≡ length G = length-set G i a in
      let l₂ : length G₂ ≡ length G = length-set G₁ (n + i) b ∙ l₁ in
      let l₃ : length G₃ ≡ length G = length-set G₂ (2 * n + i) d ∙ l₂ in
      let z : 0 + i ≡ i = omega arith in
      let s₁ : Grown (λ q. cell_shape (cell q)) 0 (i + 1) G₁ = rw z at (grown-in (λ q. cell_shape (cell q)) 0 i G R.shapes (omega (arith, R.fits))) in
      let j₁ = grown-out (λ q. cell_jacobian (cell q)) n i i a G R.jacobians (λ j l z. omega arith) in
      let a₁ = grown-out (λ q. cell_area (cell q)) (2 * n) i i a G R.areas (λ j l z. omega arith) in
      let s₂ = grown-out (λ q. cell_shape (cell q)) 0 (i + 1) (n + i) b G₁ s₁ (λ j l z. omega arith) in
      let j₂ = grown-in (λ q. cell_jacobian (cell q)) n i G₁ j₁ (omega (arith, R.fits)) in
      let a₂ = grown-out (λ q. cell_area (cell q)) (2 * n) i (n + i) b G₁ a₁ (λ j l z. omega arith) in
      let t : H ≡ G₃ = s ∙ rw e in
      rw t record {
        i≤ = omega arith;
        fits = omega (arith, R.fits);
        normals = every-suc (λ q. has_normal (cell q)) i R.normals e;
        kept = kept_set (2 * n + i) d (kept_set (n + i) b (kept_set i a R.kept (λ o. o (omega arith) (omega arith))) (λ o. o (omega arith) (omega arith))) (λ o. o (omega arith) (omega arith));
        shapes = grown-out (λ q. cell_shape (cell q)) 0 (i + 1) (2 * n + i) d G₂ s₂ (λ j l z. omega arith);
        jacobians = grown-out (λ q. cell_jacobian (cell q)) n (i + 1) (2 * n + i) d G₂ j₂ (λ j l z. omega arith);
        areas = grown-in (λ q. cell_area (cell q)) (2 * n) i G₂ a₂ (omega (arith, R.fits));
      }

  -- a cell without a normal
  pub reading-fails : (F G H : List Float) (i : ℕ) → Reading cell n F G i → i < n → has_normal (cell i) ≡ false → H ≡ stored_if n i (cell i) G
      → (false ≡ all has_normal (tabulate cell n)) × ((false ≡ true → Readings n (tabulate cell n) H) × Kept (Out 0 (3 * n)) F H)
  unfolding stored_if
  reading-fails F G H i R h e s =
      let t : H ≡ G = s ∙ rw e in
      (sym (all-tab has_normal cell n ∙ every-fails (λ q. has_normal (cell q)) n i h e), (λ z. absurd (true≢false (sym z)), rw t R.kept))

  region-is : (f : Cell → Float) (at : ℕ) (G : List Float) → at + n ≤ length G → Grown (λ q. f (cell q)) at n G → Part at n (map f (tabulate cell n)) G
  region-is f at G h g =
      let e = map-tab f cell n in
      part-is nan at n (map f (tabulate cell n)) G h (ap length e ∙ length-tab (λ q. f (cell q)) n)
      (λ i l. g i l ∙ sym (ap (λ (k : List Float). get_or k i nan) e ∙ get_or-tab (λ q. f (cell q)) n i nan l))

  -- all cells have normals and are measured
  pub reading-end : (F G : List Float) (i : ℕ) → Reading cell n F G i → n ≤ i
      → (true ≡ all has_normal (tabulate cell n)) × ((true ≡ true → Readings n (tabulate cell n) G) × Kept (Out 0 (3 * n)) F G)
  reading-end F G i R h =
      let e : i ≡ n = omega (arith, R.i≤) in
      let g = rw e at R in (
        sym (all-tab has_normal cell n ∙ g.normals),
        (
          λ z. record {
            shapes = region-is cell_shape 0 G (omega (arith, R.fits)) g.shapes;
            jacobians = region-is cell_jacobian n G (omega (arith, R.fits)) g.jacobians;
            areas = region-is cell_area (2 * n) G (omega (arith, R.fits)) g.areas;
          },
          R.kept,
        ),
      )

-- ---- the same by what a turn of the loop is told

module _ (f : Field) (len : Float) (P : List Float) (Q labels : List ℕ) (n : ℕ) (F G H : List Float) (q : ℕ) (p : Corners) (r : Bool) where
  -- what a turn says of the cell of quad q
  abbrev Told : Type 0
  Told = (r ≡ has_normal (cell_with f len p (get_or labels q 0))) × (H ≡ stored_if n q (cell_with f len p (get_or labels q 0)) G)

  told : p ≡ corners_at P Q q → Told → (r ≡ has_normal (cell_at f len P Q labels q)) × (H ≡ stored_if n q (cell_at f len P Q labels q) G)
  told e E = rw e at E

  pub read-turn : Reading (cell_at f len P Q labels) n F G q → q < n → p ≡ corners_at P Q q → Told → r ≡ true → Reading (cell_at f len P Q labels) n F H (q + 1)
  read-turn R h e E t = reading-turn (cell_at f len P Q labels) n F G H q R h (sym (told e E).0 ∙ t) (told e E).1

  pub read-fails : Reading (cell_at f len P Q labels) n F G q → q < n → p ≡ corners_at P Q q → Told → r ≡ false
      → (false ≡ all has_normal (cells_to f len P Q labels n)) × ((false ≡ true → Readings n (cells_to f len P Q labels n) H) × Kept (Out 0 (3 * n)) F H)
  read-fails R h e E t = reading-fails (cell_at f len P Q labels) n F G H q R h (sym (told e E).0 ∙ t) (told e E).1

-- The strips and the copied corners that are read from the work slice, and slices written behind a front. Assumes nothing.
use Prim.Native.Nat.{ℕ, ◌+◌, ◌*◌, ◌/◌, ◌%◌, ◌≤◌, ◌<◌, suc, ◌-◌}
use mathlib.Core.Path.{◌≡◌, refl, sym, ap, ◌∙◌}
use mathlib.Core.Bool.{Bool, true, false}
use mathlib.Core.List.{List, [], ◌∷◌, ◌++◌, map}
use native.Mathlib.Omega.{arith}
use lib.ListN.{length, get_or, take, length-append}
use lib.Seq.{length-take-le}
use lib.Ieee.{Float}
use Rattle.lists.specs.Sort.{tabulate}
use Rattle.lists.proofs.Regions.{part-get, element_of, tab-own}
use Rattle.rule_sheet.specs.Quads.{quad}
use Rattle.sheet.specs.Flat.{from, to, with_quad}
use Rattle.lists.proofs.Laws.{map-tab}
use Rattle.rows_gather.specs.Steps.{copied_in, seams_of, numbers_at, seams_at, Gathered}
use Rattle.rows_quads.specs.Steps.{corner_in, strip_in}
use Rattle.rows_gather.proofs.Numbers.{number_read}
use Rattle.rows_gather.proofs.Lists.{seams-low}
use borrow.Rule.Slice.PartMut.{put_mid, mid_of}
use Rattle.lists.proofs.Parts.{put-end, length-end}
use Rattle.sheet.specs.Results.{Front}

-- ---- what is read of the sheet

module _ {np nq : ℕ} {P : List Float} {Q labels M w : List ℕ} (G : Gathered np nq P Q labels M w) where
  pub key-from : (c a l : ℕ) → c < 4 * nq → a ≡ get_or Q c 0 → l ≡ get_or labels (c / 4) 0 → (a < np) × ((l ≤ 7) × (8 * a + l < 8 * np))
  key-from c a l h ea el =
      let x : a < np = rw ea (G.sheet.held.cornered.points c h) in
      let y : l ≤ 7 = rw el (G.sheet.low (c / 4) (omega arith)) in
      (x, (y, omega arith))

  pub key-to : (c b l : ℕ) → c < 4 * nq → b ≡ to Q c → l ≡ get_or labels (c / 4) 0 → (b < np) × (8 * b + l < 8 * np)
  key-to c b l h eb el =
      let x : b < np = rw eb (G.sheet.held.cornered.points (c / 4 * 4 + (c + 1) % 4) (omega arith)) in
      let y : l ≤ 7 = rw el (G.sheet.low (c / 4) (omega arith)) in
      (x, omega arith)

  pub strip-read : (c i l : ℕ) (s r : List ℕ) → c < 4 * nq → l ≡ get_or labels (c / 4) 0
      → r ≡ with_quad s i (quad (from Q c) (to Q c) (get_or w (numbers_at np nq + (8 * to Q c + l)) 0) (get_or w (numbers_at np nq + (8 * from Q c + l)) 0)) → r ≡ with_quad s i (strip_in np Q labels M c)
  unfolding strip_in
  strip-read c i l s r h el er =
      let N = G.work.numbered.numbers in
      rw (← el, ← number_read np nq M w (8 * to Q c + l) _ N (key-to c (to Q c) l h refl el).1 refl, ← number_read np nq M w (8 * from Q c + l) _ N (key-from c (from Q c) l h refl el).1.1 refl) er

  pub corner-copied : (c a l : ℕ) (t : Bool) → c < 4 * nq → a ≡ get_or Q c 0 → l ≡ get_or labels (c / 4) 0 → t ≡ copied_in M (8 * a + l) → t ≡ true → get_or w (numbers_at np nq + (8 * a + l)) 0 ≡ corner_in np Q labels M c
  unfolding corner_in
  corner-copied c a l t h ea el et e =
      rw (← ea, ← el, ← et, e) (number_read np nq M w (8 * a + l) _ G.work.numbered.numbers (key-from c a l h ea el).1.1 refl)

  pub corner-kept : (c a l : ℕ) (t : Bool) → c < 4 * nq → a ≡ get_or Q c 0 → l ≡ get_or labels (c / 4) 0 → t ≡ copied_in M (8 * a + l) → t ≡ false → get_or Q c 0 ≡ corner_in np Q labels M c
  unfolding corner_in
  corner-kept c a l t h ea el et e = rw (← ea, ← el, ← et, e)

  pub seam-read : (t c : ℕ) → t < length (seams_of np nq Q labels) → c ≡ get_or w (seams_at np nq + t) 0 → c ≡ get_or (seams_of np nq Q labels) t 0
  seam-read t c h e = e ∙ part-get 0 t G.work.seams h

  pub seam-low : (t c : ℕ) → t < length (seams_of np nq Q labels) → c ≡ get_or w (seams_at np nq + t) 0 → c < 4 * nq
  unfolding seams_of
  seam-low t c h e = rw (seam-read t c h e) (seams-low G.sheet (4 * nq) G.some t h)

-- a list by its elements
pub map-own : {A : Type 0} (g : ℕ → A) (l : List ℕ) (n : ℕ) → n ≡ length l → tabulate (λ k. g (get_or l k 0)) n ≡ map g l
map-own g l n e = sym (ap (map g) (sym (tab-own 0 l n (sym e))) ∙ map-tab g (element_of 0 l) n)

-- the first n elements stand in front
pub front-take : {A : Type 0} (n : ℕ) (l : List A) → n ≤ length l → Front (take n l) l
front-take n l h = let e : length (take n l) ≡ n = length-take-le n l h in record { fits = omega arith; is = rw e }

-- a slice whose front is written, and what lies behind it by a part to the end
pub front-behind : {A : Type 0} {l m s y : List A} (a : ℕ) → Front l s → length l ≡ a → Front m y → length y ≡ length (mid_of a (length s - a) s) → Front (l ++ m) (put_mid a (length s - a) s y)
front-behind {A} {l} {m} {s} {y} a F e G n =
    let h : a ≤ length s = omega (arith, F.fits) in
    let k : length y ≡ length s - a = n ∙ length-end a s in
    let t : take a s ≡ l = rw (← e) F.is in
    let q : put_mid a (length s - a) s y ≡ l ++ y = put-end a s y h ∙ rw t in
    rw q (record {
      fits = rw (length-append l m, length-append l y) (omega (arith, G.fits));
      is = rw (length-append l m, take_more l y (length m), G.is);
    })
  where
    take_more : (l y : List A) (n : ℕ) → take (length l + n) (l ++ y) ≡ l ++ take n y
    take_more [] y n = let e : 0 + n ≡ n = omega arith in rw e
    take_more (x ∷ l) y n = let e : suc (length l) + n ≡ suc (length l + n) = omega arith in rw (e, take_more l y n)

-- a part to the end has room
pub end-room : {A : Type 0} (a m : ℕ) (s d : List A) → length s ≡ length d → a + m ≤ length d → m ≤ length (mid_of a (length s - a) s)
end-room a m s d e h = omega (arith, length-end a s)

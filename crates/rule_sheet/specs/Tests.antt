-- The tests of a sheet's quads, labels and masks: refusals 6 and 7.
use Rattle.std.specs.Prelude.{ℕ, ◌/◌, ◌%◌, Bool, not, ◌&&◌, List, leb, ltb, eqb}
use Rattle.lists.specs.Every.{every}
use Rattle.rule_sheet.specs.Quads.{Quad, quad, all, mask_of}

-- all four corners are numbers of the n points
unfoldable pub in_range : ℕ → Quad → Bool
in_range n (quad a b c d) = ltb a n && ltb b n && ltb c n && ltb d n

-- no corner twice
unfoldable pub distinct : Quad → Bool
distinct (quad a b c d) =
    not (eqb a b) && not (eqb a c) && not (eqb a d) && not (eqb b c) && not (eqb b d) && not (eqb c d)

abbrev pub proper : ℕ → Quad → Bool
proper n q = in_range n q && distinct q

-- a label of at most 7
abbrev pub low_label : ℕ → Bool
low_label l = leb l 7

-- 6, corner: "label above 7, number out of range, corner twice"
unfoldable pub good_corners : ℕ → List Quad → List ℕ → Bool
good_corners n S labels = all low_label labels && all (proper n) S

-- a mask that is not 0 and has no opposite pair: bits 0 and 1, 2 and 3, 4 and 5, 6 and 7
unfoldable pub good_mask : ℕ → Bool
good_mask m =
    not (eqb m 0) && not (eqb (m % 4) 3) && not (eqb (m / 4 % 4) 3) && not (eqb (m / 16 % 4) 3)
    && not (eqb (m / 64 % 4) 3)

-- the mask of point v is good
abbrev pub good_point : List Quad → List ℕ → ℕ → Bool
good_point S labels v = good_mask (mask_of S labels v)

-- 7, clash: "mask 0 or an opposite pair"
unfoldable pub good_masks : ℕ → List Quad → List ℕ → Bool
good_masks n S labels = every (good_point S labels) n

-- The merged sheet: what one merge does to the quads, and the renumbering after a pass. Document 01, "The merged
-- sheet".
use Rattle.std.specs.Prelude.{ℕ, cond, List, [], ◌∷◌, map, eqb, set, get_or}
use Rattle.points.specs.declared.Point.{Point}
use Rattle.rule_sheet.specs.Quads.{Quad, quad}
use Rattle.rule_sheet.specs.Flat.{flat_quads}
use Rattle.rule_sheet.specs.FirstUse.{firsts, place}
use Rattle.points.specs.Points.{origin}

-- x, and a in place of c
abbrev pub rename : ℕ → ℕ → ℕ → ℕ
rename c a x = cond (eqb x c) a x

-- the same number for each corner
abbrev pub rename_quad : (ℕ → ℕ) → Quad → Quad
rename_quad f (quad a b c d) = quad (f a) (f b) (f c) (f d)

-- a quad of the pass's start: still here, as it now reads, or out
pub data Slot : Type 0 where
  out : Slot
  slot : Quad → Slot

-- the quads that are still here
abbrev pub live : List Slot → List Quad
live [] = []
live (out ∷ S) = live S
live (slot q ∷ S) = q ∷ live S

-- their labels
abbrev pub live_labels : List Slot → List ℕ → List ℕ
live_labels [] labels = []
live_labels (out ∷ S) [] = []
live_labels (out ∷ S) (l ∷ labels) = live_labels S labels
live_labels (slot q ∷ S) [] = []
live_labels (slot q ∷ S) (l ∷ labels) = l ∷ live_labels S labels

-- the same number for each corner of a quad that is still here
abbrev pub rename_slot : (ℕ → ℕ) → Slot → Slot
rename_slot f out = out
rename_slot f (slot q) = slot (rename_quad f q)

-- the merge of the corners a and c of quad k: the quad goes, and c becomes a. "The merged point keeps the number of
-- corner k."
abbrev pub merged : List Slot → ℕ → ℕ → ℕ → List Slot
merged S k a c = set (map (rename_slot (rename c a)) S) k out

-- ---- the renumbering: "Points are renumbered by first use after a pass that merged."

-- the points in the order of their first use
unfoldable pub order : List Quad → List ℕ
order S = firsts [] (flat_quads S)

-- the quads with the points so numbered
unfoldable pub renumber : List Quad → List Quad
renumber S = map (rename_quad (λ x. place x (order S))) S

-- the points of some numbers, in their order
abbrev pub gathered : List Point → List ℕ → List Point
gathered ps l = map (λ v. get_or ps v origin) l

-- The creases at a point, one more at a time. Assumes nothing.
use Prim.Native.Nat.{ℕ, ◌+◌, ◌*◌, ◌/◌, ◌<◌}
use mathlib.Core.Path.{◌≡◌, refl, sym, ap, ◌∙◌}
use mathlib.Core.Bool.{Bool, true, false, not}
use mathlib.Core.List.{List, [], ◌∷◌, ◌++◌, map, map-append, append-nil}
use native.Mathlib.Omega.{arith}
use lib.ListN.{length, get_or, take}
use native.Mathlib.Numerals.{add-one}
use lib.Seq.{take-suc, take-length}
use lib.Dec.{eqb}
use Rattle.lists.specs.Sort.{cons_if, keep}
use Rattle.lists.specs.Regions.{part}
use Rattle.lists.proofs.Regions.{part_of, part-get}
use Rattle.lists.proofs.Laws.{keep_append}
use Rattle.subdivide_points.specs.declared.Creases.{Creases}
use Rattle.subdivide_points.specs.Steps.{Below, other_end, crease_at, creases_of, with_crease, crease_ends}

-- a list with one crease more
creases-add : (l : List ℕ) (u : ℕ) → creases_of (l ++ (u ∷ [])) ≡ with_crease (creases_of l) u
unfolding creases_of with_crease
creases-add [] u = refl
creases-add (x ∷ []) u = refl
creases-add (x ∷ y ∷ []) u = refl
creases-add (x ∷ y ∷ z ∷ l) u = refl

-- the creases among the first j of the places l, and among one more
module _ (labels E H l : List ℕ) (j : ℕ) (c : Creases) (I : c ≡ creases_of (crease_ends labels E H (take j l))) (h : j < length l) (t : Bool) (et : t ≡ crease_at labels E (get_or l j 0)) where
  more : (b : Bool) → t ≡ b → crease_ends labels E H (take (j + 1) l) ≡ crease_ends labels E H (take j l) ++ map (other_end H) (cons_if b (get_or l j 0) [])
  more b e =
      rw (add-one j, take-suc l j 0 h, keep_append (crease_at labels E) (take j l) (get_or l j 0 ∷ []), map-append (other_end H) (keep (crease_at labels E) (take j l)), sym et ∙ e)

  pub creases-more : (u : ℕ) (d : Creases) → t ≡ true → u ≡ other_end H (get_or l j 0) → d ≡ with_crease c u → d ≡ creases_of (crease_ends labels E H (take (j + 1) l))
  creases-more u d e eu ed = ed ∙ rw (more true e, ← eu, creases-add (crease_ends labels E H (take j l)) u, I)

  pub creases-stay : t ≡ false → c ≡ creases_of (crease_ends labels E H (take (j + 1) l))
  creases-stay e = rw (more false e, append-nil) I

pub creases-end : (labels E H l : List ℕ) (j : ℕ) (c : Creases) → c ≡ creases_of (crease_ends labels E H (take j l)) → j ≡ length l → c ≡ creases_of (crease_ends labels E H l)
creases-end labels E H l j c e h = e ∙ ap (λ (k : List ℕ). creases_of (crease_ends labels E H k)) (rw h (take-length l))

-- ---- one edge

pub crease-is : {order : ℕ} {w : List ℕ} (nq : ℕ) (labels : List ℕ) (i c d x y : ℕ) → Below (4 * nq) order (4 * nq) w → i < 4 * nq → c ≡ get_or w (order + i / 2 * 2) 0 → d ≡ get_or w (order + (i / 2 * 2 + 1)) 0
    → x ≡ get_or labels (c / 4) 0 → y ≡ get_or labels (d / 4) 0 → not (eqb x y) ≡ crease_at labels (part order (4 * nq) w) i
unfolding crease_at
crease-is {order} {w} nq labels i c d x y B h ec ed ex ey =
    let P = part_of order (4 * nq) w B.fits in
    rw (ex, ey, ec, ed, part-get 0 (i / 2 * 2) P (omega arith), part-get 0 (i / 2 * 2 + 1) P (omega arith))

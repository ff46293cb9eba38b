-- Where the points of the finer sheet stand in the list of its points, over any arithmetic. Assumes nothing.
use Prim.Native.Nat.{ℕ, zero, suc, ◌+◌, ◌-◌, ◌*◌, ◌/◌, ◌%◌, ◌≤◌, ◌<◌, min, max}
use native.Mathlib.Nat.{mul-add-mod_self_right, mul-add-div_right, mod-eq_of_lt, div-eq_of_lt}
use mathlib.Core.Path.{◌≡◌, refl, sym, ap, ◌∙◌}
use mathlib.Core.Logic.{◌⊎◌, inl, inr}
use mathlib.Core.List.{List, [], ◌∷◌, ◌++◌, map}
use native.Mathlib.Omega.{arith}
use lib.ListN.{length, get_or, get_or-append}
use lib.Seq.{get_or-append-add}
use borrow.Author.Tests.{lt-ltb, le-ltb}
use Rattle.lists.specs.Sort.{tabulate}
use Rattle.lists.proofs.Laws.{length-tab, get_or-tab}
use Rattle.smoothing.specs.Arithmetic.{Arithmetic}
use Rattle.rule_sheet.specs.Quads.{is, sum, side}
use Rattle.rule_sheet.specs.FirstUse.{place}
use Rattle.rule_sheet.specs.Claims.{Below, Differ, All}
use Rattle.rule_sheet.specs.Sheet.{Sheet}
use Rattle.rule_sheet.proofs.Base.{pos-split}
use Rattle.rule_sheet.proofs.FirstUse.{place_at}
use Rattle.rule_finer.specs.Finer.{edge_key, centre_key, asked, mid_of, cen_of}
use Rattle.rule_finer.specs.Smoothed.{centre_at, old_point, edge_place, new_place, smooth_places}
use Rattle.safety_rules.proofs.Numbers.{edge-below, mid-asked, cen-asked}

get-map : {A B : Type 0} (f : A → B) (l : List A) (i : ℕ) (d : B) (e : A) → i < length l → get_or (map f l) i d ≡ f (get_or l i e)
get-map f [] i d e h = absurd (omega arith)
get-map f (x ∷ l) zero d e h = refl
get-map f (x ∷ l) (suc i) d e h = get-map f l i d e (omega arith)

module _ (A : Arithmetic) (s : Sheet) (at : ℕ → A.Number) (d : A.Number) where
  abbrev n : ℕ
  n = length s.points

  -- an old point stands at its number
  pub old-at : (v : ℕ) → v < n → get_or (smooth_places A s at) v d ≡ old_point A s at v
  unfolding smooth_places
  old-at v h =
      let l : v < length (tabulate (old_point A s at) n) = omega (arith, length-tab (old_point A s at) n) in
      get_or-append (tabulate (old_point A s at) n) (map (new_place A s at) (asked n s.quads)) d v l ∙ get_or-tab (old_point A s at) n v d h

  -- and a new one behind them
  new-at : (k : ℕ) → 0 < sum (is k) (asked n s.quads) → get_or (smooth_places A s at) (n + place k (asked n s.quads)) d ≡ new_place A s at k
  unfolding smooth_places
  new-at k h =
      let old = tabulate (old_point A s at) n in
      let l = asked n s.quads in
      let p = place_at k l h in
      ap (λ (m : ℕ). get_or (old ++ map (new_place A s at) l) (m + place k l) d) (sym (length-tab (old_point A s at) n))
      ∙ get_or-append-add old (map (new_place A s at) l) (place k l) d
      ∙ get-map (new_place A s at) l (place k l) d 0 p.0
      ∙ ap (new_place A s at) p.1

  module _ (below : Below n s.quads) (differ : All Differ s.quads) where
    -- the point of quad i
    pub centre-at : (i : ℕ) → i < length s.quads → get_or (smooth_places A s at) (cen_of n s.quads i) d ≡ centre_at A s at i
    unfolding cen_of new_place
    centre-at i h =
        let e : n * n + i - n * n ≡ i = omega arith in
        new-at (centre_key n i) (cen-asked n s.quads below differ i h) ∙ rw (le-ltb (n * n + i) (n * n) (omega arith), e)

    edge-asked : (u v : ℕ) → 0 < side s.quads u v + side s.quads v u → 0 < sum (is (edge_key n u v)) (asked n s.quads)
    edge-asked u v h = go (pos-split (side s.quads u v) (side s.quads v u) h)
      where
        lo : min v u ≡ min u v
        lo = omega arith

        hi : max v u ≡ max u v
        hi = omega arith

        go : (0 < side s.quads u v) ⊎ (0 < side s.quads v u) → 0 < sum (is (edge_key n u v)) (asked n s.quads)
        go (inl k) = mid-asked n s.quads below differ u v k
        go (inr k) = rw (lo, hi) at (mid-asked n s.quads below differ v u k)

    -- the point of the edge of u and v, u not being the larger
    pub edge_at : (u v : ℕ) → u ≤ v → v < n → 0 < side s.quads u v + side s.quads v u
        → get_or (smooth_places A s at) (mid_of n s.quads u v) d ≡ edge_place A s at u v
    unfolding mid_of new_place
    edge_at u v h l k =
        let lo : min u v ≡ u = omega arith in
        let hi : max u v ≡ v = omega arith in
        let b : u * n + v < n * n = rw (lo, hi) at (edge-below n u v (omega arith) l) in
        let q : (u * n + v) / n ≡ u = omega (arith, mul-add-div_right {m = n} (omega arith) u v, div-eq_of_lt {n = v} {m = n} l) in
        let r : (u * n + v) % n ≡ v = mul-add-mod_self_right u n v ∙ mod-eq_of_lt l in
        new-at (edge_key n u v) (edge-asked u v k) ∙ rw (lo, hi, lt-ltb (u * n + v) (n * n) b, q, r)

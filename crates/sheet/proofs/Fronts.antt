-- A slice begins with what was written to its front, and with the points and the quads that it is read as. Assumes nothing.
use Prim.Native.Nat.{ℕ, zero, suc, ◌+◌, ◌*◌, ◌≤◌, ◌<◌, zero-le}
use mathlib.Core.Path.{◌≡◌, refl, sym, ap, ◌∙◌, subst}
use mathlib.Core.List.{List, [], ◌∷◌, ◌++◌, append_assoc}
use native.Mathlib.Omega.{arith}
use lib.ListN.{length, get_or, set, take, drop, length-append, length-set}
use lib.Seq.{take-suc-set, take_at, get_or-take, set-get_or}
use lib.Ieee.{Float, nan}
use Rattle.points.specs.declared.Point.{Point}
use Rattle.points.specs.Points.{origin, point_at}
use Rattle.points.specs.Steps.{with_point}
use Rattle.lists.specs.Sort.{tabulate}
use Rattle.lists.proofs.Laws.{length-tab, is-table, Filled, filled-end}
use Rattle.rule_sheet.specs.Quads.{Quad, quad}
use Rattle.rule_sheet.specs.Flat.{quad_at, quads_of, flat_quads}
use Rattle.sheet.specs.Flat.{with_quad}
use Rattle.rule_sheet.specs.Sheet.{points_of, flat_points}
use Rattle.sheet.specs.Results.{Front}
use Rattle.sheet.proofs.Results.{length-flat-points, length-flat-quads}

-- ---- what is written to the front

-- one element more
pub front-next : {A : Type 0} {l s : List A} (i : ℕ) (x : A) → Front l s → i ≡ length l → i < length s → Front (l ++ (x ∷ [])) (set s i x)
front-next {A} {l} {s} i x F e h =
    let n : length (l ++ (x ∷ [])) ≡ suc i = length-append l (x ∷ []) ∙ omega arith in
    record {
      fits = rw (n, length-set) h;
      is = rw n (take-suc-set s i x h ∙ ap (λ (k : List A). k ++ (x ∷ [])) (rw (← e) at F.is));
    }

pub front-none : {A : Type 0} (s : List A) → Front [] s
front-none s = record { fits = zero-le; is = refl }

-- a list that was filled from the front
pub front-filled : {A : Type 0} {f : ℕ → A} {d s : List A} {n i : ℕ} → Filled f d n s i → n ≤ i → Front (tabulate f n) s
front-filled {A} {f} {d} {s} {n} {i} F h =
    let e = filled-end F h in
    record {
      fits = rw length-tab (omega (arith, F.fits, F.len));
      is = rw (length-tab f n) (ap (take n) e ∙ take_at (tabulate f n) (drop n d) n (length-tab f n));
    }

flat-points-snoc : (ps : List Point) (p : Point) → flat_points (ps ++ (p ∷ [])) ≡ flat_points ps ++ (p.x ∷ p.y ∷ p.z ∷ [])
unfolding flat_points
flat-points-snoc [] p = refl
flat-points-snoc (q ∷ ps) p = rw (flat-points-snoc ps p)

pub length-with : (s : List Float) (k : ℕ) (p : Point) → length (with_point s k p) ≡ length s
unfolding with_point
length-with s k p = simp length-set

-- one point more
pub front-point : (ps : List Point) {s : List Float} (k : ℕ) (p : Point) → Front (flat_points ps) s → k ≡ length ps → k * 3 + 3 ≤ length s → Front (flat_points (ps ++ (p ∷ []))) (with_point s k p)
unfolding with_point
front-point ps {s} k p F e h =
    let l = flat_points ps in
    let n : length l ≡ 3 * length ps = length-flat-points ps in
    let n1 : length (l ++ (p.x ∷ [])) ≡ length l + 1 = length-append l (p.x ∷ []) in
    let n2 : length ((l ++ (p.x ∷ [])) ++ (p.y ∷ [])) ≡ length l + 2 = length-append (l ++ (p.x ∷ [])) (p.y ∷ []) ∙ omega arith in
    let A = front-next (k * 3) p.x F (omega arith) (omega arith) in
    let B = front-next (k * 3 + 1) p.y A (omega arith) (rw length-set (omega arith)) in
    let C = front-next (k * 3 + 2) p.z B (omega arith) (rw (length-set, length-set) (omega arith)) in
    let j : ((l ++ (p.x ∷ [])) ++ (p.y ∷ [])) ++ (p.z ∷ []) ≡ l ++ (p.x ∷ p.y ∷ p.z ∷ []) = simp append_assoc in
    rw flat-points-snoc (rw j at C)

pub flat-quads-snoc : (S : List Quad) (a b c d : ℕ) → flat_quads (S ++ (quad a b c d ∷ [])) ≡ flat_quads S ++ (a ∷ b ∷ c ∷ d ∷ [])
unfolding flat_quads
flat-quads-snoc [] a b c d = refl
flat-quads-snoc (quad x y z w ∷ S) a b c d = rw (flat-quads-snoc S a b c d)

pub length-with-quad : (s : List ℕ) (k : ℕ) (q : Quad) → length (with_quad s k q) ≡ length s
length-with-quad s k (quad a b c d) = simp length-set

-- one quad more
pub front-quad : (S : List Quad) {s : List ℕ} (k : ℕ) (q : Quad) → Front (flat_quads S) s → k ≡ length S → 4 * k + 4 ≤ length s → Front (flat_quads (S ++ (q ∷ []))) (with_quad s k q)
front-quad S {s} k (quad a b c d) F e h =
    let l = flat_quads S in
    let n : length l ≡ 4 * length S = length-flat-quads S in
    let n1 : length (l ++ (a ∷ [])) ≡ length l + 1 = length-append l (a ∷ []) in
    let n2 : length ((l ++ (a ∷ [])) ++ (b ∷ [])) ≡ length l + 2 = length-append (l ++ (a ∷ [])) (b ∷ []) ∙ omega arith in
    let n3 : length (((l ++ (a ∷ [])) ++ (b ∷ [])) ++ (c ∷ [])) ≡ length l + 3 = length-append ((l ++ (a ∷ [])) ++ (b ∷ [])) (c ∷ []) ∙ omega arith in
    let A = front-next (4 * k) a F (omega arith) (omega arith) in
    let B = front-next (4 * k + 1) b A (omega arith) (rw length-set (omega arith)) in
    let C = front-next (4 * k + 2) c B (omega arith) (rw (length-set, length-set) (omega arith)) in
    let D = front-next (4 * k + 3) d C (omega arith) (rw (length-set, length-set, length-set) (omega arith)) in
    let j : (((l ++ (a ∷ [])) ++ (b ∷ [])) ++ (c ∷ [])) ++ (d ∷ []) ≡ l ++ (a ∷ b ∷ c ∷ d ∷ []) = simp append_assoc in
    rw flat-quads-snoc (rw j at D)

-- ---- what is read is at the front

same_point : (P : List Float) (v : ℕ) → with_point P v (point_at P v) ≡ P
unfolding with_point point_at
same_point P v = rw (set-get_or P (v * 3) nan, set-get_or P (v * 3 + 1) nan) (set-get_or P (v * 3 + 2) nan)

pub front-points : (n : ℕ) (P : List Float) → 3 * n ≤ length P → Front (flat_points (points_of n P)) P
unfolding points_of tabulate flat_points
front-points zero P h = front-none P
front-points (suc n) P h =
    subst (λ (s : List Float). Front (flat_points (points_of (suc n) P)) s) (same_point P n)
    (front-point (tabulate (point_at P) n) n (point_at P n) (front-points n P (omega arith)) (sym (length-tab (point_at P) n)) (omega arith))

same-quad : (Q : List ℕ) (q : ℕ) → with_quad Q q (quad_at Q q) ≡ Q
same-quad Q q =
    let z : 4 * q + 0 ≡ 4 * q = omega arith in
    rw (z, set-get_or Q (4 * q) 0, set-get_or Q (4 * q + 1) 0, set-get_or Q (4 * q + 2) 0) (set-get_or Q (4 * q + 3) 0)

pub front-quads : (n : ℕ) (Q : List ℕ) → 4 * n ≤ length Q → Front (flat_quads (quads_of n Q)) Q
unfolding quads_of tabulate flat_quads
front-quads zero Q h = front-none Q
front-quads (suc n) Q h =
    subst (λ (s : List ℕ). Front (flat_quads (quads_of (suc n) Q)) s) (same-quad Q n)
    (front-quad (tabulate (quad_at Q) n) n (quad_at Q n) (front-quads n Q (omega arith)) (sym (length-tab (quad_at Q) n)) (omega arith))

-- ---- what is at the front is read

-- an element of the front
front-get : {A : Type 0} (d : A) (l s : List A) (i : ℕ) → Front l s → i < length l → get_or s i d ≡ get_or l i d
front-get {A} d l s i F h = sym (get_or-take (length l) s i d h) ∙ ap (λ (k : List A). get_or k i d) F.is

flat-at : (ps : List Point) (v : ℕ) → v < length ps → point_at (flat_points ps) v ≡ get_or ps v origin
unfolding point_at flat_points
flat-at [] v h = absurd (omega arith)
flat-at (p ∷ ps) zero h = refl
flat-at (p ∷ ps) (suc v) h =
    let a : suc v * 3 ≡ suc (suc (suc (v * 3))) = omega arith in
    let b : suc v * 3 + 1 ≡ suc (suc (suc (v * 3 + 1))) = omega arith in
    let c : suc v * 3 + 2 ≡ suc (suc (suc (v * 3 + 2))) = omega arith in
    rw (b, c, a) (flat-at ps v (omega arith))

pub points-front : (ps : List Point) (P : List Float) (n : ℕ) → Front (flat_points ps) P → length ps ≡ n → points_of n P ≡ ps
unfolding points_of point_at
points-front ps P n F e = sym (is-table origin ps (point_at P) n e (λ v h. sym (at v h)))
  where
    at : (v : ℕ) → v < n → point_at P v ≡ get_or ps v origin
    at v h =
        let l = length-flat-points ps in
        rw (front-get nan (flat_points ps) P (v * 3) F (omega arith), front-get nan (flat_points ps) P (v * 3 + 1) F (omega arith), front-get nan (flat_points ps) P (v * 3 + 2) F (omega arith)) (flat-at ps v (omega arith))

-- the quad that stands for one out of range
abbrev no_quad : Quad
no_quad = quad 0 0 0 0

flat-quad-at : (S : List Quad) (q : ℕ) → q < length S → quad_at (flat_quads S) q ≡ get_or S q no_quad
unfolding flat_quads
flat-quad-at [] q h = absurd (omega arith)
flat-quad-at (quad a b c d ∷ S) zero h = refl
flat-quad-at (quad a b c d ∷ S) (suc q) h =
    let e : 4 * suc q + 0 ≡ suc (suc (suc (suc (4 * q + 0)))) = omega arith in
    let f : 4 * suc q + 1 ≡ suc (suc (suc (suc (4 * q + 1)))) = omega arith in
    let g : 4 * suc q + 2 ≡ suc (suc (suc (suc (4 * q + 2)))) = omega arith in
    let k : 4 * suc q + 3 ≡ suc (suc (suc (suc (4 * q + 3)))) = omega arith in
    rw (e, f, g, k) (flat-quad-at S q (omega arith))

pub quads-front : (S : List Quad) (Q : List ℕ) (n : ℕ) → Front (flat_quads S) Q → length S ≡ n → quads_of n Q ≡ S
unfolding quads_of
quads-front S Q n F e = sym (is-table no_quad S (quad_at Q) n e (λ q h. sym (at q h)))
  where
    at : (q : ℕ) → q < n → quad_at Q q ≡ get_or S q no_quad
    at q h =
        let l = length-flat-quads S in
        rw (front-get 0 (flat_quads S) Q (4 * q + 0) F (omega arith), front-get 0 (flat_quads S) Q (4 * q + 1) F (omega arith), front-get 0 (flat_quads S) Q (4 * q + 2) F (omega arith), front-get 0 (flat_quads S) Q (4 * q + 3) F (omega arith)) (flat-quad-at S q (omega arith))

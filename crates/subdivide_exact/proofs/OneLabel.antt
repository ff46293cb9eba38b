-- A sheet of one label has no crease, and no point of it touches more labels. Assumes nothing.
use Prim.Native.Nat.{ℕ, zero, suc, ◌+◌, ◌≤◌, ◌<◌}
use mathlib.Core.Path.{◌≡◌, refl, sym, ◌∙◌}
use mathlib.Core.Logic.{⊎_elim}
use mathlib.Core.Bool.{Bool, true, false, cond, not, ◌&&◌}
use mathlib.Core.List.{List, [], ◌∷◌}
use native.Mathlib.Omega.{arith}
use lib.Dec.{eqb, ltb}
use lib.ListN.{length, get_or, replicate}
use borrow.Author.Tests.{eqb-true, ne_eqb, ltb-true, lt-ltb}
use Rattle.lists.specs.Every.{count_to}
use Rattle.lists.proofs.Laws.{eq-or-ne}
use Rattle.lists.proofs.Every.{and_left, and_right}
use Rattle.rule_sheet.specs.Quads.{Quad, all, side, is_edge, label_sum, uses, has_label}
use Rattle.rule_sheet.specs.Edges.{join_to}
use Rattle.rule_sheet.specs.Sheet.{Sheet}
use Rattle.rule_sheet.proofs.All.{all_append, all-get}
use Rattle.rule_sheet.proofs.Base.{eqb-self}
use Rattle.rule_finer.specs.Smoothed.{those, timed, edge_quads, sides, paired, is_crease, creases, label_count}
use Rattle.safety_rules.proofs.Fine.{Fine, fine_of}
use Rattle.subdivide_exact.specs.Paper.{OneLabel}
use Rattle.subdivide_exact.proofs.Counts.{two-quads}
use Rattle.subdivide_exact.proofs.Pairs.{two-of}

-- the numbers of quads are below their count
timed-low : (f : Quad → ℕ) (m i : ℕ) (S : List Quad) → i + length S ≤ m → all (λ x. ltb x m) (timed f i S) ≡ true
timed-low f m i [] h = refl
timed-low f m i (q ∷ S) h = all_append (λ x. ltb x m) (replicate (f q) i) (timed f (suc i) S) ∙ rw (copies (f q), timed-low f m (suc i) S (omega arith))
  where
    copies : (k : ℕ) → all (λ x. ltb x m) (replicate k i) ≡ true
    copies zero = refl
    copies (suc k) = rw (lt-ltb i m (omega arith), copies k)

two-low : (S : List Quad) (u v f g : ℕ) → edge_quads S u v ≡ f ∷ g ∷ [] → (f < length S) × (g < length S)
unfolding edge_quads
two-low S u v f g e =
    let t : all (λ x. ltb x (length S)) (f ∷ g ∷ []) ≡ true = rw e at (timed-low (sides u v) (length S) 0 S (omega arith)) in
    let r = and_right (ltb f (length S)) (ltb g (length S) && true) t in
    (ltb-true f (length S) (and_left _ _ t), ltb-true g (length S) (and_left _ _ r))

-- where no number passes, there are none
those-none : (p : ℕ → Bool) (n : ℕ) → ((i : ℕ) → p i ≡ false) → those p n ≡ []
unfolding those join_to
those-none p zero h = refl
those-none p (suc n) h = rw (h n, those-none p n h)

-- where only l may pass, at most one does
count-one : (p : ℕ → Bool) (l : ℕ) → ((i : ℕ) → p i ≡ true → i ≡ l) → (n : ℕ) → (count_to p n ≤ 1) × (n ≤ l → count_to p n ≡ 0)
unfolding count_to
count-one p l h zero = (omega arith, λ k. refl)
count-one p l h (suc n) = go (p n) refl (count-one p l h n)
  where
    go : (b : Bool) → p n ≡ b → (count_to p n ≤ 1) × (n ≤ l → count_to p n ≡ 0) → (count_to p n + cond b 1 0 ≤ 1) × (suc n ≤ l → count_to p n + cond b 1 0 ≡ 0)
    go true e (a, z) = let x : n ≡ l = h n e in (omega (arith, z (omega arith)), λ k. absurd (omega arith))
    go false e (a, z) = (omega arith, λ k. omega (arith, z (omega arith)))

-- another label has no quads
none_other : (f : Quad → ℕ) (l k : ℕ) (S : List Quad) (labels : List ℕ) → all (eqb l) labels ≡ true → (k ≡ l → ⊥) → label_sum f k S labels ≡ 0
none_other f l k [] labels e ne = refl
none_other f l k (q ∷ S) [] e ne = refl
none_other f l k (q ∷ S) (j ∷ labels) e ne =
    let x : l ≡ j = eqb-true l j (and_left (eqb l j) (all (eqb l) labels) e) in
    rw (ne_eqb j k (λ z. ne (sym (x ∙ z)))) (omega (arith, none_other f l k S labels (and_right (eqb l j) (all (eqb l) labels) e) ne))

module _ (s : Sheet) (l : ℕ) (F : Fine s) (pr : paired (length s.points) s.quads ≡ true) (one : all (eqb l) s.labels ≡ true) where
  abbrev S : List Quad
  S = s.quads

  label_is : (i : ℕ) → i < length S → get_or s.labels i 0 ≡ l
  label_is i h = sym (eqb-true l (get_or s.labels i 0) (all-get (eqb l) s.labels i 0 one (omega (arith, F.labelled))))

  pub no-crease : (u v : ℕ) → is_crease s u v ≡ false
  unfolding is_crease
  no-crease u v = go (is_edge S u v) refl
    where
      first : ℕ
      first = get_or s.labels (get_or (edge_quads S u v) 0 0) 0

      second : ℕ
      second = get_or s.labels (get_or (edge_quads S u v) 1 0) 0

      go : (b : Bool) → is_edge S u v ≡ b → (b && not (eqb first second)) ≡ false
      go false e = refl
      go true e =
          let t = two-of S F.differ u v (two-quads (length s.points) S F.in_range F.differ pr u v (ltb-true 0 (side S u v + side S v u) e)) in
          let b = two-low S u v t.f t.g t.quads in
          rw (t.quads, label_is t.f b.0, label_is t.g b.1, eqb-self l)

  pub no-creases : (v : ℕ) → creases s v ≡ []
  unfolding creases
  no-creases v = those-none (is_crease s v) (length s.points) (no-crease v)

  pub few-labels : (v : ℕ) → label_count s v ≤ 2
  unfolding label_count
  few-labels v = omega (arith, (count-one (has_label S s.labels v) l only 8).0)
    where
      only : (k : ℕ) → has_label S s.labels v k ≡ true → k ≡ l
      only k e = ⊎_elim
          (λ (x : k ≡ l). x)
          (λ (x : k ≡ l → ⊥). absurd (omega (arith, ltb-true 0 (label_sum (uses v) k S s.labels) e, none_other (uses v) l k S s.labels one x)))
          (eq-or-ne k l)

pub one_label : OneLabel
unfolding OneLabel
one_label s l a pr one =
    let F = fine_of s a in
    record { edges = no-crease s l F pr one; points = λ v. (few-labels s l F pr one v, no-creases s l F pr one v) }

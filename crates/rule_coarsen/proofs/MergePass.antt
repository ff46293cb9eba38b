-- The merges of one pass use the sheet of the pass's start; each is a merge of the sheet as it stands. Assumes nothing.
use mathlib.Core.Path.{◌≡◌, refl, ap, ap₂, sym, ◌∙◌, subst}
use mathlib.Core.Logic.{◌⊎◌, inl, inr, ◌≢◌}
use Prim.Native.Nat.{ℕ, zero, suc, ◌+◌, ◌*◌, ◌-◌, ◌≤◌, ◌<◌}
use mathlib.Core.List.{List, [], ◌∷◌, map}
use mathlib.Core.Bool.{Bool, true, false, cond}
use native.Mathlib.Omega.{arith}
use native.Mathlib.Decide.{ℕ_discrete, dec_lt}
use lib.Dec.{eqb}
use lib.ListN.{length, get_or, length-set, length-map, get_or-eq_default, get_or-map}
use lib.Seq.{get_or-set_same, get_or-set_other}
use borrow.Author.Tests.{ne_eqb}
use Rattle.rule_sheet.specs.Closed.{at_point, Rings}
use Rattle.rule_sheet.specs.Quads.{Quad, quad, is, sum, corners, total, at, valence, side, label_sum, touches}
use Rattle.rule_sheet.proofs.FirstUse.{is-other}
use Rattle.rule_sheet.proofs.Sums.{upto}
use Rattle.rule_sheet.specs.Squared.{sq}
use Rattle.rule_sheet.specs.Claims.{Below, Differ}
use Rattle.rule_sheet.specs.Quads.{turn}
use Rattle.rule_passes.specs.Choices.{none_quad}
use Rattle.rule_sheet.proofs.Labels.{label-sum-set, label-sum-le, label-sum-add, label-sum-same, label-sum-map}
use Rattle.rule_sheet.specs.Claims.{Has}
use Rattle.rule_sheet.proofs.Rings.{zero_or, ring-two}
use Rattle.rule_sheet.proofs.Sums.{sum-set, sum-at}
use Rattle.rule_sheet.proofs.Weigh.{here}
use Rattle.rule_sheet.proofs.Weigh.{at_same, at-diff, is_le, at-le, corners-le, side-at-end, flip}
use Rattle.rule_coarsen.specs.Merges.{rename, rename_quad, Slot, out, slot, live, live_labels, rename_slot, merged}
use Rattle.rule_coarsen.specs.Invariants.{weigh, MInv}
use Rattle.rule_coarsen.proofs.Joins.{sq_used, squared_used, in_use, Mergeable, BarPoints, Merges, done, merge}
use Rattle.rule_coarsen.proofs.OneMerge.{ren-same, ren-diff, merge-rings, val-a, val-b, val-c, val-d, merge-below, merge-sum}

pub sum-live : (F : Quad → ℕ) (S : List Slot) → sum F (live S) ≡ sum (weigh F) S
sum-live F [] = refl
sum-live F (out ∷ S) = omega (arith, sum-live F S)
sum-live F (slot q ∷ S) = omega (arith, sum-live F S)

pub sum-ren : (F : Quad → ℕ) (f : ℕ → ℕ) (S : List Slot) → sum (weigh F) (map (rename_slot f) S) ≡ sum (weigh (λ q. F (rename_quad f q))) S
sum-ren F f [] = refl
sum-ren F f (out ∷ S) = omega (arith, sum-ren F f S)
sum-ren F f (slot q ∷ S) = omega (arith, sum-ren F f S)

-- A place that holds a quad is one of the list.
pub slot-in : (S : List Slot) (k : ℕ) (q : Quad) → get_or S k out ≡ slot q → k < length S
slot-in S k q e = go (dec_lt k (length S))
  where
    go : Dec (k < length S) → k < length S
    go (yes h) = h
    go (no n) = absurd (omega (arith, ap (weigh (λ q. 1)) e, ap (weigh (λ q. 1)) (get_or-eq_default S out {n = k} (omega arith))))

-- One quad goes and all are renamed.
pub sum-merged : (F : Quad → ℕ) (S : List Slot) (k a c : ℕ) (q : Quad) → get_or S k out ≡ slot q → sum F (live (merged S k a c)) + F (rename_quad (rename c a) q) ≡ sum (λ q. F (rename_quad (rename c a) q)) (live S)
sum-merged F S k a c q e =
    omega (
      arith,
      sum-live F (merged S k a c),
      sum-live (λ q. F (rename_quad (rename c a) q)) S,
      sum-ren F (rename c a) S,
      sum-set (weigh F) (map (rename_slot (rename c a)) S) k out out (rw length-map (slot-in S k q e)),
      ap (weigh F) (get_or-map (rename_slot (rename c a)) S k out ∙ ap (rename_slot (rename c a)) e),
    )

-- Two lists with equal weights place by place have equal sums.
pub sum_same : {A B : Type 0} (f : A → ℕ) (g : B → ℕ) (x : A) (y : B) (s : List A) (t : List B) → length s ≡ length t → ((j : ℕ) → j < length t → f (get_or s j x) ≡ g (get_or t j y)) → sum f s ≡ sum g t
sum_same f g x y [] [] l h = refl
sum_same f g x y [] (b ∷ t) l h = absurd (omega arith)
sum_same f g x y (a ∷ s) [] l h = absurd (omega arith)
sum_same f g x y (a ∷ s) (b ∷ t) l h = ap₂ (λ m n. m + n) (h 0 (omega arith)) (sum_same f g x y s t (omega arith) (λ j k. h (suc j) (omega arith)))

-- without v there are no corners at v
no-corner : (q : Quad) (v : ℕ) (g : ℕ → ℕ → ℕ) → ¬ Has q v → corners (at v g) q ≡ 0
no-corner (quad x y z w) v g h = omega (
  arith,
  at-diff v g w x y (λ p. h (omega (arith, at_same v (λ p n. 1) w y, ap (λ k. at v (λ p n. 1) w k y) p))),
  at-diff v g x y z (λ p. h (omega (arith, at_same v (λ p n. 1) x z, ap (λ k. at v (λ p n. 1) x k z) p))),
  at-diff v g y z w (λ p. h (omega (arith, at_same v (λ p n. 1) y w, ap (λ k. at v (λ p n. 1) y k w) p))),
  at-diff v g z w x (λ p. h (omega (arith, at_same v (λ p n. 1) z x, ap (λ k. at v (λ p n. 1) z k x) p))),
)

pub has-dec : (q : Quad) (v : ℕ) → Dec (Has q v)
has-dec q v = dec_lt 0 (corners (at v (λ p n. 1)) q)

-- So what stands at an unbarred point is what stood there.
pub place-free : (S0 : List Quad) (S : List Slot) (U : ℕ → Type 0) → MInv S0 S U → (v : ℕ) → ¬ U v → (g : ℕ → ℕ → ℕ) → (j : ℕ) → j < length S0 → weigh (corners (at v g)) (get_or S j out) ≡ corners (at v g) (get_or S0 j none_quad)
place-free S0 S U inv v nu g j l = go (get_or S j out) refl (has-dec (get_or S0 j none_quad) v)
  where
    there : (s : Slot) → get_or S j out ≡ s → get_or S j out ≡ slot (get_or S0 j none_quad) → weigh (corners (at v g)) s ≡ corners (at v g) (get_or S0 j none_quad)
    there s e p = ap (weigh (corners (at v g))) (sym e ∙ p)

    old : (q : Quad) → get_or S j out ≡ slot q → ¬ Has (get_or S0 j none_quad) v → Dec (Has q v) → corners (at v g) q ≡ corners (at v g) (get_or S0 j none_quad)
    old q e n (yes h) = there (slot q) e (inv.same v nu j l (inl (subst (λ s. 0 < weigh (corners (at v (λ p n. 1))) s) (sym e) h)))
    old q e n (no m) = no-corner q v g m ∙ sym (no-corner (get_or S0 j none_quad) v g n)

    go : (s : Slot) → get_or S j out ≡ s → Dec (Has (get_or S0 j none_quad) v) → weigh (corners (at v g)) s ≡ corners (at v g) (get_or S0 j none_quad)
    go s e (yes h) = there s e (inv.same v nu j l (inr h))
    go out e (no n) = sym (no-corner (get_or S0 j none_quad) v g n)
    go (slot q) e (no n) = old q e n (has-dec q v)

pub at-free : (S0 : List Quad) (S : List Slot) (U : ℕ → Type 0) → MInv S0 S U → (v : ℕ) → ¬ U v → (g : ℕ → ℕ → ℕ) → at_point (live S) v g ≡ at_point S0 v g
at-free S0 S U inv v nu g = sum-live (corners (at v g)) S ∙ sum_same (weigh (corners (at v g))) (corners (at v g)) out none_quad S S0 inv.len (place-free S0 S U inv v nu g)

-- The quads of label l at v, among the slots.
abbrev pub slot_touches : List Slot → List ℕ → ℕ → ℕ → ℕ
slot_touches S labels v l = label_sum (weigh (corners (at v (λ p n. 1)))) l S labels

unfoldable pub SlotsNoClash : List Slot → List ℕ → Type 0
SlotsNoClash S labels = (v j : ℕ) → 0 < slot_touches S labels v (2 * j) → slot_touches S labels v (2 * j + 1) ≡ 0

pub touches-live : (v l : ℕ) (S : List Slot) (labels : List ℕ) → length labels ≡ length S → touches (live S) (live_labels S labels) v l ≡ slot_touches S labels v l
touches-live v l [] labels e = refl
touches-live v l (out ∷ S) [] e = absurd (omega arith)
touches-live v l (out ∷ S) (k ∷ labels) e = omega (arith, none (eqb k l), touches-live v l S labels (omega arith))
  where
    none : (b : Bool) → cond {A = ℕ} b 0 0 ≡ 0
    none true = refl
    none false = refl
touches-live v l (slot q ∷ S) [] e = absurd (omega arith)
touches-live v l (slot q ∷ S) (k ∷ labels) e = ap (λ n. cond (eqb k l) (corners (at v (λ p n. 1)) q) 0 + n) (touches-live v l S labels (omega arith))

pub live-length : (S : List Slot) (labels : List ℕ) → length labels ≡ length S → length (live_labels S labels) ≡ length (live S)
live-length [] labels e = refl
live-length (out ∷ S) [] e = absurd (omega arith)
live-length (out ∷ S) (k ∷ labels) e = live-length S labels (omega arith)
live-length (slot q ∷ S) [] e = absurd (omega arith)
live-length (slot q ∷ S) (k ∷ labels) e = ap suc (live-length S labels (omega arith))

unslot : Slot → Quad
unslot out = none_quad
unslot (slot q) = q

pub slot-inj : (p q : Quad) → slot p ≡ slot q → p ≡ q
slot-inj p q e = cc

sum-ext : (F G : Quad → ℕ) → ((q : Quad) → F q ≡ G q) → (S : List Quad) → sum F S ≡ sum G S
sum-ext F G h [] = refl
sum-ext F G h (q ∷ S) = ap₂ (λ m n. m + n) (h q) (sum-ext F G h S)

corners-ren : (f : ℕ → ℕ → ℕ → ℕ) (r : ℕ → ℕ) (q : Quad) → corners f (rename_quad r q) ≡ corners (λ p m n. f (r p) (r m) (r n)) q
corners-ren f r (quad a b c d) = refl

turn-proper : (k : ℕ) (q : Quad) → Differ q → Differ (turn k q)
turn-proper zero q p = p
turn-proper (suc k) (quad a b c d) (ab, ac, ad, bc, bd, cd) = turn-proper k (quad b c d a) (bc, bd, (λ e. ab (sym e)), cd, (λ e. ac (sym e)), (λ e. ad (sym e)))

loop-none : (v p x y : ℕ) → x ≢ y → at v (λ p n. is v n) p x y ≡ 0
loop-none v p x y h = go (ℕ_discrete x v)
  where
    go : Dec (x ≡ v) → at v (λ p n. is v n) p x y ≡ 0
    go (yes e) = rw e (at_same v (λ p n. is v n) p y ∙ is-other v y (λ k. h (e ∙ k)))
    go (no n) = at-diff v (λ p n. is v n) p x y n

-- A quad of different corners has no side from v to v.
pub no_loop : (q : Quad) → Differ q → (v : ℕ) → corners (at v (λ p n. is v n)) q ≡ 0
no_loop (quad x y z w) (ab, ac, ad, bc, bd, cd) v = omega (arith, loop-none v w x y ab, loop-none v x y z bc, loop-none v y z w cd, loop-none v z w x (λ e. ad (sym e)))

-- A quad with the side from a to c has both.
side-has : (q : Quad) (a c : ℕ) → 0 < corners (at a (λ p n. is c n)) q → Has q a × Has q c
side-has (quad x y z w) a c h = (
  omega (arith, corners-le (at a (λ p n. is c n)) (at a (λ p n. 1)) (at-le a (λ p n. is c n) (λ p n. 1) (λ p n. is_le c n)) (quad x y z w)),
  omega (arith, flip c a x y, flip c a y z, flip c a z w, flip c a w x, corners-le (at c (λ p n. is a p)) (at c (λ p n. 1)) (at-le c (λ p n. is a p) (λ p n. 1) (λ p n. is_le a p)) (quad x y z w)),
)

pub sum-zero : {A : Type 0} (f : A → ℕ) (x : A) (s : List A) → ((j : ℕ) → j < length s → f (get_or s j x) ≡ 0) → sum f s ≡ 0
sum-zero f x [] h = refl
sum-zero f x (a ∷ s) h = omega (arith, h 0 (omega arith), sum-zero f x s (λ j k. h (suc j) (omega arith)))

-- no two corners get one name
ren-apart : (c a x y : ℕ) → x ≢ y → ((x ≡ c) → y ≢ a) → ((y ≡ c) → x ≢ a) → rename c a x ≢ rename c a y
ren-apart c a x y xy f g = go (ℕ_discrete x c) (ℕ_discrete y c)
  where
    go : Dec (x ≡ c) → Dec (y ≡ c) → rename c a x ≢ rename c a y
    go (yes p) (yes q) = absurd (xy (p ∙ sym q))
    go (yes p) (no q) = λ e. f p (sym (ren-diff c a y q) ∙ (sym e ∙ (ap (rename c a) p ∙ ren-same c a)))
    go (no p) (yes q) = λ e. g q (sym (ren-diff c a x p) ∙ (e ∙ (ap (rename c a) q ∙ ren-same c a)))
    go (no p) (no q) = λ e. xy (sym (ren-diff c a x p) ∙ (e ∙ ren-diff c a y q))

corner-has : (x y z w v : ℕ) → (v ≡ x) ⊎ ((v ≡ y) ⊎ ((v ≡ z) ⊎ (v ≡ w))) → Has (quad x y z w) v
corner-has x y z w v (inl p) = omega (arith, at_same v (λ p n. 1) w y, ap (λ k. at v (λ p n. 1) w k y) p)
corner-has x y z w v (inr (inl p)) = omega (arith, at_same v (λ p n. 1) x z, ap (λ k. at v (λ p n. 1) x k z) p)
corner-has x y z w v (inr (inr (inl p))) = omega (arith, at_same v (λ p n. 1) y w, ap (λ k. at v (λ p n. 1) y k w) p)
corner-has x y z w v (inr (inr (inr p))) = omega (arith, at_same v (λ p n. 1) z x, ap (λ k. at v (λ p n. 1) z k x) p)

ren-proper : (c a : ℕ) (q : Quad) → (Has q a → ¬ Has q c) → Differ q → Differ (rename_quad (rename c a) q)
ren-proper c a (quad x y z w) h (ab, ac, ad, bc, bd, cd) = (
  ren-apart c a x y ab (λ p q. h (has-y q) (has-x p)) (λ p q. h (has-x q) (has-y p)),
  ren-apart c a x z ac (λ p q. h (has-z q) (has-x p)) (λ p q. h (has-x q) (has-z p)),
  ren-apart c a x w ad (λ p q. h (has-w q) (has-x p)) (λ p q. h (has-x q) (has-w p)),
  ren-apart c a y z bc (λ p q. h (has-z q) (has-y p)) (λ p q. h (has-y q) (has-z p)),
  ren-apart c a y w bd (λ p q. h (has-w q) (has-y p)) (λ p q. h (has-y q) (has-w p)),
  ren-apart c a z w cd (λ p q. h (has-w q) (has-z p)) (λ p q. h (has-z q) (has-w p)),
)
  where
    has-x : {v : ℕ} → x ≡ v → Has (quad x y z w) v
    has-x {v} p = corner-has x y z w v (inl (sym p))

    has-y : {v : ℕ} → y ≡ v → Has (quad x y z w) v
    has-y {v} p = corner-has x y z w v (inr (inl (sym p)))

    has-z : {v : ℕ} → z ≡ v → Has (quad x y z w) v
    has-z {v} p = corner-has x y z w v (inr (inr (inl (sym p))))

    has-w : {v : ℕ} → w ≡ v → Has (quad x y z w) v
    has-w {v} p = corner-has x y z w v (inr (inr (inr (sym p))))

-- a quad without c is not renamed
ren-quad-id : (c a : ℕ) (q : Quad) → ¬ Has q c → rename_quad (rename c a) q ≡ q
ren-quad-id c a (quad x y z w) h = go _ _ _ _
    (ren-diff c a x (λ p. h (corner-has x y z w c (inl (sym p)))))
    (ren-diff c a y (λ p. h (corner-has x y z w c (inr (inl (sym p))))))
    (ren-diff c a z (λ p. h (corner-has x y z w c (inr (inr (inl (sym p)))))))
    (ren-diff c a w (λ p. h (corner-has x y z w c (inr (inr (inr (sym p)))))))
  where
    go : (x' y' z' w' : ℕ) → x' ≡ x → y' ≡ y → z' ≡ z → w' ≡ w → quad x' y' z' w' ≡ quad x y z w
    go x' y' z' w' p q r s = cc

-- a renamed quad has no corners that it had not, but a
ren-le : (c a v : ℕ) (q : Quad) → v ≢ a → corners (at v (λ p n. 1)) (rename_quad (rename c a) q) ≤ corners (at v (λ p n. 1)) q
ren-le c a v (quad x y z w) n = omega (arith, le w x y, le x y z, le y z w, le z w x)
  where
    le : (p m k : ℕ) → at v (λ p n. 1) (rename c a p) (rename c a m) (rename c a k) ≤ at v (λ p n. 1) p m k
    le p m k = go (ℕ_discrete m c)
      where
        go : Dec (m ≡ c) → at v (λ p n. 1) (rename c a p) (rename c a m) (rename c a k) ≤ at v (λ p n. 1) p m k
        go (yes e) = omega (arith, at-diff v (λ p n. 1) (rename c a p) (rename c a m) (rename c a k) (λ i. n (sym i ∙ (ap (rename c a) e ∙ ren-same c a))))
        go (no e) = omega (arith, ap (λ i. at v (λ p n. 1) p i k) (ren-diff c a m e))

ren-le-a : (c a : ℕ) (q : Quad) → corners (at a (λ p n. 1)) (rename_quad (rename c a) q) ≤ corners (at a (λ p n. 1)) q + corners (at c (λ p n. 1)) q
ren-le-a c a (quad x y z w) = omega (arith, le w x y, le x y z, le y z w, le z w x)
  where
    most : (b : Bool) → cond {A = ℕ} b 1 0 ≤ 1
    most true = omega arith
    most false = omega arith

    le : (p m k : ℕ) → at a (λ p n. 1) (rename c a p) (rename c a m) (rename c a k) ≤ at a (λ p n. 1) p m k + at c (λ p n. 1) p m k
    le p m k = go (ℕ_discrete m c)
      where
        go : Dec (m ≡ c) → at a (λ p n. 1) (rename c a p) (rename c a m) (rename c a k) ≤ at a (λ p n. 1) p m k + at c (λ p n. 1) p m k
        go (yes e) = omega (arith, most (eqb (rename c a m) a), at_same c (λ p n. 1) p k, ap (λ i. at c (λ p n. 1) p i k) e)
        go (no e) = omega (arith, ap (λ i. at a (λ p n. 1) p i k) (ren-diff c a m e))

ren-has : (c a v : ℕ) (q : Quad) → v ≢ a → Has (rename_quad (rename c a) q) v → Has q v
ren-has c a v q n h = omega (arith, h, ren-le c a v q n)

pub sq-used-pos : (k : ℕ) → 0 < k → sq_used k ≡ sq k
sq-used-pos k h = ap (λ b. cond b 0 (sq k)) (ne_eqb k 0 (λ p. omega arith))

used : ℕ → ℕ
used k = cond (eqb k 0) 0 1

used_pos : (k : ℕ) → 0 < k → used k ≡ 1
unfolding used
used_pos k h = ap (λ b. cond b 0 1) (ne_eqb k 0 (λ p. omega arith))

pub length-sum : (S : List Quad) → sum (λ q. 1) S ≡ length S
length-sum [] = refl
length-sum (q ∷ S) = omega (arith, length-sum S)

-- the squares' part of a merge, on plain numbers: `omega` would take the squares apart
less-squares : {x y p q r s p' q' r' s' a b c d a' b' d' : ℕ} → x + (p + (q + (r + s))) ≡ y + (p' + (q' + (r' + s'))) → p ≡ a → q ≡ b → r ≡ c → s ≡ d → p' ≡ a' → q' ≡ b' → r' ≡ 0 → s' ≡ d'
    → a' + (b' + d') ≤ a + (b + (c + d)) → x ≤ y
less-squares e1 e2 e3 e4 e5 e6 e7 e8 e9 l = omega arith

-- a point in use has a quad
use-some : (S : List Quad) (v : ℕ) → 0 < valence S v → 0 < length S
use-some [] v h = absurd (omega arith)
use-some (q ∷ S) v h = omega arith

-- What one merge keeps.
pub record Merged (labels : List ℕ) (S0 : List Quad) (S S₁ : List Slot) (U₁ : ℕ → Type 0) : Type 0 where
  pub rings : Rings (live S) → Rings (live S₁)
  pub inv : MInv S0 S₁ U₁
  pub below : (n : ℕ) → Below n (live S) → Below n (live S₁)
  pub squares : (n : ℕ) → Below n (live S) → Rings (live S) → squared_used n (live S₁) ≤ squared_used n (live S)
  pub points : (n : ℕ) → Below n (live S) → Rings (live S) → in_use n (live S₁) + 1 ≡ in_use n (live S)
  pub quads : length (live S₁) + 1 ≡ length (live S)
  pub some : 0 < length (live S₁)
  pub len : length S₁ ≡ length S
  pub clash : length labels ≡ length S → SlotsNoClash S labels → SlotsNoClash S₁ labels
  pub four : ((j : ℕ) (q : Quad) → get_or S j out ≡ slot q → Differ q) → (j : ℕ) (q : Quad) → get_or S₁ j out ≡ slot q → Differ q

module _ (labels : List ℕ) (S0 : List Quad) (S : List Slot) (U : ℕ → Type 0) (inv : MInv S0 S U) (fine : (j : ℕ) → j < length S0 → Differ (get_or S0 j none_quad))
    (k a b c d : ℕ) (m : Mergeable S0 labels S U k a b c d) where
  L : List Quad
  L = live S

  lk : k < length S0
  lk = omega (arith, inv.len, slot-in S k m.face m.stands)

  face-is : (f : ℕ → ℕ → ℕ → ℕ) → corners f m.face ≡ corners f (quad a b c d)
  face-is = here m.from m.face a b c d m.corners_are

  face-a : Has m.face a
  face-a = omega (arith, face-is (at a (λ p n. 1)), corner-has a b c d a (inl refl))

  stood : m.face ≡ get_or S0 k none_quad
  stood = slot-inj m.face (get_or S0 k none_quad) (sym m.stands ∙ inv.same a m.free_a k lk (inl (subst (λ s. 0 < weigh (corners (at a (λ p n. 1))) s) (sym m.stands) face-a)))

  had : (v : ℕ) → Has (quad a b c d) v → Has (get_or S0 k none_quad) v
  had v h = subst (λ q. Has q v) stood (omega (arith, face-is (at v (λ p n. 1))))

  four-corners : Differ (quad a b c d)
  four-corners = subst Differ m.corners_are (turn-proper m.from m.face (subst Differ (sym stood) (fine k lk)))

  moved : (f : ℕ → ℕ → ℕ → ℕ) → total f (live (merged S k a c)) + corners (λ p m n. f (rename c a p) (rename c a m) (rename c a n)) (quad a b c d) ≡ total (λ p m n. f (rename c a p) (rename c a m) (rename c a n)) (live S)
  moved f = omega (
    arith,
    sum-merged (corners f) S k a c m.face m.stands,
    sum-ext (λ q. corners f (rename_quad (rename c a) q)) (corners (λ p m n. f (rename c a p) (rename c a m) (rename c a n))) (corners-ren f (rename c a)) (live S),
    corners-ren f (rename c a) m.face,
    face-is (λ p m n. f (rename c a p) (rename c a m) (rename c a n)),
  )

  face-in : (f : ℕ → ℕ → ℕ → ℕ) → corners f (quad a b c d) ≤ total f (live S)
  face-in f = omega (arith, face-is f, sum-live (corners f) S, sum-at (weigh (corners f)) S k out (slot-in S k m.face m.stands), ap (weigh (corners f)) m.stands)

  ab : a ≢ b
  ab = four-corners.0

  ac : a ≢ c
  ac = four-corners.1

  ad : a ≢ d
  ad = four-corners.2

  bc : b ≢ c
  bc = four-corners.3

  bd : b ≢ d
  bd = four-corners.4

  cd : c ≢ d
  cd = four-corners.5

  -- what stands at the four corners is what stood there
  now-a : (g : ℕ → ℕ → ℕ) → at_point (live S) a g ≡ at_point S0 a g
  now-a = at-free S0 S U inv a m.free_a

  now-b : (g : ℕ → ℕ → ℕ) → at_point (live S) b g ≡ at_point S0 b g
  now-b = at-free S0 S U inv b m.free_b

  now-c : (g : ℕ → ℕ → ℕ) → at_point (live S) c g ≡ at_point S0 c g
  now-c = at-free S0 S U inv c m.free_c

  now-d : (g : ℕ → ℕ → ℕ) → at_point (live S) d g ≡ at_point S0 d g
  now-d = at-free S0 S U inv d m.free_d

  -- no side from one of the merged points to the other
  no-side : (u v : ℕ) → ((j : ℕ) → j < length S0 → j ≢ k → Has (get_or S0 j none_quad) u → ¬ Has (get_or S0 j none_quad) v) → corners (at u (λ p n. is v n)) (quad a b c d) ≡ 0 → side S0 u v ≡ 0
  no-side u v none here-none = sum-zero (corners (at u (λ p n. is v n))) none_quad S0 (λ j l. go j l (zero_or (corners (at u (λ p n. is v n)) (get_or S0 j none_quad))) (ℕ_discrete j k))
    where
      go : (j : ℕ) → j < length S0 → (corners (at u (λ p n. is v n)) (get_or S0 j none_quad) ≡ 0) ⊎ (0 < corners (at u (λ p n. is v n)) (get_or S0 j none_quad)) → Dec (j ≡ k) → corners (at u (λ p n. is v n)) (get_or S0 j none_quad) ≡ 0
      go j l (inl z) e = z
      go j l (inr h) (yes e) = rw e (ap (corners (at u (λ p n. is v n))) (sym stood) ∙ (face-is (at u (λ p n. is v n)) ∙ here-none))
      go j l (inr h) (no n) = let w : Has (get_or S0 j none_quad) u × Has (get_or S0 j none_quad) v = side-has (get_or S0 j none_quad) u v h in absurd (none j l n w.0 w.1)

  no-ac : side (live S) a c ≡ 0
  no-ac = now-a (λ p n. is c n) ∙ no-side a c m.no_more
      (omega (arith, at_same a (λ p n. is c n) d b, is-other c b (λ p. bc (sym p)), at-diff a (λ p n. is c n) a b c (λ p. ab (sym p)), at-diff a (λ p n. is c n) b c d (λ p. ac (sym p)), at-diff a (λ p n. is c n) c d a (λ p. ad (sym p))))

  no-ca : side (live S) c a ≡ 0
  no-ca = now-c (λ p n. is a n) ∙ no-side c a (λ j l n h i. m.no_more j l n i h)
      (omega (arith, at_same c (λ p n. is a n) b d, is-other a d ad, at-diff c (λ p n. is a n) d a b ac, at-diff c (λ p n. is a n) a b c bc, at-diff c (λ p n. is a n) c d a (λ p. cd (sym p))))

  no-cc : side (live S) c c ≡ 0
  no-cc = now-c (λ p n. is c n) ∙ sum-zero (corners (at c (λ p n. is c n))) none_quad S0 (λ j l. no_loop (get_or S0 j none_quad) (fine j l) c)

  sides-now : (u x : ℕ) → ((g : ℕ → ℕ → ℕ) → at_point (live S) u g ≡ at_point S0 u g) → side (live S) u x + side (live S) x u ≡ side S0 u x + side S0 x u
  sides-now u x now = omega (arith, now (λ p n. is x n), now (λ p n. is x p), side-at-end (live S) x u, side-at-end S0 x u)

  share-now : (x : ℕ) → x ≢ b → x ≢ d → (side (live S) a x + side (live S) x a ≡ 0) ⊎ (side (live S) c x + side (live S) x c ≡ 0)
  share-now x nb nd = go (m.share x nb nd)
    where
      go : (side S0 a x + side S0 x a ≡ 0) ⊎ (side S0 c x + side S0 x c ≡ 0) → (side (live S) a x + side (live S) x a ≡ 0) ⊎ (side (live S) c x + side (live S) x c ≡ 0)
      go (inl z) = inl (sides-now a x now-a ∙ z)
      go (inr z) = inr (sides-now c x now-c ∙ z)

  vb : 4 ≤ valence (live S) b
  vb = omega (arith, now-b (λ p n. 1), m.four_b)

  vd : 4 ≤ valence (live S) d
  vd = omega (arith, now-d (λ p n. 1), m.four_d)

  kept-rings : Rings (live S) → Rings (live (merged S k a c))
  unfolding Rings
  kept-rings r = merge-rings (live S) (live (merged S k a c)) a b c d ab ac ad bc bd cd moved face-in no-ac no-ca no-cc share-now (omega (arith, vb)) (omega (arith, vd)) r

  kept-below : (n : ℕ) → Below n (live S) → Below n (live (merged S k a c))
  unfolding Below
  kept-below n u = merge-below (live S) (live (merged S k a c)) a b c d ab ac ad bc bd cd moved face-in n u

  kept-inv : MInv S0 (merged S k a c) (BarPoints S0 U a c)
  kept-inv = record {
    len = length-set (map (rename_slot (rename c a)) S) k out ∙ (length-map S (rename_slot (rename c a)) ∙ inv.len);
    same = λ v nu j l h. go v nu j l h (ℕ_discrete j k);
  }
    where
      -- v is none of the two points
      not_a : (v : ℕ) → ¬ BarPoints S0 U a c v → v ≢ a
      not_a v nu e = nu (inr (k, lk, inl (had a (corner-has a b c d a (inl refl))), subst (λ x. Has (get_or S0 k none_quad) x) (sym e) (had a (corner-has a b c d a (inl refl)))))

      elsewhere : (j : ℕ) → j ≢ k → get_or (merged S k a c) j out ≡ rename_slot (rename c a) (get_or S j out)
      elsewhere j n = get_or-set_other (map (rename_slot (rename c a)) S) k j out out n ∙ get_or-map (rename_slot (rename c a)) S j out

      old : (v : ℕ) → ¬ BarPoints S0 U a c v → (j : ℕ) → j < length S0 → j ≢ k → Has (get_or S0 j none_quad) v → get_or (merged S k a c) j out ≡ slot (get_or S0 j none_quad)
      old v nu j l n h = elsewhere j n ∙ (ap (rename_slot (rename c a)) (inv.same v (λ u. nu (inl u)) j l (inr h))
          ∙ ap slot (ren-quad-id c a (get_or S0 j none_quad) (λ i. nu (inr (j, l, inr i, h)))))

      before : (v : ℕ) → v ≢ a → (s : Slot) → 0 < weigh (corners (at v (λ p n. 1))) (rename_slot (rename c a) s) → 0 < weigh (corners (at v (λ p n. 1))) s
      before v n out h = h
      before v n (slot q) h = ren-has c a v q n h

      go : (v : ℕ) → ¬ BarPoints S0 U a c v → (j : ℕ) → j < length S0 → (0 < weigh (corners (at v (λ p n. 1))) (get_or (merged S k a c) j out)) ⊎ Has (get_or S0 j none_quad) v → Dec (j ≡ k) → get_or (merged S k a c) j out ≡ slot (get_or S0 j none_quad)
      go v nu j l (inr h) (no n) = old v nu j l n h
      go v nu j l (inl h) (no n) = old v nu j l n (subst (λ s. 0 < weigh (corners (at v (λ p n. 1))) s)
          (inv.same v (λ u. nu (inl u)) j l (inl (before v (not_a v nu) (get_or S j out) (subst (λ s. 0 < weigh (corners (at v (λ p n. 1))) s) (elsewhere j n) h))))
          (before v (not_a v nu) (get_or S j out) (subst (λ s. 0 < weigh (corners (at v (λ p n. 1))) s) (elsewhere j n) h)))
      go v nu j l (inr h) (yes e) = absurd (nu (inr (k, lk, inl (had a (corner-has a b c d a (inl refl))), subst (λ i. Has (get_or S0 i none_quad) v) e h)))
      go v nu j l (inl h) (yes e) = absurd (omega (
        arith,
        ap (weigh (corners (at v (λ p n. 1)))) (ap (λ i. get_or (merged S k a c) i out) e
            ∙ get_or-set_same (map (rename_slot (rename c a)) S) k out out (rw length-map (slot-in S k m.face m.stands))),
      ))

  module _ (n : ℕ) (u : Below n (live S)) (r : Rings (live S)) where
    sums : (h : ℕ → ℕ)
        → upto n (λ v. h (valence (live (merged S k a c)) v)) + (h (valence (live S) a) + (h (valence (live S) b) + (h (valence (live S) c) + h (valence (live S) d))))
        ≡ upto n (λ v. h (valence (live S) v)) + (h (valence (live (merged S k a c)) a) + (h (valence (live (merged S k a c)) b) + (h (valence (live (merged S k a c)) c) + h (valence (live (merged S k a c)) d))))
    unfolding Below
    sums h = merge-sum (live S) (live (merged S k a c)) a b c d ab ac ad bc bd cd moved face-in n u h

    va : 2 ≤ valence (live S) a
    unfolding Rings
    va = ring-two (at_point (live S) a) (r a (omega (arith, face-in (at a (λ p n. 1)), corner-has a b c d a (inl refl))))

    vc : 2 ≤ valence (live S) c
    unfolding Rings
    vc = ring-two (at_point (live S) c) (r c (omega (arith, face-in (at c (λ p n. 1)), corner-has a b c d c (inr (inr (inl refl))))))

    new-a : valence (live (merged S k a c)) a + 2 ≡ valence (live S) a + valence (live S) c
    new-a = val-a (live S) (live (merged S k a c)) a b c d ab ac ad bc bd cd moved face-in

    new-b : valence (live (merged S k a c)) b + 1 ≡ valence (live S) b
    new-b = val-b (live S) (live (merged S k a c)) a b c d ab ac ad bc bd cd moved face-in

    new-c : valence (live (merged S k a c)) c ≡ 0
    new-c = val-c (live S) (live (merged S k a c)) a b c d ab ac ad bc bd cd moved face-in

    new-d : valence (live (merged S k a c)) d + 1 ≡ valence (live S) d
    new-d = val-d (live S) (live (merged S k a c)) a b c d ab ac ad bc bd cd moved face-in

    kept-squares : squared_used n (live (merged S k a c)) ≤ squared_used n (live S)
    unfolding squared_used
    kept-squares = less-squares (sums sq_used)
        (sq-used-pos (valence (live S) a) (omega (arith, va)) ∙ ap sq (now-a (λ p n. 1)))
        (sq-used-pos (valence (live S) b) (omega (arith, vb)) ∙ ap sq (now-b (λ p n. 1)))
        (sq-used-pos (valence (live S) c) (omega (arith, vc)) ∙ ap sq (now-c (λ p n. 1)))
        (sq-used-pos (valence (live S) d) (omega (arith, vd)) ∙ ap sq (now-d (λ p n. 1)))
        (sq-used-pos (valence (live (merged S k a c)) a) (omega (arith, va, vc, new-a)) ∙ ap sq wa)
        (sq-used-pos (valence (live (merged S k a c)) b) (omega (arith, vb, new-b)) ∙ ap sq wb)
        (ap sq_used new-c)
        (sq-used-pos (valence (live (merged S k a c)) d) (omega (arith, vd, new-d)) ∙ ap sq wd)
        m.gain
      where
        wa : valence (live (merged S k a c)) a ≡ valence S0 a + valence S0 c - 2
        wa = omega (arith, new-a, now-a (λ p n. 1), now-c (λ p n. 1))

        wb : valence (live (merged S k a c)) b ≡ valence S0 b - 1
        wb = omega (arith, new-b, now-b (λ p n. 1))

        wd : valence (live (merged S k a c)) d ≡ valence S0 d - 1
        wd = omega (arith, new-d, now-d (λ p n. 1))

    kept-points : in_use n (live (merged S k a c)) + 1 ≡ in_use n (live S)
    unfolding in_use used
    kept-points = omega (
      arith,
      sums used,
      used_pos (valence (live S) a) (omega (arith, va)),
      used_pos (valence (live S) b) (omega (arith, vb)),
      used_pos (valence (live S) c) (omega (arith, vc)),
      used_pos (valence (live S) d) (omega (arith, vd)),
      used_pos (valence (live (merged S k a c)) a) (omega (arith, va, vc, new-a)),
      used_pos (valence (live (merged S k a c)) b) (omega (arith, vb, new-b)),
      ap used new-c,
      used_pos (valence (live (merged S k a c)) d) (omega (arith, vd, new-d)),
    )

  kept-four : ((j : ℕ) (q : Quad) → get_or S j out ≡ slot q → Differ q) → (j : ℕ) (q : Quad) → get_or (merged S k a c) j out ≡ slot q → Differ q
  kept-four pr j q e = go (ℕ_discrete j k)
    where
      other : (s : Slot) → get_or S j out ≡ s → rename_slot (rename c a) s ≡ slot q → j ≢ k → Differ q
      other out p h n = absurd (omega (arith, ap (weigh (λ q. 1)) h))
      other (slot x) p h n = subst Differ (slot-inj (rename_quad (rename c a) x) q h) (ren-proper c a x clash (pr j x p))
        where
          lj : j < length S0
          lj = omega (arith, inv.len, slot-in S j x p)

          clash : Has x a → ¬ Has x c
          clash ha hc = m.no_more j lj n (subst (λ y. Has y a) at_start ha) (subst (λ y. Has y c) at_start hc)
            where
              at_start : x ≡ get_or S0 j none_quad
              at_start = slot-inj x (get_or S0 j none_quad) (sym p ∙ inv.same a m.free_a j lj (inl (subst (λ s. 0 < weigh (corners (at a (λ p n. 1))) s) (sym p) ha)))

      go : Dec (j ≡ k) → Differ q
      go (yes p) = absurd (omega (arith, ap (weigh (λ q. 1)) (sym (ap (λ i. get_or (merged S k a c) i out) p ∙ get_or-set_same (map (rename_slot (rename c a)) S) k out out (rw length-map (slot-in S k m.face m.stands))) ∙ e)))
      go (no n) = other (get_or S j out) refl (sym (get_or-map (rename_slot (rename c a)) S j out) ∙ (sym (get_or-set_other (map (rename_slot (rename c a)) S) k j out out n) ∙ e)) n

  fewer : length labels ≡ length S → (v l : ℕ) → slot_touches (merged S k a c) labels v l ≤ label_sum (λ s. weigh (corners (at v (λ p n. 1))) (rename_slot (rename c a) s)) l S labels
  fewer e v l = omega (
    arith,
    label-sum-set (weigh (corners (at v (λ p n. 1)))) l (map (rename_slot (rename c a)) S) labels k out out (rw length-map (slot-in S k m.face m.stands)) (e ∙ sym (length-map S (rename_slot (rename c a)))),
    none (eqb (get_or labels k 8) l),
    label-sum-map (rename_slot (rename c a)) (weigh (corners (at v (λ p n. 1)))) l S labels,
  )
    where
      none : (b : Bool) → cond {A = ℕ} b 0 0 ≡ 0
      none true = refl
      none false = refl

  slot-le : (v : ℕ) → v ≢ a → (s : Slot) → weigh (corners (at v (λ p n. 1))) (rename_slot (rename c a) s) ≤ weigh (corners (at v (λ p n. 1))) s
  slot-le v n out = omega arith
  slot-le v n (slot q) = ren-le c a v q n

  slot-le-a : (s : Slot) → weigh (corners (at a (λ p n. 1))) (rename_slot (rename c a) s) ≤ weigh (corners (at a (λ p n. 1))) s + weigh (corners (at c (λ p n. 1))) s
  slot-le-a out = omega arith
  slot-le-a (slot q) = ren-le-a c a q

  touches-now : (v : ℕ) → ¬ U v → (l : ℕ) → slot_touches S labels v l ≡ touches S0 labels v l
  touches-now v nu l = label-sum-same (weigh (corners (at v (λ p n. 1)))) (corners (at v (λ p n. 1))) out none_quad l S S0 labels inv.len (place-free S0 S U inv v nu (λ p n. 1))

  kept-clash : length labels ≡ length S → SlotsNoClash S labels → SlotsNoClash (merged S k a c) labels
  unfolding SlotsNoClash
  kept-clash e nc v j h = go (ℕ_discrete v a)
    where
      W : ℕ → Slot → ℕ
      W v = weigh (corners (at v (λ p n. 1)))

      both : (l : ℕ) → slot_touches (merged S k a c) labels a l ≤ touches S0 labels a l + touches S0 labels c l
      both l = omega (arith, fewer e a l, label-sum-le (λ s. W a (rename_slot (rename c a) s)) (λ s. W a s + W c s) slot-le-a l S labels, label-sum-add (W a) (W c) l S labels, touches-now a m.free_a l, touches-now c m.free_c l)

      old : v ≢ a → (l : ℕ) → slot_touches (merged S k a c) labels v l ≤ slot_touches S labels v l
      old n l = omega (arith, fewer e v l, label-sum-le (λ s. W v (rename_slot (rename c a) s)) (W v) (slot-le v n) l S labels)

      go : Dec (v ≡ a) → slot_touches (merged S k a c) labels v (2 * j + 1) ≡ 0
      go (yes p) = rw p (omega (arith, both (2 * j + 1), m.masks j (omega (arith, both (2 * j), subst (λ x. 0 < slot_touches (merged S k a c) labels x (2 * j)) p h))))
      go (no n) = omega (arith, old n (2 * j + 1), nc v j (omega (arith, h, old n (2 * j))))

  pub merge-kept : Merged labels S0 S (merged S k a c) (BarPoints S0 U a c)
  merge-kept = record {
    rings = kept-rings;
    inv = kept-inv;
    below = kept-below;
    squares = kept-squares;
    points = kept-points;
    quads = omega (arith, sum-merged (λ q. 1) S k a c m.face m.stands, length-sum (live (merged S k a c)), length-sum (live S));
    some = use-some (live (merged S k a c)) b (omega (arith, vb, val-b (live S) (live (merged S k a c)) a b c d ab ac ad bc bd cd moved face-in));
    len = length-set (map (rename_slot (rename c a)) S) k out ∙ length-map S (rename_slot (rename c a));
    clash = kept-clash;
    four = kept-four;
  }

-- What the merges of a pass keep.
pub record MKept (labels : List ℕ) (n c : ℕ) (S S' : List Slot) : Type 0 where
  pub len : length S' ≡ length S
  pub some : 0 < length (live S')
  pub clash : SlotsNoClash S' labels
  pub rings : Rings (live S')
  pub below : Below n (live S')
  pub squares : squared_used n (live S') ≤ squared_used n (live S)
  pub points : in_use n (live S') + c ≡ in_use n (live S)
  pub quads : length (live S') + c ≡ length (live S)
  pub four : (j : ℕ) (q : Quad) → get_or S' j out ≡ slot q → Differ q

-- To bar more keeps the invariant.
pub minv-more : (S0 : List Quad) (S : List Slot) (U U₁ : ℕ → Type 0) → ((v : ℕ) → U v → U₁ v) → MInv S0 S U → MInv S0 S U₁
minv-more S0 S U U₁ f inv = record { len = inv.len; same = λ v n j l h. inv.same v (λ u. n (f v u)) j l h }

pub merges-kept : (S0 : List Quad) (labels : List ℕ) (n : ℕ) (S : List Slot) (U : ℕ → Type 0) (S' : List Slot) (c : ℕ) → Merges S0 labels S U S' c → MInv S0 S U → ((j : ℕ) → j < length S0 → Differ (get_or S0 j none_quad))
    → ((j : ℕ) (q : Quad) → get_or S j out ≡ slot q → Differ q) → length labels ≡ length S → 0 < length (live S) → SlotsNoClash S labels → Rings (live S) → Below n (live S) → MKept labels n c S S'
merges-kept S0 labels n S U S' c done inv fine pr ll so nc r b = record { len = refl; some = so; clash = nc; rings = r; below = b; squares = omega arith; points = omega arith; quads = omega arith; four = pr }
merges-kept S0 labels n S U S' c (merge {U₁ = U₁} {n = i} k a b c' d m more rest) inv fine pr ll so nc r u =
    let t : Merged labels S0 S (merged S k a c') (BarPoints S0 U a c') = merge-kept labels S0 S U inv fine k a b c' d m in
    let h : MKept labels n i (merged S k a c') S' = merges-kept S0 labels n (merged S k a c') U₁ S' i rest (minv-more S0 (merged S k a c') (BarPoints S0 U a c') U₁ more t.inv) fine (t.four pr) (ll ∙ sym t.len) t.some (t.clash ll nc) (t.rings r) (t.below n u) in
    record {
      len = h.len ∙ t.len;
      some = h.some;
      clash = h.clash;
      rings = h.rings;
      below = h.below;
      squares = omega (arith, h.squares, t.squares n u r);
      points = omega (arith, h.points, t.points n u r);
      quads = omega (arith, h.quads, t.quads);
      four = h.four;
    }

-- What the merges of a pass keep of any accepted sheet, closed or not.
pub record MAccepted (labels : List ℕ) (n c : ℕ) (S S' : List Slot) : Type 0 where
  pub len : length S' ≡ length S
  pub some : 0 < length (live S')
  pub clash : SlotsNoClash S' labels
  pub below : Below n (live S')
  pub quads : length (live S') + c ≡ length (live S)
  pub four : (j : ℕ) (q : Quad) → get_or S' j out ≡ slot q → Differ q

pub merges-accepted : (S0 : List Quad) (labels : List ℕ) (n : ℕ) (S : List Slot) (U : ℕ → Type 0) (S' : List Slot) (c : ℕ) → Merges S0 labels S U S' c → MInv S0 S U → ((j : ℕ) → j < length S0 → Differ (get_or S0 j none_quad))
    → ((j : ℕ) (q : Quad) → get_or S j out ≡ slot q → Differ q) → length labels ≡ length S → 0 < length (live S) → SlotsNoClash S labels → Below n (live S) → MAccepted labels n c S S'
merges-accepted S0 labels n S U S' c done inv fine pr ll so nc b = record { len = refl; some = so; clash = nc; below = b; quads = omega arith; four = pr }
merges-accepted S0 labels n S U S' c (merge {U₁ = U₁} {n = i} k a b c' d m more rest) inv fine pr ll so nc u =
    let t : Merged labels S0 S (merged S k a c') (BarPoints S0 U a c') = merge-kept labels S0 S U inv fine k a b c' d m in
    let h : MAccepted labels n i (merged S k a c') S' = merges-accepted S0 labels n (merged S k a c') U₁ S' i rest (minv-more S0 (merged S k a c') (BarPoints S0 U a c') U₁ more t.inv) fine (t.four pr) (ll ∙ sym t.len) t.some (t.clash ll nc) (t.below n u) in
    record { len = h.len ∙ t.len; some = h.some; clash = h.clash; below = h.below; quads = omega (arith, h.quads, t.quads); four = h.four }

-- The pairs that a face joins are those of its six pairs of edges that pass a test of their own; so the groups may be made one pair at a time.
-- A face has four corners and a centre: all signs are tried by computing. Assumes nothing.
use Prim.Native.Nat.{ℕ, zero, suc, ◌+◌, ◌/◌, ◌<◌, ◌≤◌}
use mathlib.Core.Path.{◌≡◌, refl, sym, ap, ◌∙◌}
use mathlib.Core.Bool.{Bool, true, false, cond, ◌&&◌, false≢true}
use mathlib.Core.Logic.{⊎_elim}
use mathlib.Core.List.{List, [], ◌∷◌, foldl}
use native.Mathlib.Omega.{arith}
use native.Mathlib.Numerals.{add-one}
use lib.Dec.{eqb, eqb→eq}
use lib.ListN.{length, get_or, get_or-eq_default}
use Rattle.lists.specs.Sort.{tabulate, cons_if, keep}
use Rattle.lists.proofs.Laws.{length-tab, get_or-tab, lt-or-le}
use Rattle.lists.proofs.Every.{and_left, and_right}
use Rattle.rule_extract.specs.Cells.{low_end, high_end, crosses, edges_on, crossings_on, four_on, Pair, pair, pairs_in, is_end, shared_by, parted, pairs_of, merged_at, merged, groups_to, groups_of}
use Rattle.extract_cells.specs.Cells.{joined_by, merged_if, joined_to, pair_at}

-- a fold over those that pass is a fold with the test
fold-by : (p : Pair → Bool) (G : List ℕ) (x : Pair) (l : List Pair) → ((H : List ℕ) → foldl merged H (keep p l) ≡ foldl (merged_if p) H l)
    → (b : Bool) → p x ≡ b → foldl merged G (cons_if (p x) x (keep p l)) ≡ foldl (merged_if p) (cond (p x) (merged G x) G) l
fold-by p G x l ih true e = rw e (ih (merged G x))
fold-by p G x l ih false e = rw e (ih G)

fold-keep : (p : Pair → Bool) (l : List Pair) (G : List ℕ) → foldl merged G (keep p l) ≡ foldl (merged_if p) G l
unfolding merged_if
fold-keep p [] G = refl
fold-keep p (x ∷ l) G = fold-by p G x l (fold-keep p l) (p x) refl

-- ---- all signs of a face

-- a test passes for either sign
either : (Bool → Bool) → Bool
either p = p true && p false

either-at : (p : Bool → Bool) → either p ≡ true → (b : Bool) → p b ≡ true
unfolding either
either-at p e true = and_left (p true) (p false) e
either-at p e false = and_right (p true) (p false) e

same : List Pair → List Pair → Bool
same [] [] = true
same [] (y ∷ m) = false
same (x ∷ l) [] = false
same (x ∷ l) (y ∷ m) = eqb x.first y.first && (eqb x.second y.second && same l m)

eqb_is : (a b : ℕ) → eqb a b ≡ true → a ≡ b
eqb_is a b e = eqb→eq a b (rw e tt)

cons-is : (a b c d : ℕ) (l m : List Pair) → a ≡ c → b ≡ d → l ≡ m → (pair a b ∷ l) ≡ (pair c d ∷ m)
cons-is a b c d l m e f g = rw (e, f, g) refl

same-is : (l m : List Pair) → same l m ≡ true → l ≡ m
unfolding same
same-is [] [] e = refl
same-is [] (y ∷ m) e = absurd (false≢true e)
same-is (x ∷ l) [] e = absurd (false≢true e)
same-is (x ∷ l) (y ∷ m) e =
    let r = and_right (eqb x.first y.first) (eqb x.second y.second && same l m) e in
    cons-is _ _ _ _ l m (eqb_is _ _ (and_left (eqb x.first y.first) _ e)) (eqb_is _ _ (and_left (eqb x.second y.second) _ r))
    (same-is l m (and_right (eqb x.second y.second) _ r))

-- the signs of four corners
four : ℕ → ℕ → ℕ → ℕ → Bool → Bool → Bool → Bool → ℕ → Bool
four i j k l a b c d v = cond (eqb v i) a (cond (eqb v j) b (cond (eqb v k) c (cond (eqb v l) d false)))

found : (ℕ → Bool) → Bool → ℕ → List Pair
found sign e f = keep (joined_by sign e f) (pairs_in (edges_on f))

-- they agree for all signs of the corners i, j, k and l of the face f, and of its centre
agrees : ℕ → ℕ → ℕ → ℕ → ℕ → Bool
agrees f i j k l = either (λ a. either (λ b. either (λ c. either (λ d. either (λ e. same (pairs_of (four i j k l a b c d) e f) (found (four i j k l a b c d) e f))))))

agree_at : (f i j k l : ℕ) → agrees f i j k l ≡ true → (a b c d e : Bool) → pairs_of (four i j k l a b c d) e f ≡ found (four i j k l a b c d) e f
unfolding agrees
agree_at f i j k l h a b c d e = same-is _ _ (either-at _ (either-at _ (either-at _ (either-at _ (either-at _ h a) b) c) d) e)

face-0 : (sign : ℕ → Bool) (e : Bool) → pairs_of sign e 0 ≡ found sign e 0
unfolding agrees either same four found pairs_of crossings_on four_on crosses edges_on pairs_in joined_by parted shared_by is_end low_end high_end tabulate
face-0 sign e = agree_at 0 0 2 4 6 refl (sign 0) (sign 2) (sign 4) (sign 6) e

face-1 : (sign : ℕ → Bool) (e : Bool) → pairs_of sign e 1 ≡ found sign e 1
unfolding agrees either same four found pairs_of crossings_on four_on crosses edges_on pairs_in joined_by parted shared_by is_end low_end high_end tabulate
face-1 sign e = agree_at 1 1 3 5 7 refl (sign 1) (sign 3) (sign 5) (sign 7) e

face-2 : (sign : ℕ → Bool) (e : Bool) → pairs_of sign e 2 ≡ found sign e 2
unfolding agrees either same four found pairs_of crossings_on four_on crosses edges_on pairs_in joined_by parted shared_by is_end low_end high_end tabulate
face-2 sign e = agree_at 2 0 1 4 5 refl (sign 0) (sign 1) (sign 4) (sign 5) e

face-3 : (sign : ℕ → Bool) (e : Bool) → pairs_of sign e 3 ≡ found sign e 3
unfolding agrees either same four found pairs_of crossings_on four_on crosses edges_on pairs_in joined_by parted shared_by is_end low_end high_end tabulate
face-3 sign e = agree_at 3 2 3 6 7 refl (sign 2) (sign 3) (sign 6) (sign 7) e

face-4 : (sign : ℕ → Bool) (e : Bool) → pairs_of sign e 4 ≡ found sign e 4
unfolding agrees either same four found pairs_of crossings_on four_on crosses edges_on pairs_in joined_by parted shared_by is_end low_end high_end tabulate
face-4 sign e = agree_at 4 0 1 2 3 refl (sign 0) (sign 1) (sign 2) (sign 3) e

face-5 : (sign : ℕ → Bool) (e : Bool) → pairs_of sign e 5 ≡ found sign e 5
unfolding agrees either same four found pairs_of crossings_on four_on crosses edges_on pairs_in joined_by parted shared_by is_end low_end high_end tabulate
face-5 sign e = agree_at 5 4 5 6 7 refl (sign 4) (sign 5) (sign 6) (sign 7) e

-- ---- the groups

pairs-found : (sign : ℕ → Bool) (e : Bool) (f : ℕ) → f < 6 → pairs_of sign e f ≡ found sign e f
pairs-found sign e zero h = face-0 sign e
pairs-found sign e (suc zero) h = face-1 sign e
pairs-found sign e (suc (suc zero)) h = face-2 sign e
pairs-found sign e (suc (suc (suc zero))) h = face-3 sign e
pairs-found sign e (suc (suc (suc (suc zero)))) h = face-4 sign e
pairs-found sign e (suc (suc (suc (suc (suc zero))))) h = face-5 sign e
pairs-found sign e (suc (suc (suc (suc (suc (suc f)))))) h = absurd (omega arith)

-- a face joins its six pairs one after the other
face-step : (sign centre : ℕ → Bool) (f : ℕ) → f < 6 → groups_to sign centre (suc f) ≡ foldl (merged_if (joined_by sign (centre f) f)) (groups_to sign centre f) (pairs_in (edges_on f))
unfolding groups_to found
face-step sign centre f h = rw (pairs-found sign (centre f) f h) (fold-keep (joined_by sign (centre f) f) (pairs_in (edges_on f)) (groups_to sign centre f))

six-0 : (sign centre : ℕ → Bool) → joined_to sign centre 6 ≡ foldl (merged_if (joined_by sign (centre 0) 0)) (joined_to sign centre 0) (pairs_in (edges_on 0))
unfolding joined_to pairs_in edges_on low_end high_end tabulate
six-0 sign centre = refl

six-1 : (sign centre : ℕ → Bool) → joined_to sign centre 12 ≡ foldl (merged_if (joined_by sign (centre 1) 1)) (joined_to sign centre 6) (pairs_in (edges_on 1))
unfolding joined_to pairs_in edges_on low_end high_end tabulate
six-1 sign centre = refl

six-2 : (sign centre : ℕ → Bool) → joined_to sign centre 18 ≡ foldl (merged_if (joined_by sign (centre 2) 2)) (joined_to sign centre 12) (pairs_in (edges_on 2))
unfolding joined_to pairs_in edges_on low_end high_end tabulate
six-2 sign centre = refl

six-3 : (sign centre : ℕ → Bool) → joined_to sign centre 24 ≡ foldl (merged_if (joined_by sign (centre 3) 3)) (joined_to sign centre 18) (pairs_in (edges_on 3))
unfolding joined_to pairs_in edges_on low_end high_end tabulate
six-3 sign centre = refl

six-4 : (sign centre : ℕ → Bool) → joined_to sign centre 30 ≡ foldl (merged_if (joined_by sign (centre 4) 4)) (joined_to sign centre 24) (pairs_in (edges_on 4))
unfolding joined_to pairs_in edges_on low_end high_end tabulate
six-4 sign centre = refl

six-5 : (sign centre : ℕ → Bool) → joined_to sign centre 36 ≡ foldl (merged_if (joined_by sign (centre 5) 5)) (joined_to sign centre 30) (pairs_in (edges_on 5))
unfolding joined_to pairs_in edges_on low_end high_end tabulate
six-5 sign centre = refl

first : (sign centre : ℕ → Bool) → joined_to sign centre 0 ≡ groups_to sign centre 0
unfolding joined_to groups_to
first sign centre = refl

next : (sign centre : ℕ → Bool) (f : ℕ) (G H : List ℕ) → f < 6 → H ≡ foldl (merged_if (joined_by sign (centre f) f)) G (pairs_in (edges_on f)) → G ≡ groups_to sign centre f
    → H ≡ groups_to sign centre (suc f)
next sign centre f G H h e g = e ∙ rw g (sym (face-step sign centre f h))

-- the groups made one pair at a time
pub joined-groups : (sign centre : ℕ → Bool) → joined_to sign centre 36 ≡ groups_of sign centre
unfolding groups_of
joined-groups s k =
    next s k 5 _ _ (omega arith) (six-5 s k)
    (next s k 4 _ _ (omega arith) (six-4 s k)
    (next s k 3 _ _ (omega arith) (six-3 s k)
    (next s k 2 _ _ (omega arith) (six-2 s k) (next s k 1 _ _ (omega arith) (six-1 s k) (next s k 0 _ _ (omega arith) (six-0 s k) (first s k))))))

-- the groups once t pairs are seen
pub record Joining (sign centre : ℕ → Bool) (G : List ℕ) (t : ℕ) : Type 0 where
  pub len : length G ≡ 12
  pub is : G ≡ joined_to sign centre t

pub joining-first : (sign centre : ℕ → Bool) → Joining sign centre (0 ∷ 1 ∷ 2 ∷ 3 ∷ 4 ∷ 5 ∷ 6 ∷ 7 ∷ 8 ∷ 9 ∷ 10 ∷ 11 ∷ []) 0
unfolding joined_to tabulate
joining-first sign centre = record { len = refl; is = refl }

length-by : (b : Bool) (G : List ℕ) (p : Pair) → length G ≡ 12 → length (cond b (merged G p) G) ≡ 12
unfolding merged
length-by true G p e = length-tab _ 12
length-by false G p e = e

length_merged : (test : Pair → Bool) (G : List ℕ) (p : Pair) → length G ≡ 12 → length (merged_if test G p) ≡ 12
unfolding merged_if
length_merged test G p e = length-by (test p) G p e

-- a pair by its two edges
pub merged-pair : {H : List ℕ} {a b : ℕ} (G : List ℕ) (p : Pair) → H ≡ merged G (pair a b) → a ≡ p.first → b ≡ p.second → H ≡ merged G p
merged-pair G p h e f = h ∙ rw (e, f) refl

pub joining-turn : {sign centre : ℕ → Bool} {G H : List ℕ} {t : ℕ} {b : Bool} → Joining sign centre G t → b ≡ centre (t / 6)
    → H ≡ merged_if (joined_by sign b (t / 6)) G (pair_at t) → Joining sign centre H (t + 1)
unfolding joined_to
joining-turn {t = t} J e f = record { len = rw f (length_merged _ _ _ J.len); is = rw (add-one t, f, e, J.is) }

pub joining-end : {sign centre : ℕ → Bool} {G : List ℕ} {t : ℕ} → Joining sign centre G t → t ≡ 36 → G ≡ groups_of sign centre
joining-end {sign} {centre} J e = J.is ∙ ap (joined_to sign centre) e ∙ joined-groups sign centre

-- ---- what the groups depend on, and their numbers

pairs-by : (sign : ℕ → Bool) (c d : Bool) (f : ℕ) (b : Bool) → four_on sign f ≡ b → (b ≡ true → c ≡ d) → pairs_of sign c f ≡ pairs_of sign d f
unfolding pairs_of
pairs-by sign c d f true e h = rw (h refl)
pairs-by sign c d f false e h = rw e

-- the sign at a centre counts only where the face has four crossings
pub groups-centres : (sign c d : ℕ → Bool) (n : ℕ) → ((f : ℕ) → f < n → four_on sign f ≡ true → c f ≡ d f) → groups_to sign c n ≡ groups_to sign d n
unfolding groups_to
groups-centres sign c d zero h = refl
groups-centres sign c d (suc n) h =
    rw (groups-centres sign c d n (λ f l. h f (omega arith)), pairs-by sign (c n) (d n) n (four_on sign n) refl (h n (omega arith)))

-- twelve groups with numbers below twelve
pub record Twelve (G : List ℕ) : Type 0 where
  pub len : length G ≡ 12
  pub below : (e : ℕ) → e < 12 → get_or G e 0 < 12

below_by : (b : Bool) (x y : ℕ) → x < 12 → y < 12 → cond b x y < 12
below_by true x y h l = h
below_by false x y h l = l

module _ (G : List ℕ) (T : Twelve G) where
  at-any : (e : ℕ) → get_or G e 0 < 12
  at-any e = ⊎_elim
      (λ (h : e < 12). T.below e h)
      (λ (h : 12 ≤ e). rw (get_or-eq_default G 0 {n = e} (omega (arith, T.len))) (omega arith))
      (lt-or-le e 12)

  twelve-merged : (p : Pair) → Twelve (merged G p)
  unfolding merged
  twelve-merged p = record {
    len = length-tab _ 12;
    below = λ e h. rw (get_or-tab (merged_at G p) 12 e 0 h) (below_by (eqb (get_or G e 0) (get_or G p.second 0)) _ _ (at-any p.first) (at-any e));
  }

twelve-fold : (l : List Pair) (G : List ℕ) → Twelve G → Twelve (foldl merged G l)
twelve-fold [] G T = T
twelve-fold (p ∷ l) G T = twelve-fold l (merged G p) (twelve-merged G T p)

twelve-to : (sign centre : ℕ → Bool) (n : ℕ) → Twelve (groups_to sign centre n)
unfolding groups_to
twelve-to sign centre zero = record { len = length-tab _ 12; below = λ e h. rw (get_or-tab (λ (i : ℕ). i) 12 e 0 h) h }
twelve-to sign centre (suc n) = twelve-fold (pairs_of sign (centre n) n) _ (twelve-to sign centre n)

pub twelve-groups : (sign centre : ℕ → Bool) → Twelve (groups_of sign centre)
unfolding groups_of
twelve-groups sign centre = twelve-to sign centre 6

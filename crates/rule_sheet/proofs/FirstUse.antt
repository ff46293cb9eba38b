-- The laws of `firsts` and `place`: what number a list's elements get by their first use. Assumes nothing.
use Prim.Native.Nat.{ℕ, zero, suc, ◌+◌, ◌≤◌, ◌<◌}
use mathlib.Core.Logic.{◌⊎◌, inl, inr, ⊎_elim}
use mathlib.Core.Path.{◌≡◌, refl, sym, ap, ◌∙◌}
use mathlib.Core.Bool.{Bool, true, false, cond}
use mathlib.Core.List.{List, [], ◌∷◌, ◌++◌}
use native.Mathlib.Omega.{arith}
use native.Mathlib.Decide.{ℕ_discrete}
use native.Mathlib.Numerals.{add-one}
use lib.ListN.{length, get_or, length-append}
use lib.Dec.{eqb}
use borrow.Author.Tests.{eq-eqb, ne_eqb}
use Rattle.lists.specs.Sort.{tabulate}
use Rattle.lists.specs.Every.{count_to}
use Rattle.lists.proofs.Laws.{eq-or-ne, lt-or-le, length-tab, get_or-tab, tab-suc}
use Rattle.lists.proofs.Every.{count-zero, count_yes, count_no}
use Rattle.rule_sheet.specs.Quads.{is, sum}
use Rattle.rule_sheet.specs.FirstUse.{firsts, place}
use Rattle.rule_sheet.proofs.Sums.{sum-append}

-- ---- whether a number stands in a list

pub is_same : (x y : ℕ) → x ≡ y → is x y ≡ 1
is_same x y e = rw (eq-eqb x y e)

pub is-other : (x y : ℕ) → (x ≡ y → ⊥) → is x y ≡ 0
is-other x y e = rw (ne_eqb x y e)

-- an element of a list stands in it
pub in_list : (x : ℕ) (l : List ℕ) (r : ℕ) → r < length l → get_or l r 0 ≡ x → 0 < sum (is x) l
in_list x [] r h e = absurd (omega arith)
in_list x (y ∷ l) zero h e = omega (arith, is_same x y (sym e))
in_list x (y ∷ l) (suc r) h e = omega (arith, in_list x l r (omega arith) e)

-- a number that is no element of a list does not
pub not-in-list : (x : ℕ) (l : List ℕ) → ((r : ℕ) → r < length l → get_or l r 0 ≡ x → ⊥) → sum (is x) l ≡ 0
not-in-list x [] f = refl
not-in-list x (y ∷ l) f = omega (arith, is-other x y (λ e. f 0 (omega arith) (sym e)), not-in-list x l (λ r h. f (suc r) (omega arith)))

-- ---- place

-- x stands at its place
pub place_at : (x : ℕ) (l : List ℕ) → 0 < sum (is x) l → (place x l < length l) × (get_or l (place x l) 0 ≡ x)
place_at x [] h = absurd (omega arith)
place_at x (y ∷ l) h = ⊎_elim
    (λ (e : x ≡ y). rw (eq-eqb x y e) (omega arith, sym e))
    (λ (ne : x ≡ y → ⊥). let t = place_at x l (omega (arith, is-other x y ne)) in rw (ne_eqb x y ne) (omega (arith, t.0), t.1))
    (eq-or-ne x y)

-- and not before it
pub place-least : (x : ℕ) (l : List ℕ) (r : ℕ) → r < place x l → get_or l r 0 ≡ x → ⊥
place-least x [] r h e = omega arith
place-least x (y ∷ l) r h e = ⊎_elim
    (λ (q : x ≡ y). let k : r < 0 = rw (eq-eqb x y q) at h in omega arith)
    (λ (ne : x ≡ y → ⊥). go r ne (rw (ne_eqb x y ne) at h) e (λ s k. place-least x l s k))
    (eq-or-ne x y)
  where
    go : (r : ℕ) → (x ≡ y → ⊥) → r < suc (place x l) → get_or (y ∷ l) r 0 ≡ x → ((s : ℕ) → s < place x l → get_or l s 0 ≡ x → ⊥) → ⊥
    go zero ne k q f = ne (sym q)
    go (suc s) ne k q f = f s (omega arith) q

-- more elements behind do not change the place of one that stands in the list
pub place_in : (x : ℕ) (l m : List ℕ) → 0 < sum (is x) l → place x (l ++ m) ≡ place x l
place_in x [] m h = absurd (omega arith)
place_in x (y ∷ l) m h = ⊎_elim
    (λ (e : x ≡ y). rw (eq-eqb x y e))
    (λ (ne : x ≡ y → ⊥). rw (ne_eqb x y ne) (ap suc (place_in x l m (omega (arith, is-other x y ne)))))
    (eq-or-ne x y)

-- a new element at the end is at the end
pub place-new : (x : ℕ) (l : List ℕ) → sum (is x) l ≡ 0 → place x (l ++ (x ∷ [])) ≡ length l
place-new x [] h = rw (eq-eqb x x refl)
place-new x (y ∷ l) h = ⊎_elim
    (λ (e : x ≡ y). absurd (omega (arith, is_same x y e)))
    (λ (ne : x ≡ y → ⊥). rw (ne_eqb x y ne) (ap suc (place-new x l (omega (arith, is-other x y ne)))))
    (eq-or-ne x y)

-- ---- firsts

pub firsts-append : (seen l m : List ℕ) → firsts seen (l ++ m) ≡ firsts (firsts seen l) m
firsts-append seen [] m = refl
firsts-append seen (x ∷ l) m = firsts-append (cond (eqb (sum (is x) seen) 0) (seen ++ (x ∷ [])) seen) l m

-- a number that is not among those seen goes behind them, and one that is changes nothing
pub firsts-new : (x : ℕ) (seen : List ℕ) → sum (is x) seen ≡ 0 → firsts seen (x ∷ []) ≡ seen ++ (x ∷ [])
firsts-new x seen h = rw (eq-eqb (sum (is x) seen) 0 h)

pub firsts-old : (x : ℕ) (seen : List ℕ) → 0 < sum (is x) seen → firsts seen (x ∷ []) ≡ seen
firsts-old x seen h = rw (ne_eqb (sum (is x) seen) 0 (λ e. omega arith))

-- ---- the keys of the numbers below m

-- s is the first number that has the key of t
pub record First (key : ℕ → ℕ) (t s : ℕ) : Type 0 where
  pub le : s ≤ t
  pub same : key s ≡ key t
  pub least : (r : ℕ) → r < s → key r ≡ key t → ⊥

-- it is where the key first stands in the list of the keys
pub place-first : (key : ℕ → ℕ) (m t : ℕ) → t < m → First key t (place (key t) (tabulate key m))
place-first key m t h =
    let l = tabulate key m in
    let len : length l ≡ m = length-tab key m in
    let there = in_list (key t) l t (rw len h) (get_or-tab key m t 0 h) in
    let p = place_at (key t) l there in
    let below : place (key t) l < m = omega (arith, p.0) in
    record {
      le = ⊎_elim (λ (b : t < place (key t) l). absurd (place-least (key t) l t b (get_or-tab key m t 0 h))) (λ (b : place (key t) l ≤ t). b) (lt-or-le t (place (key t) l));
      same = sym (get_or-tab key m (place (key t) l) 0 below) ∙ p.1;
      least = λ r b e. place-least (key t) l r b (get_or-tab key m r 0 (omega arith) ∙ e);
    }

-- the first number of a key is the only one
pub first-unique : {key : ℕ → ℕ} {t s u : ℕ} → First key t s → First key t u → s ≡ u
first-unique {key} {t} {s} {u} A B = ⊎_elim
    (λ (b : s < u). absurd (B.least s b A.same))
    (λ (b : u ≤ s). ⊎_elim (λ (c : u < s). absurd (A.least u c B.same)) (λ (c : s ≤ u). omega arith) (lt-or-le u s))
    (lt-or-le s u)

module _ (key : ℕ → ℕ) where
  -- the keys of the first t numbers in the order of their first use
  abbrev pub used_to : ℕ → List ℕ
  used_to t = firsts [] (tabulate key t)

  pub used-suc : (t : ℕ) → used_to (suc t) ≡ firsts (used_to t) (key t ∷ [])
  used-suc t = rw (tab-suc key t) (firsts-append [] (tabulate key t) (key t ∷ []))

  pub used-zero : used_to 0 ≡ []
  unfolding tabulate
  used-zero = refl

  none-used : (x t : ℕ) → ((s : ℕ) → s < t → key s ≡ x → ⊥) → sum (is x) (used_to t) ≡ 0
  none-used x zero f = rw used-zero
  none-used x (suc t) f =
      let ih = none-used x t (λ s h. f s (omega arith)) in
      let ne = is-other x (key t) (λ e. f t (omega arith) (sym e)) in
      rw (used-suc t) (go (eqb (sum (is (key t)) (used_to t)) 0) ih ne)
    where
      go : (b : Bool) → sum (is x) (used_to t) ≡ 0 → is x (key t) ≡ 0 → sum (is x) (cond b (used_to t ++ (key t ∷ [])) (used_to t)) ≡ 0
      go true ih ne = omega (arith, sum-append (is x) (used_to t) (key t ∷ []))
      go false ih ne = ih

  some-used : (t s : ℕ) → s < t → 0 < sum (is (key s)) (used_to t)
  some-used zero s h = absurd (omega arith)
  some-used (suc t) s h = rw (used-suc t) (⊎_elim
      (λ (e : s ≡ t). ⊎_elim
      (λ (z : sum (is (key t)) (used_to t) ≡ 0). rw (e, firsts-new (key t) (used_to t) z) (omega (arith, sum-append (is (key t)) (used_to t) (key t ∷ []), is_same (key t) (key t) refl)))
      (λ (z : sum (is (key t)) (used_to t) ≡ 0 → ⊥). rw (e, firsts-old (key t) (used_to t) (omega arith)) (omega arith))
      (eq-or-ne (sum (is (key t)) (used_to t)) 0))
      (λ (ne : s ≡ t → ⊥).
      let ih = some-used t s (omega arith) in
      ⊎_elim
      (λ (z : sum (is (key t)) (used_to t) ≡ 0). rw (firsts-new (key t) (used_to t) z) (omega (arith, sum-append (is (key s)) (used_to t) (key t ∷ []))))
      (λ (z : sum (is (key t)) (used_to t) ≡ 0 → ⊥). rw (firsts-old (key t) (used_to t) (omega arith)) ih)
      (eq-or-ne (sum (is (key t)) (used_to t)) 0))
      (eq-or-ne s t))

  module _ (m : ℕ) (f : ℕ → ℕ) (first : (t : ℕ) → t < m → First key t (f t)) where
    -- t is the first number of its key
    abbrev pub own_first : ℕ → Bool
    own_first t = eqb (f t) t

    pub used-new : (t : ℕ) → t < m → f t ≡ t → sum (is (key t)) (used_to t) ≡ 0
    used-new t h e = none-used (key t) t (λ s b. (first t h).least s (rw e b))

    pub used-old : (t : ℕ) → t < m → (f t ≡ t → ⊥) → 0 < sum (is (key t)) (used_to t)
    used-old t h ne =
        let b : f t < t = omega (arith, (first t h).le) in
        rw (first t h).same at (some-used t (f t) b)

    -- as many keys are used as numbers are the first of theirs
    pub count-used : (t : ℕ) → t ≤ m → length (used_to t) ≡ count_to own_first t
    count-used zero h = rw (used-zero, count-zero own_first)
    count-used (suc t) h =
        let ih = count-used t (omega arith) in
        rw (used-suc t, ← add-one t) (⊎_elim
        (λ (e : f t ≡ t). rw (firsts-new (key t) (used_to t) (used-new t (omega arith) e), count_yes own_first t (eq-eqb (f t) t e)) (length-append (used_to t) (key t ∷ []) ∙ omega arith))
        (λ (ne : f t ≡ t → ⊥). rw (firsts-old (key t) (used_to t) (used-old t (omega arith) ne), count_no own_first t (ne_eqb (f t) t ne)) ih)
        (eq-or-ne (f t) t))

    pub first-first : (t : ℕ) → t < m → f (f t) ≡ f t
    first-first t h =
        let A = first t h in
        let B = first (f t) (omega (arith, A.le)) in
        first-unique {key = key} {t = f t} B (record { le = omega arith; same = refl; least = λ r b e. A.least r b (e ∙ A.same) })

    -- the key of t stands where the first number of the key put it
    pub place-used : (n t : ℕ) → n ≤ m → t < n → place (key t) (used_to n) ≡ count_to own_first (f t)
    place-used zero t h l = absurd (omega arith)
    place-used (suc n) t h l = rw (used-suc n) (⊎_elim
        (λ (q : t ≡ n). last t q (λ s. place-used n s (omega arith)) (eq-or-ne (f n) n))
        (λ (ne : t ≡ n → ⊥). earlier t (place-used n t (omega arith) (omega arith)) (some-used n t (omega arith)))
        (eq-or-ne t n))
      where
        -- a number before the last
        earlier : (s : ℕ) → place (key s) (used_to n) ≡ count_to own_first (f s) → 0 < sum (is (key s)) (used_to n) → place (key s) (firsts (used_to n) (key n ∷ [])) ≡ count_to own_first (f s)
        earlier s e there = ⊎_elim
            (λ (z : sum (is (key n)) (used_to n) ≡ 0). rw (firsts-new (key n) (used_to n) z) (place_in (key s) (used_to n) (key n ∷ []) there ∙ e))
            (λ (z : sum (is (key n)) (used_to n) ≡ 0 → ⊥). rw (firsts-old (key n) (used_to n) (omega arith)) e)
            (eq-or-ne (sum (is (key n)) (used_to n)) 0)

        last : (t : ℕ) → t ≡ n → ((s : ℕ) → s < n → place (key s) (used_to n) ≡ count_to own_first (f s)) → (f n ≡ n) ⊎ (f n ≡ n → ⊥) → place (key t) (firsts (used_to n) (key n ∷ [])) ≡ count_to own_first (f t)
        last t q ih (inl e) = rw (q, e, firsts-new (key n) (used_to n) (used-new n (omega arith) e), place-new (key n) (used_to n) (used-new n (omega arith) e)) (count-used n (omega arith))
        last t q ih (inr ne) =
            let A = first n (omega arith) in
            let s = f n in
            let b : s < n = omega (arith, A.le, ne) in
            let e = earlier s (ih s b) (some-used n s b) in
            rw q (rw (A.same, first-first n (omega arith)) at e)

-- numbers whose indicator is not 0 are equal
pub is_pos : (x y : ℕ) → 0 < is x y → x ≡ y
is_pos x y h = go (ℕ_discrete x y)
  where
    go : Dec (x ≡ y) → x ≡ y
    go (yes p) = p
    go (no n) = absurd (omega (arith, is-other x y n))

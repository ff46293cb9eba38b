-- The laws of `every`, `some` and `count_to`, and `tests`, which turns the tests of a branch into the values of the Bools of a definition. Assumes nothing.
use Prim.Native.Nat.{ℕ, zero, suc, ◌+◌, ◌≤◌, ◌<◌}
use mathlib.Core.Bool.{Bool, true, false, ◌&&◌, ◌||◌, and-false, or-true, false≢true}
use mathlib.Core.Logic.{◌⊎◌, inl, inr, ⊎_elim}
use mathlib.Core.Path.{◌≡◌, refl, sym, ◌∙◌}
use native.Mathlib.Omega.{arith}
use native.Mathlib.Nat.{not-suc-le-zero}
use native.Mathlib.Numerals.{add-one}
use borrow.Author.Tests.{lt-ltb, le-ltb, le-leb, lt-leb, eq-eqb, ne_eqb}
use Rattle.lists.specs.Every.{every, some, count_to}
use Rattle.lists.proofs.Laws.{eq-or-ne}

-- `search tests` proves an equation of Bools at a return from the tests on the way
pub ruleset tests = (lt-ltb, le-ltb, le-leb, lt-leb, eq-eqb, ne_eqb)

pub and_left : (a b : Bool) → (a && b) ≡ true → a ≡ true
and_left true b e = refl
and_left false b e = e

pub and_right : (a b : Bool) → (a && b) ≡ true → b ≡ true
and_right true b e = e
and_right false true e = refl
and_right false false e = e

module _ (p : ℕ → Bool) where
  pub every-zero : every p 0 ≡ true
  unfolding every
  every-zero = refl

  pub every-suc : (i : ℕ) → every p i ≡ true → p i ≡ true → every p (i + 1) ≡ true
  unfolding every
  every-suc i a b = rw (add-one, a, b)

  -- one that fails is enough
  pub every-fails : (n i : ℕ) → i < n → p i ≡ false → every p n ≡ false
  unfolding every
  every-fails zero i h e = absurd (not-suc-le-zero h)
  every-fails (suc n) i h e = ⊎_elim
      (λ (q : i ≡ n). rw (← q, e) (and-false (every p i)))
      (λ (ne : i ≡ n → ⊥). rw (every-fails n i (omega arith) e))
      (eq-or-ne i n)

  -- what every one passes, each passes
  pub every-at : (n i : ℕ) → every p n ≡ true → i < n → p i ≡ true
  unfolding every
  every-at zero i e h = absurd (not-suc-le-zero h)
  every-at (suc n) i e h = ⊎_elim
      (λ (q : i ≡ n). rw q (and_right (every p n) (p n) e))
      (λ (ne : i ≡ n → ⊥). every-at n i (and_left (every p n) (p n) e) (omega arith))
      (eq-or-ne i n)

pub every-ext : (p q : ℕ → Bool) (n : ℕ) → ((i : ℕ) → i < n → p i ≡ q i) → every p n ≡ every q n
unfolding every
every-ext p q zero h = refl
every-ext p q (suc n) h = rw (every-ext p q n (λ i l. h i (omega arith)), h n (omega arith))

-- what holds up to b, and from there up to c
pub every-on : (p : ℕ → Bool) (b c : ℕ) → every p b ≡ true → b ≤ c → ((i : ℕ) → b ≤ i → i < c → p i ≡ true) → every p c ≡ true
unfolding every
every-on p b zero e h f = refl
every-on p b (suc c) e h f = ⊎_elim
    (λ (q : b ≡ suc c). rw q at e)
    (λ (ne : b ≡ suc c → ⊥).
    let ih : every p c ≡ true = every-on p b c e (omega arith) (λ i l m. f i l (omega arith)) in
    rw (ih, f c (omega arith) (omega arith)))
    (eq-or-ne b (suc c))

-- what each one has, every one has
pub every-each : (p : ℕ → Bool) (n : ℕ) → ((i : ℕ) → i < n → p i ≡ true) → every p n ≡ true
every-each p n h = every-on p 0 n (every-zero p) (omega arith) (λ i l m. h i m)

pub or_split : (a b : Bool) → (a || b) ≡ true → (a ≡ true) ⊎ (b ≡ true)
or_split true b e = inl refl
or_split false b e = inr e

pub bool_iff : (a b : Bool) → (a ≡ true → b ≡ true) → (b ≡ true → a ≡ true) → a ≡ b
bool_iff true b f g = sym (f refl)
bool_iff false true f g = g refl
bool_iff false false f g = refl

-- ---- some

pub some-zero : (p : ℕ → Bool) → some p 0 ≡ false
unfolding some
some-zero p = refl

pub some-suc : (p : ℕ → Bool) (i : ℕ) → some p i ≡ false → p i ≡ false → some p (i + 1) ≡ false
unfolding some
some-suc p i a b = rw (add-one, a, b)

-- one that passes is enough
pub some_at : (p : ℕ → Bool) (n i : ℕ) → i < n → p i ≡ true → some p n ≡ true
unfolding some
some_at p zero i h e = absurd (not-suc-le-zero h)
some_at p (suc n) i h e = ⊎_elim
    (λ (q : i ≡ n). rw (← q, e) (or-true (some p i)))
    (λ (ne : i ≡ n → ⊥). rw (some_at p n i (omega arith) e))
    (eq-or-ne i n)

pub some-none : (p : ℕ → Bool) (n : ℕ) → ((i : ℕ) → i < n → p i ≡ false) → some p n ≡ false
unfolding some
some-none p zero h = refl
some-none p (suc n) h = rw (some-none p n (λ i l. h i (omega arith)), h n (omega arith))

-- one that passes, where some does
pub record Passes (p : ℕ → Bool) (n : ℕ) : Type 0 where
  pub i : ℕ
  pub i< : i < n
  pub yes : p i ≡ true

pub some-find : (p : ℕ → Bool) (n : ℕ) → some p n ≡ true → Passes p n
unfolding some
some-find p zero e = absurd (false≢true e)
some-find p (suc n) e = ⊎_elim
    (λ (a : some p n ≡ true). let f = some-find p n a in record { i = f.i; i< = omega arith; yes = f.yes })
    (λ (b : p n ≡ true). record { i = n; i< = omega arith; yes = b })
    (or_split (some p n) (p n) e)

pub some-ext : (p q : ℕ → Bool) (n : ℕ) → ((i : ℕ) → i < n → p i ≡ q i) → some p n ≡ some q n
unfolding some
some-ext p q zero h = refl
some-ext p q (suc n) h = rw (some-ext p q n (λ i l. h i (omega arith)), h n (omega arith))

-- ---- count_to

module _ (p : ℕ → Bool) where
  pub count-zero : count_to p 0 ≡ 0
  unfolding count_to
  count-zero = refl

  -- the next one passes, or not
  pub count_yes : (i : ℕ) → p i ≡ true → count_to p (i + 1) ≡ count_to p i + 1
  unfolding count_to
  count_yes i e = rw (add-one i, e)

  pub count_no : (i : ℕ) → p i ≡ false → count_to p (i + 1) ≡ count_to p i
  unfolding count_to
  count_no i e = rw (add-one i, e) (omega arith)

  count-step : (n : ℕ) (b : Bool) → p n ≡ b → (count_to p n ≤ count_to p (n + 1)) × (count_to p (n + 1) ≤ count_to p n + 1)
  count-step n true e = let q = count_yes n e in (omega arith, omega arith)
  count-step n false e = let q = count_no n e in (omega arith, omega arith)

  pub count-le : (n : ℕ) → count_to p n ≤ n
  count-le zero = rw count-zero (omega arith)
  count-le (suc n) = let ih = count-le n in let s = (count-step n (p n) refl).1 in rw (← add-one n) (omega arith)

  pub count-mono : (i n : ℕ) → i ≤ n → count_to p i ≤ count_to p n
  count-mono i zero h = let e : i ≡ 0 = omega arith in rw e (omega arith)
  count-mono i (suc n) h = ⊎_elim
      (λ (e : i ≡ suc n). rw e (omega arith))
      (λ (ne : i ≡ suc n → ⊥).
      let ih = count-mono i n (omega arith) in
      let s = (count-step n (p n) refl).0 in
      rw (← add-one n) (omega arith))
      (eq-or-ne i (suc n))

  -- none passes from b up to c
  pub count-on : (b c : ℕ) → b ≤ c → ((i : ℕ) → b ≤ i → i < c → p i ≡ false) → count_to p c ≡ count_to p b
  count-on b zero h f = let e : b ≡ 0 = omega arith in rw e
  count-on b (suc c) h f = ⊎_elim
      (λ (e : b ≡ suc c). rw e)
      (λ (ne : b ≡ suc c → ⊥).
      let ih : count_to p c ≡ count_to p b = count-on b c (omega arith) (λ i l m. f i l (omega arith)) in
      rw (← add-one c) (count_no c (f c (omega arith) (omega arith)) ∙ ih))
      (eq-or-ne b (suc c))

pub count-ext : (p q : ℕ → Bool) (n : ℕ) → ((i : ℕ) → i < n → p i ≡ q i) → count_to p n ≡ count_to q n
unfolding count_to
count-ext p q zero h = refl
count-ext p q (suc n) h = rw (count-ext p q n (λ i l. h i (omega arith)), h n (omega arith))

-- The elements that stay, moved to the front one after the other. Assumes nothing.
use Prim.Native.Nat.{ℕ, ◌+◌, ◌≤◌, ◌<◌, zero-le}
use mathlib.Core.Path.{◌≡◌, refl, sym, ◌∙◌}
use mathlib.Core.Bool.{Bool, true, false, cond}
use mathlib.Core.List.{List, [], ◌∷◌, ◌++◌, append-nil}
use native.Mathlib.Omega.{arith}
use native.Mathlib.Numerals.{add-one}
use lib.ListN.{length, get_or, set, length-append, length-set}
use lib.Seq.{get_or-set_other, take-append_seam}
use Rattle.sheet.specs.Results.{Front}
use Rattle.sheet.proofs.Fronts.{front-none, front-next}
use Rattle.coarsen_compact.specs.Compact.{packed}

module _ {A : Type 0} (p : ℕ → Bool) (d : A) (l : List A) where
  pub packed-suc : (n : ℕ) → packed p d l (n + 1) ≡ packed p d l n ++ cond (p n) (get_or l n d ∷ []) []
  unfolding packed
  packed-suc n = rw (add-one n)

  packed-yes : (n : ℕ) → p n ≡ true → packed p d l (n + 1) ≡ packed p d l n ++ (get_or l n d ∷ [])
  packed-yes n e = packed-suc n ∙ rw e

  packed-no : (n : ℕ) → p n ≡ false → packed p d l (n + 1) ≡ packed p d l n
  packed-no n e = packed-suc n ∙ rw e (append-nil (packed p d l n))

  packed_none : packed p d l 0 ≡ []
  unfolding packed
  packed_none = refl

  -- after n of m places the k elements that stay are in front of s, and from place n on s is as l
  pub record Packing (s : List A) (m n k : ℕ) : Type 0 where
    pub fits : m ≤ length l
    pub len : length s ≡ length l
    pub k≤ : k ≤ n
    pub count : k ≡ length (packed p d l n)
    pub front : Front (packed p d l n) s
    pub rest : (i : ℕ) → n ≤ i → get_or s i d ≡ get_or l i d

  pub pack-start : (m : ℕ) → m ≤ length l → Packing l m 0 0
  pack-start m h = record {
    fits = h;
    len = refl;
    k≤ = zero-le;
    count = rw packed_none;
    front = rw packed_none (front-none l);
    rest = λ i b. refl;
  }

  -- one place more, where b says whether its element stays
  pub pack-turn : {s t : List A} {m n k j : ℕ} (b : Bool) → Packing s m n k → n < m → b ≡ p n → j ≡ cond b (k + 1) k → t ≡ cond b (set s k (get_or s n d)) s → Packing t m (n + 1) j
  pack-turn {s} {t} {m} {n} {k} {j} true P h e ej et =
      let y = packed-yes n (sym e) in
      let len : length (packed p d l n ++ (get_or l n d ∷ [])) ≡ length (packed p d l n) + 1 = length-append (packed p d l n) (get_or l n d ∷ []) in
      rw (ej, et) (record {
        fits = P.fits;
        len = length-set s k (get_or s n d) ∙ P.len;
        k≤ = omega (arith, P.k≤);
        count = rw y (omega (arith, P.count));
        front = rw (y, ← P.rest n (omega arith)) (front-next k (get_or s n d) P.front P.count (omega (arith, P.k≤, P.fits, P.len)));
        rest = λ i q. get_or-set_other s k i (get_or s n d) d (λ z. omega (arith, P.k≤)) ∙ P.rest i (omega arith);
      })
  pack-turn {s} {t} {m} {n} {k} {j} false P h e ej et =
      let y = packed-no n (sym e) in
      rw (ej, et) (record {
        fits = P.fits;
        len = P.len;
        k≤ = omega (arith, P.k≤);
        count = rw y P.count;
        front = rw y P.front;
        rest = λ i q. P.rest i (omega arith);
      })

-- a list copied to the front of another
pub front-copied : {A : Type 0} (l rest : List A) {s : List A} → s ≡ l → Front l (s ++ rest)
front-copied l rest e = rw e (record { fits = omega (arith, length-append l rest); is = take-append_seam l rest })

-- The loops over the corners of a point register their joins and clear them. Assumes nothing.
use Prim.Native.Nat.{ℕ, zero, suc, ◌+◌, ◌*◌, ◌≤◌, ◌<◌, zero-le}
use mathlib.Core.Path.{◌≡◌, refl, sym, ap, ◌∙◌}
use mathlib.Core.Bool.{Bool, cond}
use mathlib.Core.Logic.{⊎_elim}
use mathlib.Core.List.{List}
use native.Mathlib.Omega.{arith}
use native.Mathlib.Numerals.{add-one}
use lib.Dec.{eqb}
use lib.ListN.{length, get_or, set, length-set}
use lib.Seq.{get_or-set_same, get_or-set_other}
use borrow.Author.Tests.{eq-eqb, ne_eqb}
use Rattle.lists.specs.Regions.{part, Out, Out2, Apart, Kept}
use Rattle.lists.proofs.Laws.{eq-or-ne, lt-or-le}
use Rattle.lists.proofs.Regions.{part-get, part-kept, kept_refl, kept_set, kept_then, kept_less}
use Rattle.rule_sheet.specs.Quads.{is}
use Rattle.sheet.specs.Flat.{before, to}
use Rattle.incidence.specs.Corners.{Known}
use Rattle.edges.proofs.Corners.{is_same, is-other}
use Rattle.edges.proofs.Counting.{num-le}
use Rattle.quality_links.proofs.Rounds.{is_none}
use Rattle.quality_links.specs.Links.{other_end, joins_to, degree_to, others_to, other_sum, registered, Registering, Joining, Joins, Unjoined}

-- ---- sums over the first corners

pub joins-zero : (Q cs : List ℕ) (g : ℕ → ℕ → ℕ) → joins_to Q cs g 0 ≡ 0
unfolding joins_to
joins-zero Q cs g = refl

pub joins-next : (Q cs : List ℕ) (g : ℕ → ℕ → ℕ) (i : ℕ) → joins_to Q cs g (i + 1) ≡ joins_to Q cs g i + g (before Q (get_or cs i 0)) (to Q (get_or cs i 0))
unfolding joins_to
joins-next Q cs g i = rw (add-one i)

pub degree-le : (Q cs : List ℕ) (x i : ℕ) → degree_to Q cs i x ≤ i + i
unfolding joins_to
degree-le Q cs x zero = omega arith
degree-le Q cs x (suc i) = omega (arith, degree-le Q cs x i, num-le (eqb x (before Q (get_or cs i 0))), num-le (eqb x (to Q (get_or cs i 0))))

-- ---- one more join

-- the sum of a point with no join or one, and a join more
sum_first : (d s y : ℕ) → d ≡ 0 → other_sum d s y ≡ y
sum_first d s y e = rw (eq-eqb d 0 e)

sum-second : (d s y : ℕ) → d ≡ 1 → other_sum d s y ≡ s + y
sum-second d s y e = rw e refl

-- a point without a join has no sum
filled : (d s y : ℕ) → (d ≡ 0 → s ≡ 0) → cond (eqb d 0) 0 s + y ≡ s + y
filled d s y f = ⊎_elim (λ (e : d ≡ 0). rw (eq-eqb d 0 e, f e)) (λ (n : d ≡ 0 → ⊥). rw (ne_eqb d 0 n)) (eq-or-ne d 0)

other_none : (t x s y : ℕ) → (t ≡ x → ⊥) → s ≡ s + cond (eqb t x) y 0
other_none t x s y n = rw (ne_eqb t x n) (omega arith)

module _ (np deg acc : ℕ) (w : List ℕ) (fd : deg + np ≤ length w) (fa : acc + np ≤ length w) (a : Apart deg np acc np) where
  pub registering : {D W : ℕ → ℕ} → Joins np D W deg acc w → (x y : ℕ) → x < np → y < 1048576 → D x < 16777216 → Registering deg acc x y w
  registering {D} {W} R x y hx hy hd = record {
    in_deg = omega arith;
    in_acc = omega arith;
    small = hy;
    few = omega (arith, R.degrees x hx);
    sum< = λ e. omega (arith, R.degrees x hx, R.small x hx (omega (arith, R.degrees x hx)) (omega (arith, R.degrees x hx)));
  }

  deg-is : (x y : ℕ) → x < np → (t : ℕ) → t < np → get_or (registered deg acc x y w) (deg + t) 0 ≡ get_or w (deg + t) 0 + is t x
  deg-is x y hx t ht =
      let s = other_sum (get_or w (deg + x) 0) (get_or w (acc + x) 0) y in
      let l : deg + x < length (set w (acc + x) s) = simp length-set (omega arith) in
      ⊎_elim
      (λ (e : t ≡ x). rw e (get_or-set_same (set w (acc + x) s) (deg + x) (get_or w (deg + x) 0 + 1) 0 l ∙ omega (arith, is_same x)))
      (λ (ne : t ≡ x → ⊥).
      get_or-set_other (set w (acc + x) s) (deg + x) (deg + t) (get_or w (deg + x) 0 + 1) 0 (λ e. ne (omega arith))
      ∙ get_or-set_other w (acc + x) (deg + t) s 0 (λ e. a (deg + t) (omega arith) (omega arith) (omega arith) (omega arith))
      ∙ omega (arith, is-other t x ne))
      (eq-or-ne t x)

  acc-same : (x y : ℕ) → x < np → get_or (registered deg acc x y w) (acc + x) 0 ≡ other_sum (get_or w (deg + x) 0) (get_or w (acc + x) 0) y
  acc-same x y hx =
      let s = other_sum (get_or w (deg + x) 0) (get_or w (acc + x) 0) y in
      get_or-set_other (set w (acc + x) s) (deg + x) (acc + x) (get_or w (deg + x) 0 + 1) 0 (λ e. a (acc + x) (omega arith) (omega arith) (omega arith) (omega arith))
      ∙ get_or-set_same w (acc + x) s 0 (omega arith)

  acc-other : (x y : ℕ) → x < np → (t : ℕ) → t < np → (t ≡ x → ⊥) → get_or (registered deg acc x y w) (acc + t) 0 ≡ get_or w (acc + t) 0
  acc-other x y hx t ht ne =
      let s = other_sum (get_or w (deg + x) 0) (get_or w (acc + x) 0) y in
      get_or-set_other (set w (acc + x) s) (deg + x) (acc + t) (get_or w (deg + x) 0 + 1) 0 (λ e. a (acc + t) (omega arith) (omega arith) (omega arith) (omega arith))
      ∙ get_or-set_other w (acc + x) (acc + t) s 0 (λ e. ne (omega arith))

  -- the sum of x where it has one join more
  sum_same : {D W : ℕ → ℕ} → Joins np D W deg acc w → (x y : ℕ) → x < np → y < 1048576 → D x + 1 ≤ 2
      → (get_or (registered deg acc x y w) (acc + x) 0 ≡ cond (eqb (D x) 0) 0 (W x) + y) × (get_or (registered deg acc x y w) (acc + x) 0 < (D x + 1) * 1048576)
  sum_same {D} {W} R x y hx hy b = ⊎_elim
      (λ (z : D x ≡ 0).
      let e : get_or (registered deg acc x y w) (acc + x) 0 ≡ y = acc-same x y hx ∙ sum_first _ _ y (R.degrees x hx ∙ z) in
      (rw z (e ∙ omega arith), omega arith))
      (λ (n : D x ≡ 0 → ⊥).
      let o : D x ≡ 1 = omega arith in
      let e : get_or (registered deg acc x y w) (acc + x) 0 ≡ get_or w (acc + x) 0 + y = acc-same x y hx ∙ sum-second _ _ y (R.degrees x hx ∙ o) in
      let s = R.sums x hx (omega arith) (omega arith) in
      let l = R.small x hx (omega arith) (omega arith) in
      (rw o (omega arith), omega arith))
      (eq-or-ne (D x) 0)

  -- the counts and sums with a join of x to y
  pub registers : {D W : ℕ → ℕ} → Joins np D W deg acc w → (x y : ℕ) → x < np → y < 1048576
      → Joins np (λ t. D t + is t x) (λ t. W t + cond (eqb t x) y 0) deg acc (registered deg acc x y w)
  registers {D} {W} R x y hx hy = record {
    none = λ t e. omega (arith, R.none t (omega arith), is_none t x y (omega arith));
    degrees = λ t h. deg-is x y hx t h ∙ ap (λ (k : ℕ). k + is t x) (R.degrees t h);
    sums = λ t h b c. ⊎_elim
        (λ (e : t ≡ x). here t e c)
        (λ (ne : t ≡ x → ⊥).
        let i = is-other t x ne in
        acc-other x y hx t h ne ∙ R.sums t h (omega arith) (omega arith) ∙ other_none t x (W t) y ne)
        (eq-or-ne t x);
    small = λ t h b c. ⊎_elim
        (λ (e : t ≡ x). here-small t e c)
        (λ (ne : t ≡ x → ⊥).
        let i = is-other t x ne in
        let l = R.small t h (omega arith) (omega arith) in
        omega (arith, acc-other x y hx t h ne))
        (eq-or-ne t x);
  }
    where
      here : (t : ℕ) → t ≡ x → D t + is t x ≤ 2 → get_or (registered deg acc x y w) (acc + t) 0 ≡ W t + cond (eqb t x) y 0
      here t e c =
          let i = is_same x in
          let c' : D x + is x x ≤ 2 = rw e at c in
          rw e ((sum_same R x y hx hy (omega arith)).0 ∙ filled (D x) (W x) y (R.none x) ∙ ap (λ (b : Bool). W x + cond b y 0) (sym (eq-eqb x x refl)))

      here-small : (t : ℕ) → t ≡ x → D t + is t x ≤ 2 → get_or (registered deg acc x y w) (acc + t) 0 < (D t + is t x) * 1048576
      here-small t e c =
          let i = is_same x in
          let c' : D x + is x x ≤ 2 = rw e at c in
          let s = (sum_same R x y hx hy (omega arith)).1 in
          rw e (omega arith)

-- the same joins by other names
joins-as : {np deg acc : ℕ} {D W : ℕ → ℕ} {w : List ℕ} (C B : ℕ → ℕ) → Joins np D W deg acc w → ((x : ℕ) → C x ≡ D x) → ((x : ℕ) → B x ≡ W x) → Joins np C B deg acc w
joins-as C B R f g = record {
  none = λ x e. g x ∙ R.none x (sym (f x) ∙ e);
  degrees = λ x h. R.degrees x h ∙ sym (f x);
  sums = λ x h b c. R.sums x h (omega (arith, f x)) (omega (arith, f x)) ∙ sym (g x);
  small = λ x h b c. omega (arith, f x, R.small x h (omega (arith, f x)) (omega (arith, f x)));
}

-- ---- the loop that registers

-- the slice with one join more is kept but for counts and sums
kept-registered : {np deg acc : ℕ} {v w : List ℕ} (x y : ℕ) → Kept (Out2 deg np acc np) v w → x < np → Kept (Out2 deg np acc np) v (registered deg acc x y w)
kept-registered {np} {deg} {acc} {v} {w} x y K h =
    kept_set (deg + x) _ (kept_set (acc + x) _ K (λ o. o.1 (omega arith) (omega arith))) (λ o. o.0 (omega arith) (omega arith))

-- what the loop asks stands where only counts and sums were written
pub joining-kept : {np : ℕ} {Q cs : List ℕ} {from m deg acc : ℕ} {v w : List ℕ} → Joining np Q cs from m deg acc v → Kept (Out2 deg np acc np) v w → Joining np Q cs from m deg acc w
joining-kept I K =
    let l = K.len in
    record {
      few = I.few;
      points = I.points;
      at = part-kept I.at K (λ i p q. (I.from_deg i p q, I.from_acc i p q));
      known = I.known;
      before< = I.before<;
      after< = I.after<;
      in_deg = omega (arith, I.in_deg);
      in_acc = omega (arith, I.in_acc);
      from_deg = I.from_deg;
      from_acc = I.from_acc;
      deg_acc = I.deg_acc;
    }

-- the corners by the slice itself
pub joining-own : {np : ℕ} {Q cs : List ℕ} {from m deg acc : ℕ} {w : List ℕ} → Joining np Q cs from m deg acc w → Joining np Q (part from m w) from m deg acc w
joining-own I = rw I.at.is I

-- after j corners
pub record Registered (np : ℕ) (Q cs : List ℕ) (from m deg acc : ℕ) (v w : List ℕ) (j : ℕ) : Type 0 where
  pub j≤ : j ≤ m
  pub joining : Joining np Q cs from m deg acc w
  pub joins : Joins np (degree_to Q cs j) (others_to Q cs j) deg acc w
  pub kept : Kept (Out2 deg np acc np) v w

pub registered-start : {np : ℕ} {Q cs : List ℕ} {from m deg acc : ℕ} {v : List ℕ} → Joining np Q cs from m deg acc v → Unjoined np deg v → Registered np Q cs from m deg acc v v 0
registered-start {np} {Q} {cs} {from} {m} {deg} {acc} {v} I u = record {
  j≤ = zero-le;
  joining = I;
  joins = record {
    none = λ x _. joins-zero Q cs (other_end x);
    degrees = λ x h. u x h ∙ sym (joins-zero Q cs (λ p m. is x p + is x m));
    sums = λ x h b c. absurd (omega (arith, joins-zero Q cs (λ p m. is x p + is x m)));
    small = λ x h b c. absurd (omega (arith, joins-zero Q cs (λ p m. is x p + is x m)));
  };
  kept = kept_refl (Out2 deg np acc np) v;
}

-- the turn: the corner c, and its two ends p and n
pub record RegisterTurn (np : ℕ) (Q cs : List ℕ) (from m deg acc : ℕ) (v w : List ℕ) (j p n : ℕ) : Type 0 where
  pub first : Registering deg acc p n w
  pub second : Registering deg acc n p (registered deg acc p n w)
  pub again : Registered np Q cs from m deg acc v (registered deg acc n p (registered deg acc p n w)) (j + 1)

pub register-turn : {np : ℕ} {Q cs : List ℕ} {from m deg acc : ℕ} {v w : List ℕ} {j : ℕ} (p n : ℕ) → Registered np Q cs from m deg acc v w j → j < m
    → p ≡ before Q (get_or cs j 0) → n ≡ to Q (get_or cs j 0) → RegisterTurn np Q cs from m deg acc v w j p n
register-turn {np} {Q} {cs} {from} {m} {deg} {acc} {v} {w} {j} p n G h ep en =
    let I = G.joining in
    let pb : p < np = rw ep (I.before< j h) in
    let nb : n < np = rw en (I.after< j h) in
    let few = I.few in
    let points = I.points in
    let w₁ = registered deg acc p n w in
    let k₁ : Kept (Out2 deg np acc np) v w₁ = kept-registered p n G.kept pb in
    let k₂ : Kept (Out2 deg np acc np) v (registered deg acc n p w₁) = kept-registered n p k₁ nb in
    let l = G.kept.len in
    let l₁ = k₁.len in
    let l₂ = k₂.len in
    let J₁ = registers np deg acc w I.in_deg I.in_acc I.deg_acc G.joins p n pb (omega arith) in
    let d₁ : deg + np ≤ length w₁ = omega (arith, I.in_deg) in
    let a₁ : acc + np ≤ length w₁ = omega (arith, I.in_acc) in
    let J₂ = registers np deg acc w₁ d₁ a₁ I.deg_acc J₁ n p nb (omega arith) in
    record {
      first = registering np deg acc w I.in_deg I.in_acc I.deg_acc G.joins p n pb (omega arith) (omega (arith, degree-le Q cs p j));
      second = registering np deg acc w₁ d₁ a₁ I.deg_acc J₁ n p nb (omega arith) (omega (arith, degree-le Q cs n j, num-le (eqb n p)));
      again = record {
        j≤ = omega arith;
        joining = joining-kept I (kept-registered n p (kept-registered p n (kept_refl (Out2 deg np acc np) w) pb) nb);
        joins = joins-as (degree_to Q cs (j + 1)) (others_to Q cs (j + 1)) J₂
            (λ x. joins-next Q cs (λ p m. is x p + is x m) j ∙ rw (← ep, ← en) (omega arith))
            (λ x. joins-next Q cs (other_end x) j ∙ rw (← ep, ← en) (omega arith));
        kept = k₂;
      };
    }

pub register-second : {np : ℕ} {Q cs : List ℕ} {from m deg acc : ℕ} {v w : List ℕ} {j p n : ℕ} (u : List ℕ) → RegisterTurn np Q cs from m deg acc v w j p n → u ≡ registered deg acc p n w
    → Registering deg acc n p u
register-second u T e = rw e T.second

pub register-again : {np : ℕ} {Q cs : List ℕ} {from m deg acc : ℕ} {v w : List ℕ} {j p n : ℕ} (u t : List ℕ) → RegisterTurn np Q cs from m deg acc v w j p n → u ≡ registered deg acc p n w
    → t ≡ registered deg acc n p u → Registered np Q cs from m deg acc v t (j + 1)
register-again u t T e f = rw (f, e) T.again

pub registered-end : {np : ℕ} {Q cs : List ℕ} {from m deg acc : ℕ} {v w : List ℕ} {j : ℕ} → Registered np Q cs from m deg acc v w j → m ≤ j
    → Joins np (degree_to Q cs m) (others_to Q cs m) deg acc w × Kept (Out2 deg np acc np) v w
registered-end {np} {Q} {cs} {from} {m} {deg} {acc} {v} {w} {j} G h = let e : j ≡ m = omega (arith, G.j≤) in (rw e at G.joins, G.kept)

-- ---- the corner that a turn reads

pub record Read (np : ℕ) (Q cs : List ℕ) (deg : ℕ) (w : List ℕ) (j c : ℕ) : Type 0 where
  pub is : c ≡ get_or cs j 0
  pub known : Known Q c
  pub before< : before Q c < np
  pub after< : to Q c < np
  pub in_deg : deg + np ≤ length w

pub read-corner : {np : ℕ} {Q cs : List ℕ} {from m deg acc : ℕ} {w : List ℕ} {j : ℕ} (c : ℕ) → Joining np Q cs from m deg acc w → j < m → c ≡ get_or w (from + j) 0 → Read np Q cs deg w j c
read-corner {np} {Q} {cs} {from} {m} {deg} {acc} {w} {j} c I h e =
    let q : c ≡ get_or cs j 0 = e ∙ part-get 0 j I.at h in
    record { is = q; known = rw q (I.known j h); before< = rw q (I.before< j h); after< = rw q (I.after< j h); in_deg = I.in_deg }

-- ---- the loop that clears

-- after j corners
pub record Cleared (np : ℕ) (Q cs : List ℕ) (from m deg acc : ℕ) (v w : List ℕ) (j : ℕ) : Type 0 where
  pub j≤ : j ≤ m
  pub joining : Joining np Q cs from m deg acc w
  pub live : (x : ℕ) → x < np → 0 < get_or w (deg + x) 0 → (degree_to Q cs j x ≡ 0) × (0 < degree_to Q cs m x)
  pub kept : Kept (Out deg np) v w

pub cleared-start : {np : ℕ} {Q cs : List ℕ} {from m deg acc : ℕ} {v : List ℕ} → Joining np Q cs from m deg acc v → ((x : ℕ) → x < np → get_or v (deg + x) 0 ≡ degree_to Q cs m x)
    → Cleared np Q cs from m deg acc v v 0
cleared-start {np} {Q} {cs} {from} {m} {deg} {acc} {v} I d = record {
  j≤ = zero-le;
  joining = I;
  live = λ x h k. (joins-zero Q cs (λ p m. is x p + is x m), omega (arith, d x h));
  kept = kept_refl (Out deg np) v;
}

pub clear-turn : {np : ℕ} {Q cs : List ℕ} {from m deg acc : ℕ} {v w : List ℕ} {j : ℕ} (p n : ℕ) → Cleared np Q cs from m deg acc v w j → j < m
    → p ≡ before Q (get_or cs j 0) → n ≡ to Q (get_or cs j 0) → Cleared np Q cs from m deg acc v (set (set w (deg + p) 0) (deg + n) 0) (j + 1)
clear-turn {np} {Q} {cs} {from} {m} {deg} {acc} {v} {w} {j} p n G h ep en =
    let I = G.joining in
    let pb : p < np = rw ep (I.before< j h) in
    let nb : n < np = rw en (I.after< j h) in
    let w₁ = set w (deg + p) 0 in
    let w₂ = set w₁ (deg + n) 0 in
    let room : deg + np ≤ length w = I.in_deg in
    let bp : deg + p < length w = omega arith in
    let bn : deg + n < length w₁ = simp length-set (omega arith) in
    let K : Kept (Out deg np) w w₂ =
    kept_set (deg + n) 0 (kept_set (deg + p) 0 (kept_refl (Out deg np) w) (λ o. o (omega arith) (omega arith))) (λ o. o (omega arith) (omega arith)) in
    record {
      j≤ = omega arith;
      joining = joining-kept I (kept_less K (λ i o. o.0));
      live = λ x hx k. ⊎_elim
          (λ (e : x ≡ n). let z : get_or w₂ (deg + x) 0 ≡ 0 = rw e (get_or-set_same w₁ (deg + n) 0 0 bn) in absurd (omega arith))
          (λ (f : x ≡ n → ⊥). ⊎_elim
          (λ (e : x ≡ p).
          let z : get_or w₂ (deg + x) 0 ≡ 0 = get_or-set_other w₁ (deg + n) (deg + x) 0 0 (λ q. f (omega arith)) ∙ rw e (get_or-set_same w (deg + p) 0 0 bp) in
          absurd (omega arith))
          (λ (g : x ≡ p → ⊥).
          let z : get_or w₂ (deg + x) 0 ≡ get_or w (deg + x) 0 =
          get_or-set_other w₁ (deg + n) (deg + x) 0 0 (λ q. f (omega arith)) ∙ get_or-set_other w (deg + p) (deg + x) 0 0 (λ q. g (omega arith)) in
          let L = G.live x hx (omega arith) in (
            joins-next Q cs (λ p m. is x p + is x m) j ∙ rw (← ep, ← en) (omega (arith, L.0, is-other x p g, is-other x n f)),
            L.1,
          ))
          (eq-or-ne x p))
          (eq-or-ne x n);
      kept = kept_then G.kept K (λ i o. (o, o));
    }

pub cleared-end : {np : ℕ} {Q cs : List ℕ} {from m deg acc : ℕ} {v w : List ℕ} {j : ℕ} → Cleared np Q cs from m deg acc v w j → m ≤ j → Unjoined np deg w × Kept (Out deg np) v w
cleared-end {np} {Q} {cs} {from} {m} {deg} {acc} {v} {w} {j} G h =
    let e : j ≡ m = omega (arith, G.j≤) in
    let live : (x : ℕ) → x < np → 0 < get_or w (deg + x) 0 → (degree_to Q cs m x ≡ 0) × (0 < degree_to Q cs m x) = rw e at G.live in (
      (λ x hx. ⊎_elim
          (λ (k : 0 < get_or w (deg + x) 0). let L = live x hx k in absurd (omega (arith, L.0, L.1)))
          (λ (k : get_or w (deg + x) 0 ≤ 0). omega arith)
          (lt-or-le 0 (get_or w (deg + x) 0))),
      G.kept,
    )

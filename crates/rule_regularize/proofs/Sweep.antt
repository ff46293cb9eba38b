-- The passes of the rule are passes of swaps, and a pass that swaps nothing leaves none. Assumes nothing.
use mathlib.Core.Path.{◌≡◌, refl, ap, ap₂, sym, ◌∙◌, subst}
use mathlib.Core.Logic.{◌⊎◌, inl, inr, ◌≢◌}
use mathlib.Core.Option.{Option, none, some}
use mathlib.Core.Bool.{Bool, true, false, ◌&&◌, ◌||◌, not, true≢false}
use Prim.Native.Nat.{ℕ, zero, suc, ◌+◌, ◌-◌, ◌≤◌, ◌<◌}
use mathlib.Core.List.Memᴰ
use mathlib.Core.List.{List, [], ◌∷◌, ◌++◌, Memᴰ}
use native.Mathlib.Omega.{arith}
use native.Mathlib.Decide.{ℕ_discrete}
use lib.Dec.{eqb, leb}
use lib.IntN.{pos}
use lib.ListN.{length, get_or, replicate, length-replicate}
use lib.Signed.{le_z, lt_z}
use borrow.Author.Tests.{eqb-true, leb-true, lt-ltb, le-leb}
use Rattle.rule_sheet.specs.Edges.{join_to, edges_from, edge_if, Pair, pair, edges_of}
use Rattle.rule_sheet.specs.Quads.{uses, Quad, quad, is, valence, side, is_edge}
use Rattle.rule_regularize.specs.Swaps.{Fits, hex, fresh, swap_one, swap_two, Place, places, State, meets, bar_list, six_differ, gain_in, may, swap_quads, try_places, try_edge, sweep, swap_pass, NoSwap}
use Rattle.rule_sheet.specs.Quads.{turn}
use Rattle.rule_passes.specs.Choices.{none_quad, choose, take_or}
use Rattle.rule_sheet.proofs.Base.{is-self}
use Rattle.rule_regularize.proofs.Gains.{half_of, gain-least}
use Rattle.rule_regularize.proofs.Passes.{Six, OneOf, is0, is1, is2, is3, is4, is5, Hexagon, Bar, Pass, stop, one, two}
use Rattle.rule_sheet.specs.Claims.{Has}
use Rattle.lists.specs.Sort.{cons_if}
use Rattle.rule_sheet.proofs.Weigh.{no_edge}
use Rattle.rule_passes.proofs.Choices.{and-true, not-true, none-some, cond-some, choose-some}

pub six-of : (a b c d e f : ℕ) → six_differ a b c d e f ≡ true → Six a b c d e f
six-of a b c d e f h = let z : is a b + (is a c + (is a d + (is a e + (is a f + (is b c + (is b d + (is b e + (is b f + (is c d + (is c e + (is c f + (is d e + (is d f + (is e f)))))))))))))) ≡ 0 = eqb-true (is a b + (is a c + (is a d + (is a e + (is a f + (is b c + (is b d + (is b e + (is b f + (is c d + (is c e + (is c f + (is d e + (is d f + (is e f))))))))))))))) 0 h in record {
  n01 = λ p. omega (arith, z, is-self a, ap (is a) p);
  n02 = λ p. omega (arith, z, is-self a, ap (is a) p);
  n03 = λ p. omega (arith, z, is-self a, ap (is a) p);
  n04 = λ p. omega (arith, z, is-self a, ap (is a) p);
  n05 = λ p. omega (arith, z, is-self a, ap (is a) p);
  n12 = λ p. omega (arith, z, is-self b, ap (is b) p);
  n13 = λ p. omega (arith, z, is-self b, ap (is b) p);
  n14 = λ p. omega (arith, z, is-self b, ap (is b) p);
  n15 = λ p. omega (arith, z, is-self b, ap (is b) p);
  n23 = λ p. omega (arith, z, is-self c, ap (is c) p);
  n24 = λ p. omega (arith, z, is-self c, ap (is c) p);
  n25 = λ p. omega (arith, z, is-self c, ap (is c) p);
  n34 = λ p. omega (arith, z, is-self d, ap (is d) p);
  n35 = λ p. omega (arith, z, is-self d, ap (is d) p);
  n45 = λ p. omega (arith, z, is-self e, ap (is e) p);
}

-- barred quads, as a property
unfoldable pub Barred : List Bool → ℕ → Type 0
Barred bs i = get_or bs i true ≡ true

-- to bar more in the list is to bar more
bar-more : (S0 : List Quad) (bs : List Bool) (f : Quad → Bool) → length bs ≡ length S0 → (k : ℕ) → Barred bs k ⊎ (f (get_or S0 k none_quad) ≡ true) → Barred (bar_list S0 bs f) k
unfolding Barred
bar-more [] bs f e k h = refl
bar-more (q ∷ S) [] f e k h = absurd (omega arith)
bar-more (q ∷ S) (b ∷ bs) f e zero h = go b (f q) h
  where
    go : (x y : Bool) → (x ≡ true) ⊎ (y ≡ true) → (x || y) ≡ true
    go true y h = refl
    go false true h = refl
    go false false (inl h) = h
    go false false (inr h) = h
bar-more (q ∷ S) (b ∷ bs) f e (suc k) h = bar-more S bs f (omega arith) k h

pub bar-length : (S0 : List Quad) (bs : List Bool) (f : Quad → Bool) → length bs ≡ length S0 → length (bar_list S0 bs f) ≡ length S0
bar-length [] bs f e = refl
bar-length (q ∷ S) [] f e = absurd (omega arith)
bar-length (q ∷ S) (b ∷ bs) f e = ap suc (bar-length S bs f (omega arith))

meets-true : (q : Quad) (v h0 h1 h2 h3 h4 h5 : ℕ) → OneOf v h0 h1 h2 h3 h4 h5 → Has q v → meets q h0 h1 h2 h3 h4 h5 ≡ true
meets-true q v h0 h1 h2 h3 h4 h5 o h = lt-ltb 0 (uses h0 q + uses h1 q + uses h2 q + uses h3 q + uses h4 q + uses h5 q) (go o)
  where
    go : OneOf v h0 h1 h2 h3 h4 h5 → 0 < uses h0 q + uses h1 q + uses h2 q + uses h3 q + uses h4 q + uses h5 q
    go (is0 p) = omega (arith, h, ap (λ k. uses k q) p)
    go (is1 p) = omega (arith, h, ap (λ k. uses k q) p)
    go (is2 p) = omega (arith, h, ap (λ k. uses k q) p)
    go (is3 p) = omega (arith, h, ap (λ k. uses k q) p)
    go (is4 p) = omega (arith, h, ap (λ k. uses k q) p)
    go (is5 p) = omega (arith, h, ap (λ k. uses k q) p)

and3 : (a b c : Bool) → (a && b && c) ≡ true → (a ≡ true) × (b ≡ true) × (c ≡ true)
and3 a b c e = let x = and-true (a && b) c e in let y = and-true a b x.0 in (y.0, y.1, x.1)

and6 : (a b c d e f : Bool) → (a && b && c && d && e && f) ≡ true → (a ≡ true) × (b ≡ true) × (c ≡ true) × (d ≡ true) × (e ≡ true) × (f ≡ true)
and6 a b c d e f h =
    let x5 = and-true (a && b && c && d && e) f h in
    let x4 = and-true (a && b && c && d) e x5.0 in
    let y = and-true (a && b && c) d x4.0 in
    let z = and3 a b c y.0 in
    (z.0, z.1, z.2, y.1, x4.1, x5.1)

module _ (S0 : List Quad) (labels : List ℕ) (m : ℕ) (fits : Fits) where
  -- a step of a pass, as Pass has it
  record Step (st t : State) : Type 1 where
    counted : t.count ≡ suc st.count
    lengths : length st.barred ≡ length S0 → length t.barred ≡ length S0
    before : (S' : List Quad) (c : ℕ) → length st.barred ≡ length S0 → Pass S0 labels (half_of m) t.quads (Barred t.barred) S' c → Pass S0 labels (half_of m) st.quads (Barred st.barred) S' (suc c)

  module _ (st t : State) (i j ei ej h0 h1 h2 h3 h4 h5 : ℕ) (eq : turn ei (get_or st.quads i none_quad) ≡ quad h0 h3 h4 h5) (er : turn ej (get_or st.quads j none_quad) ≡ quad h3 h0 h1 h2)
      (fi : not (get_or st.barred i true) ≡ true) (fj : not (get_or st.barred j true) ≡ true) (la : get_or labels i 8 ≡ get_or labels j 8) (six : Six h0 h1 h2 h3 h4 h5) where
    bars : List Bool
    bars = bar_list S0 st.barred (λ q. meets q h0 h1 h2 h3 h4 h5)

    hexagon : Hexagon labels st.quads (Barred st.barred) i j h0 h1 h2 h3 h4 h5
    unfolding Barred
    hexagon = record { free_i = not-true (get_or st.barred i true) fi; free_j = not-true (get_or st.barred j true) fj; ei = ei; ej = ej; here_i = eq; here_j = er; six = six; agree = la }

    barred-more : length st.barred ≡ length S0 → (k : ℕ) → Bar S0 (Barred st.barred) h0 h1 h2 h3 h4 h5 k → Barred bars k
    unfolding bars
    barred-more e k (inl b) = bar-more S0 st.barred (λ q. meets q h0 h1 h2 h3 h4 h5) e k (inl b)
    barred-more e k (inr (v, o, h)) = bar-more S0 st.barred (λ q. meets q h0 h1 h2 h3 h4 h5) e k (inr (meets-true (get_or S0 k none_quad) v h0 h1 h2 h3 h4 h5 o h))

    -- a gain that is enough, by the valences
    enough : (a b c d : ℕ) → le_z (pos m) (gain_in st.quads a b c d) ≡ true → valence st.quads c + valence st.quads d + 2 + half_of m ≤ valence st.quads a + valence st.quads b
    enough a b c d g = leb-true _ _ (sym (gain-least (valence st.quads a) (valence st.quads b) (valence st.quads c) (valence st.quads d) m) ∙ g)

    take-one : may S0 labels m fits st.quads i j (hex h0 h1 h2 h3 h4 h5) 1 h0 h3 h1 h4 ≡ true → Step st (record { quads = swap_one st.quads i j h0 h1 h2 h3 h4 h5; barred = bars; count = suc st.count })
    unfolding bars
    take-one y = go (and3 _ _ _ y)
      where
        go : (not (is_edge S0 h1 h4) ≡ true) × (le_z (pos m) (gain_in st.quads h0 h3 h1 h4) ≡ true)
            × (fits st.quads i j (hex h0 h1 h2 h3 h4 h5) 1 (lt_z (pos 0) (gain_in st.quads h0 h3 h1 h4)) ≡ true)
            → Step st (record { quads = swap_one st.quads i j h0 h1 h2 h3 h4 h5; barred = bars; count = suc st.count })
        go (p, g, f) = record {
          counted = refl;
          lengths = λ e. bar-length S0 st.barred (λ q. meets q h0 h1 h2 h3 h4 h5) e;
          before = λ S' c e rest. one i j h0 h1 h2 h3 h4 h5 hexagon (no_edge S0 h1 h4 p) (enough h0 h3 h1 h4 g) (barred-more e) rest;
        }

    take-two : may S0 labels m fits st.quads i j (hex h0 h1 h2 h3 h4 h5) 2 h0 h3 h2 h5 ≡ true → Step st (record { quads = swap_two st.quads i j h0 h1 h2 h3 h4 h5; barred = bars; count = suc st.count })
    unfolding bars
    take-two y = go (and3 _ _ _ y)
      where
        go : (not (is_edge S0 h2 h5) ≡ true) × (le_z (pos m) (gain_in st.quads h0 h3 h2 h5) ≡ true)
            × (fits st.quads i j (hex h0 h1 h2 h3 h4 h5) 2 (lt_z (pos 0) (gain_in st.quads h0 h3 h2 h5)) ≡ true)
            → Step st (record { quads = swap_two st.quads i j h0 h1 h2 h3 h4 h5; barred = bars; count = suc st.count })
        go (p, g, f) = record {
          counted = refl;
          lengths = λ e. bar-length S0 st.barred (λ q. meets q h0 h1 h2 h3 h4 h5) e;
          before = λ S' c e rest. two i j h0 h1 h2 h3 h4 h5 hexagon (no_edge S0 h2 h5 p) (enough h0 h3 h2 h5 g) (barred-more e) rest;
        }

  swap_step : (st t : State) (i j ei ej : ℕ) (q r : Quad) → turn ei (get_or st.quads i none_quad) ≡ q → turn ej (get_or st.quads j none_quad) ≡ r → swap_quads S0 labels m fits st i j q r ≡ some t → Step st t
  unfolding bars
  swap_step st t i j ei ej (quad q0 q1 q2 q3) (quad r0 r1 r2 r3) eq er e = tested (cond-some {t = t} _ _ e)
    where
      bs : List Bool
      bs = bar_list S0 st.barred (λ q. meets q q0 r2 r3 q1 q2 q3)

      x1 : State
      x1 = record { quads = swap_one st.quads i j q0 r2 r3 q1 q2 q3; barred = bs; count = suc st.count }

      x2 : State
      x2 = record { quads = swap_two st.quads i j q0 r2 r3 q1 q2 q3; barred = bs; count = suc st.count }

      b1 : Bool
      b1 = may S0 labels m fits st.quads i j (hex q0 r2 r3 q1 q2 q3) 1 q0 q1 r2 q2

      b2 : Bool
      b2 = may S0 labels m fits st.quads i j (hex q0 r2 r3 q1 q2 q3) 2 q0 q1 r3 q3

      b3 : Bool
      b3 = lt_z (gain_in st.quads q0 q1 r2 q2) (gain_in st.quads q0 q1 r3 q3)

      tested : ((not (get_or st.barred i true) && not (get_or st.barred j true) && eqb (get_or labels i 8) (get_or labels j 8) && eqb r1 q0 && eqb r0 q1 && six_differ q0 r2 r3 q1 q2 q3) ≡ true) × (choose b1 b2 b3 x1 x2 ≡ some t) → Step st t
      tested (a, c) = parts (and6 _ _ _ _ _ _ a)
        where
          parts : (not (get_or st.barred i true) ≡ true) × (not (get_or st.barred j true) ≡ true) × (eqb (get_or labels i 8) (get_or labels j 8) ≡ true) × (eqb r1 q0 ≡ true) × (eqb r0 q1 ≡ true) × (six_differ q0 r2 r3 q1 q2 q3 ≡ true) → Step st t
          parts (fi, fj, la, o1, o2, sx) = chosen (choose-some b1 b2 b3 x1 x2 t c)
            where
              er' : turn ej (get_or st.quads j none_quad) ≡ quad q1 q0 r2 r3
              er' = er ∙ ap₂ (λ x y. quad x y r2 r3) (eqb-true r0 q1 o2) (eqb-true r1 q0 o1)

              chosen : ((b1 ≡ true) × (x1 ≡ t)) ⊎ ((b2 ≡ true) × (x2 ≡ t)) → Step st t
              chosen (inl (y, p)) = subst (λ u. Step st u) p (take-one st t i j ei ej q0 r2 r3 q1 q2 q3 eq er' fi fj (eqb-true _ _ la) (six-of q0 r2 r3 q1 q2 q3 sx) y)
              chosen (inr (y, p)) = subst (λ u. Step st u) p (take-two st t i j ei ej q0 r2 r3 q1 q2 q3 eq er' fi fj (eqb-true _ _ la) (six-of q0 r2 r3 q1 q2 q3 sx) y)

  try-step : (st t : State) (l : List Place) → try_places S0 labels m fits st l ≡ some t → Step st t
  try-step st t [] e = absurd (none-some e)
  try-step st t (x ∷ []) e = absurd (none-some e)
  try-step st t (x ∷ y ∷ []) e = swap_step st t x.quad_no y.quad_no x.side_no y.side_no _ _ refl refl e
  try-step st t (x ∷ y ∷ z ∷ l) e = absurd (none-some e)

  -- A sweep over edges is a pass of swaps.
  pub record Swept (st t : State) : Type 1 where
    pub swaps : ℕ
    pub counts : t.count ≡ st.count + swaps
    pub passed : Pass S0 labels (half_of m) st.quads (Barred st.barred) t.quads swaps

  pub sweep-pass : (l : List Pair) (st : State) → length st.barred ≡ length S0 → Swept st (sweep S0 labels m fits st l)
  sweep-pass [] st e = record { swaps = 0; counts = omega arith; passed = stop }
  sweep-pass (p ∷ l) st e = go (try_edge S0 labels m fits st p) refl (λ t. sweep-pass l t)
    where
      go : (o : Option State) → try_edge S0 labels m fits st p ≡ o → ((t : State) → length t.barred ≡ length S0 → Swept t (sweep S0 labels m fits t l)) → Swept st (sweep S0 labels m fits (take_or st o) l)
      go none q ih = ih st e
      go (some t) q ih = after (try-step st t (places p 0 S0) q)
        where
          after : Step st t → Swept st (sweep S0 labels m fits t l)
          after k = let h : Swept t (sweep S0 labels m fits t l) = ih t (k.lengths e) in record {
            swaps = suc h.swaps;
            counts = omega (arith, h.counts, k.counted);
            passed = k.before _ h.swaps e h.passed;
          }

  -- A sweep that swaps nothing met no edge that the rule takes, and changed nothing.
  sweep-none : (l : List Pair) (st : State) → length st.barred ≡ length S0 → (sweep S0 labels m fits st l).count ≡ st.count
      → (sweep S0 labels m fits st l ≡ st) × ((p : Pair) → Memᴰ p l → try_edge S0 labels m fits st p ≡ none)
  sweep-none [] st e c = (refl, (λ p h. absurd (Memᴰ.not-nil h)))
  sweep-none (p ∷ l) st e c = go (try_edge S0 labels m fits st p) refl c (sweep-none l st e)
    where
      go : (o : Option State) → try_edge S0 labels m fits st p ≡ o → (sweep S0 labels m fits (take_or st o) l).count ≡ st.count
          → ((sweep S0 labels m fits st l).count ≡ st.count → (sweep S0 labels m fits st l ≡ st) × ((p : Pair) → Memᴰ p l → try_edge S0 labels m fits st p ≡ none))
          → (sweep S0 labels m fits (take_or st o) l ≡ st) × ((r : Pair) → Memᴰ r (p ∷ l) → try_edge S0 labels m fits st r ≡ none)
      go none q c ih = ((ih c).0, (λ r h. mem r (Memᴰ.cases_cons h)))
        where
          mem : (r : Pair) → (r ≡ p) ⊎ Memᴰ r l → try_edge S0 labels m fits st r ≡ none
          mem r (inl i) = ap (try_edge S0 labels m fits st) i ∙ q
          mem r (inr i) = (ih c).1 r i
      go (some t) q c ih = absurd (omega (arith, c, (try-step st t (places p 0 S0) q).counted, (sweep-pass l t ((try-step st t (places p 0 S0) q).lengths e)).counts))

-- every edge is swept
join-has : {A : Type 0} (f : ℕ → List A) (n i : ℕ) (x : A) → i < n → Memᴰ x (f i) → Memᴰ x (join_to f n)
unfolding join_to
join-has f zero i x l h = absurd (omega arith)
join-has f (suc n) i x l h = go (ℕ_discrete i n) (join-has f n i x)
  where
    go : Dec (i ≡ n) → (i < n → Memᴰ x (f i) → Memᴰ x (join_to f n)) → Memᴰ x (join_to f n ++ f n)
    go (yes e) ih = Memᴰ.append_right (join_to f n) (subst (λ k. Memᴰ x (f k)) e h)
    go (no e) ih = Memᴰ.append_left (f n) (ih (omega arith) h)

pub edges-has : (n : ℕ) (S : List Quad) (a b : ℕ) → a < b → b < n → 0 < side S a b + side S b a → Memᴰ (pair a b) (edges_of n S)
unfolding edges_of
edges-has n S a b ab bn h =
    join-has (edges_from n S) n a (pair a b) (omega arith) (join-has (edge_if S a) n b (pair a b) bn (go (leb a b) (is_edge S a b) (le-leb a b (omega arith)) (lt-ltb 0 _ h)))
  where
    go : (x y : Bool) → x ≡ true → y ≡ true → Memᴰ (pair a b) (cons_if (x && y) (pair a b) [])
    go true true p q = Memᴰ.head refl
    go true false p q = absurd (true≢false (sym q))
    go false y p q = absurd (true≢false (sym p))

-- The passes of a call.
module _ (n : ℕ) (labels : List ℕ) (m : ℕ) (fits : Fits) where
  pub pass-made : (S : List Quad) → Pass S labels (half_of m) S (Barred (replicate (length S) false)) (swap_pass n labels m fits S).quads (swap_pass n labels m fits S).count
  unfolding swap_pass
  pass-made S = go (sweep-pass S labels m fits (edges_of n S) (fresh S) (length-replicate (length S) false))
    where
      go : Swept S labels m fits (fresh S) (sweep S labels m fits (fresh S) (edges_of n S)) → Pass S labels (half_of m) S (Barred (replicate (length S) false)) (sweep S labels m fits (fresh S) (edges_of n S)).quads (sweep S labels m fits (fresh S) (edges_of n S)).count
      go h = subst (λ c. Pass S labels (half_of m) S (Barred (replicate (length S) false)) (sweep S labels m fits (fresh S) (edges_of n S)).quads c) (omega (arith, h.counts)) h.passed

  -- A pass without a swap changes nothing and leaves none.
  pub pass-none : (S : List Quad) → (swap_pass n labels m fits S).count ≡ 0 → ((swap_pass n labels m fits S).quads ≡ S) × NoSwap n labels m fits S
  unfolding swap_pass NoSwap
  pass-none S c = go (sweep-none S labels m fits (edges_of n S) (fresh S) (length-replicate (length S) false) c)
    where
      go : (sweep S labels m fits (fresh S) (edges_of n S) ≡ fresh S) × ((p : Pair) → Memᴰ p (edges_of n S) → try_edge S labels m fits (fresh S) p ≡ none)
          → ((sweep S labels m fits (fresh S) (edges_of n S)).quads ≡ S) × ((a b : ℕ) → a < b → b < n → 0 < side S a b + side S b a → try_edge S labels m fits (fresh S) (pair a b) ≡ none)
      go (e, f) = (ap (λ t. t.quads) e, (λ a b ab bn h. f (pair a b) (edges-has n S a b ab bn h)))

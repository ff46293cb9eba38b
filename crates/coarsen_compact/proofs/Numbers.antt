-- Points numbered by first use, corner by corner. Assumes nothing.
use Prim.Native.Nat.{ℕ, zero, suc, ◌+◌, ◌-◌, ◌≤◌, ◌<◌, zero-le}
use mathlib.Core.Path.{◌≡◌, refl, sym, ap, ◌∙◌}
use mathlib.Core.Bool.{Bool, true, false, cond}
use mathlib.Core.Logic.{◌⊎◌, inl, inr, ⊎_elim}
use mathlib.Core.List.{List, [], ◌∷◌, ◌++◌}
use native.Mathlib.Omega.{arith}
use native.Mathlib.Numerals.{add-one}
use lib.Dec.{eqb}
use lib.ListN.{length, get_or, set, length-append, length-map, replicate}
use lib.Ieee.{Float}
use borrow.Author.Tests.{eq-eqb, ne_eqb}
use Rattle.lists.specs.Sort.{tabulate}
use Rattle.lists.specs.Regions.{Part, Out, Kept}
use Rattle.lists.proofs.Laws.{eq-or-ne, lt-or-le, get_or-tab, tab-ext, tab-set, tab-same, always, Filled, filled-start, filled-turn, filled-rest}
use Rattle.lists.proofs.Regions.{part-get, part-set, part-as, kept_refl, kept_set}
use Rattle.points.specs.Points.{point_at}
use Rattle.points.specs.Steps.{with_point}
use Rattle.rule_sheet.specs.Quads.{num, is, sum}
use Rattle.rule_sheet.specs.FirstUse.{firsts, place}
use Rattle.rule_sheet.specs.Sheet.{flat_points}
use Rattle.rule_sheet.proofs.FirstUse.{is_same, is-other, place_in, place-new, firsts-new, firsts-old, used-zero}
use Rattle.rule_sheet.proofs.FirstUse as first-use
use Rattle.rule_sheet.proofs.Sums.{upto, sum-append}
use Rattle.sheet.specs.Results.{Front}
use Rattle.sheet.proofs.Fronts.{front-none, front-point, length-with}
use Rattle.rule_coarsen.proofs.Renumber.{OnceEach, firsts-apart, firsts-some, sum-by-point}
use Rattle.coarsen_compact.specs.Compact.{used_in, number_in, points_in, Meeting, Numbering}
use Rattle.lists.specs.Steps.{nth}

-- ---- the points in use

module _ (Q : List ℕ) where
  used-none : used_in Q 0 ≡ []
  unfolding used_in
  used-none = used-zero (nth Q)

  used-suc : (n : ℕ) → used_in Q (n + 1) ≡ firsts (used_in Q n) (get_or Q n 0 ∷ [])
  unfolding used_in
  used-suc n = rw (add-one n) (first-use.used-suc (nth Q) n)

  used-new : (n : ℕ) → sum (is (get_or Q n 0)) (used_in Q n) ≡ 0 → used_in Q (n + 1) ≡ used_in Q n ++ (get_or Q n 0 ∷ [])
  used-new n e = used-suc n ∙ firsts-new (get_or Q n 0) (used_in Q n) e

  used-old : (n : ℕ) → 0 < sum (is (get_or Q n 0)) (used_in Q n) → used_in Q (n + 1) ≡ used_in Q n
  used-old n h = used-suc n ∙ firsts-old (get_or Q n 0) (used_in Q n) h

  -- either no number is given to the point of corner n so far, or one is
  abbrev Seen : ℕ → Type 0
  Seen n = (sum (is (get_or Q n 0)) (used_in Q n) ≡ 0) ⊎ (0 < sum (is (get_or Q n 0)) (used_in Q n))

  seen : (n : ℕ) → Seen n
  seen n = ⊎_elim (λ (h : 0 < sum (is (get_or Q n 0)) (used_in Q n)). inr h) (λ (h : sum (is (get_or Q n 0)) (used_in Q n) ≤ 0). inl (omega arith)) (lt-or-le 0 (sum (is (get_or Q n 0)) (used_in Q n)))

  -- a point in use stays, at its place
  stays-next : (x n : ℕ) → 0 < sum (is x) (used_in Q n) → (0 < sum (is x) (used_in Q (n + 1))) × (place x (used_in Q (n + 1)) ≡ place x (used_in Q n))
  stays-next x n h = ⊎_elim
      (λ (e : sum (is (get_or Q n 0)) (used_in Q n) ≡ 0).
      rw (used-new n e) (omega (arith, sum-append (is x) (used_in Q n) (get_or Q n 0 ∷ [])), place_in x (used_in Q n) (get_or Q n 0 ∷ []) h))
      (λ (k : 0 < sum (is (get_or Q n 0)) (used_in Q n)). rw (used-old n k) (h, refl))
      (seen n)

  stays : (x n k : ℕ) → 0 < sum (is x) (used_in Q n) → (0 < sum (is x) (used_in Q (n + k))) × (place x (used_in Q (n + k)) ≡ place x (used_in Q n))
  stays x n zero h = let z : n + 0 ≡ n = omega arith in rw z (h, refl)
  stays x n (suc k) h =
      let z : n + suc k ≡ n + k + 1 = omega arith in
      let t = stays x n k h in
      let s = stays-next x (n + k) t.0 in
      rw z (s.0, s.1 ∙ t.1)

  -- the point of a corner is in use after it
  used-here : (n : ℕ) → 0 < sum (is (get_or Q n 0)) (used_in Q (n + 1))
  used-here n = ⊎_elim
      (λ (e : sum (is (get_or Q n 0)) (used_in Q n) ≡ 0). rw (used-new n e) (omega (arith, sum-append (is (get_or Q n 0)) (used_in Q n) (get_or Q n 0 ∷ []), is_same (get_or Q n 0) (get_or Q n 0) refl)))
      (λ (k : 0 < sum (is (get_or Q n 0)) (used_in Q n)). rw (used-old n k) k)
      (seen n)

  -- its number is that after all m corners
  number_is : (m n : ℕ) → n < m → place (get_or Q n 0) (used_in Q (n + 1)) ≡ number_in Q m n
  number_is m n h = let e : n + 1 + (m - (n + 1)) ≡ m = omega arith in sym (rw e at (stays (get_or Q n 0) (n + 1) (m - (n + 1)) (used-here n)).1)

-- ---- different numbers below a bound are few

sum_below : (np : ℕ) (f : ℕ → ℕ) (n x : ℕ) → ((i : ℕ) → i < n → f i < np) → 0 < sum (is x) (tabulate f n) → x < np
unfolding tabulate
sum_below np f zero x b h = absurd (omega arith)
sum_below np f (suc n) x b h = ⊎_elim
    (λ (e : x ≡ f n). rw e (b n (omega arith)))
    (λ (ne : x ≡ f n → ⊥). sum_below np f n x (λ i l. b i (omega arith)) (omega (arith, sum-append (is x) (tabulate f n) (f n ∷ []), is-other x (f n) ne)))
    (eq-or-ne x (f n))

sum_ones : (l : List ℕ) → sum (λ x. 1) l ≡ length l
sum_ones [] = refl
sum_ones (x ∷ l) = omega (arith, sum_ones l)

sum_is : (v : ℕ) (l : List ℕ) → sum (λ x. cond (eqb v x) 1 0) l ≡ sum (is v) l
sum_is v [] = refl
sum_is v (x ∷ l) = omega (arith, sum_is v l, pick (eqb v x))
  where
    pick : (b : Bool) → cond b 1 0 ≡ num b
    pick true = refl
    pick false = refl

upto-ones : (n : ℕ) (f : ℕ → ℕ) → ((v : ℕ) → f v ≤ 1) → upto n f ≤ n
upto-ones zero f h = zero-le
upto-ones (suc n) f h = omega (arith, h n, upto-ones n f h)

few-apart : (n : ℕ) (l : List ℕ) → OnceEach l → ((x : ℕ) → 0 < sum (is x) l → x < n) → length l ≤ n
unfolding OnceEach
few-apart n l a b =
    let e = sum-by-point n (λ x. 1) l b in
    let u = upto-ones n (λ v. sum (λ x. cond (eqb v x) 1 0) l) (λ v. omega (arith, sum_is v l, a v)) in
    omega (arith, sum_ones l)

-- the points in use are below np where the corners are, and there are no more of them
pub used-below : (np n : ℕ) (Q : List ℕ) → ((i : ℕ) → i < n → get_or Q i 0 < np) → (x : ℕ) → 0 < sum (is x) (used_in Q n) → x < np
unfolding used_in
used-below np n Q b x h = sum_below np (nth Q) n x b (omega (arith, (firsts-some x (tabulate (nth Q) n) []).0 h))

pub used-few : (np n : ℕ) (Q : List ℕ) → ((i : ℕ) → i < n → get_or Q i 0 < np) → length (used_in Q n) ≤ np
unfolding used_in OnceEach
used-few np n Q b = few-apart np (used_in Q n) (firsts-apart (tabulate (nth Q) n) [] (λ x. zero-le)) (used-below np n Q b)

-- ---- the numbers in a region: one more than the number, 0 where none is given

abbrev pub mark_of : List ℕ → ℕ → ℕ
mark_of U v = cond (eqb (sum (is v) U) 0) 0 (suc (place v U))

mark-none : (U : List ℕ) (v : ℕ) → sum (is v) U ≡ 0 → mark_of U v ≡ 0
mark-none U v e = rw (eq-eqb (sum (is v) U) 0 e)

mark-some : (U : List ℕ) (v : ℕ) → 0 < sum (is v) U → mark_of U v ≡ suc (place v U)
mark-some U v h = rw (ne_eqb (sum (is v) U) 0 (λ e. omega arith))

marks-start : (np : ℕ) → replicate np 0 ≡ tabulate (mark_of []) np
marks-start np = sym (tab-same 0 np) ∙ tab-ext (always 0) (mark_of []) np (λ v h. refl)

marks-new : (np v : ℕ) (U : List ℕ) → v < np → sum (is v) U ≡ 0 → set (tabulate (mark_of U) np) v (length U + 1) ≡ tabulate (mark_of (U ++ (v ∷ []))) np
marks-new np v U h e = tab-set (mark_of U) (mark_of (U ++ (v ∷ []))) np v (length U + 1) h
    (mark-some (U ++ (v ∷ [])) v (omega (arith, sum-append (is v) U (v ∷ []), is_same v v refl)) ∙ rw (place-new v U e) (sym (add-one (length U))))
    (λ j b ne. other j ne (⊎_elim (λ (k : 0 < sum (is j) U). inr k) (λ (k : sum (is j) U ≤ 0). inl (omega arith)) (lt-or-le 0 (sum (is j) U))))
  where
    other : (j : ℕ) → (j ≡ v → ⊥) → (sum (is j) U ≡ 0) ⊎ (0 < sum (is j) U) → mark_of (U ++ (v ∷ [])) j ≡ mark_of U j
    other j ne (inl z) = mark-none (U ++ (v ∷ [])) j (omega (arith, sum-append (is j) U (v ∷ []), is-other j v ne)) ∙ sym (mark-none U j z)
    other j ne (inr k) = mark-some (U ++ (v ∷ [])) j (omega (arith, sum-append (is j) U (v ∷ []))) ∙ rw (place_in j U (v ∷ []) k) (sym (mark-some U j k))

-- ---- the loop

-- the points of the first c corners have their numbers: in w, of which u is the start, and as points in h, which is as long as g
pub record Given (np m : ℕ) (P : List Float) (Q : List ℕ) (numbers : ℕ) (u : List ℕ) (g : List Float) (w : List ℕ) (h : List Float) (used c : ℕ) : Type 0 where
  pub asked : Numbering np m (length P) Q numbers u (length g)
  pub used_is : used ≡ length (used_in Q c)
  pub marks : Part numbers np (tabulate (mark_of (used_in Q c)) np) w
  pub kept : Kept (Out numbers np) u w
  pub len : length h ≡ length g
  pub front : Front (flat_points (points_in P (used_in Q c))) h

given-start : {np m : ℕ} (P : List Float) {Q : List ℕ} {numbers : ℕ} {u : List ℕ} (g : List Float) → Numbering np m (length P) Q numbers u (length g) → Given np m P Q numbers u g u g 0 0
unfolding flat_points
given-start {np} {m} P {Q} {numbers} {u} g N = record {
  asked = N;
  used_is = rw (used-none Q);
  marks = part-as N.none (marks-start np ∙ rw (used-none Q));
  kept = kept_refl (Out numbers np) u;
  len = refl;
  front = rw (used-none Q) (front-none g);
}

module _ {np m : ℕ} {P : List Float} {Q : List ℕ} {numbers : ℕ} {u : List ℕ} {g : List Float} {w : List ℕ} {h : List Float} {used c : ℕ} (G : Given np m P Q numbers u g w h used c) (l : c < m) where
  point-below : get_or Q c 0 < np
  point-below = G.asked.points c l

  mark-is : get_or w (numbers + get_or Q c 0) 0 ≡ mark_of (used_in Q c) (get_or Q c 0)
  mark-is = part-get 0 (get_or Q c 0) G.marks point-below ∙ get_or-tab (mark_of (used_in Q c)) np (get_or Q c 0) 0 point-below

  -- what the point of corner c asks
  given-meets : Meeting np (length P) (get_or Q c 0) used numbers w (length h)
  given-meets = record {
    few = G.asked.few;
    known = point-below;
    held = G.asked.held;
    floats = omega (arith, G.asked.floats, G.len);
    in_numbers = G.marks.fits;
    new = λ z. ⊎_elim
        (λ (e : sum (is (get_or Q c 0)) (used_in Q c) ≡ 0).
        let f = used-few np (c + 1) Q (λ i b. G.asked.points i (omega arith)) in
        let n : length (used_in Q (c + 1)) ≡ length (used_in Q c) + 1 = ap length (used-new Q c e) ∙ length-append (used_in Q c) (get_or Q c 0 ∷ []) in
        omega (arith, G.used_is))
        (λ (k : 0 < sum (is (get_or Q c 0)) (used_in Q c)). absurd (omega (arith, mark-is, mark-some (used_in Q c) (get_or Q c 0) k)))
        (seen Q c);
  }

  -- the point gets the next number
  given-new : sum (is (get_or Q c 0)) (used_in Q c) ≡ 0 → Given np m P Q numbers u g (set w (numbers + get_or Q c 0) (used + 1)) (with_point h used (point_at P (get_or Q c 0))) (used + 1) (c + 1)
  given-new e =
      let v = get_or Q c 0 in
      let U = used_in Q c in
      let b : used < np = given-meets.new (mark-is ∙ mark-none U v e) in
      let n : length (U ++ (v ∷ [])) ≡ length U + 1 = length-append U (v ∷ []) in
      let f : points_in P (U ++ (v ∷ [])) ≡ points_in P U ++ (point_at P v ∷ []) = map_snoc U v in
      let k : used ≡ length (points_in P U) = G.used_is ∙ sym (length-map U (point_at P)) in
      record {
        asked = G.asked;
        used_is = rw (used-new Q c e) (omega (arith, G.used_is));
        marks = rw (used-new Q c e) (part-as (part-set v (used + 1) G.marks point-below) (rw G.used_is (marks-new np v U point-below e)));
        kept = kept_set (numbers + v) (used + 1) G.kept (λ o. o (omega arith) (omega (arith, point-below)));
        len = length-with h used (point_at P v) ∙ G.len;
        front = rw (used-new Q c e, f) (front-point (points_in P U) used (point_at P v) G.front k (omega (arith, G.asked.floats, G.len)));
      }
    where
      map_snoc : (l : List ℕ) (v : ℕ) → points_in P (l ++ (v ∷ [])) ≡ points_in P l ++ (point_at P v ∷ [])
      map_snoc [] v = refl
      map_snoc (x ∷ l) v = rw (map_snoc l v)

  -- the point has its number
  given-old : 0 < sum (is (get_or Q c 0)) (used_in Q c) → Given np m P Q numbers u g w h used (c + 1)
  given-old k = record {
    asked = G.asked;
    used_is = rw (used-old Q c k) G.used_is;
    marks = rw (used-old Q c k) G.marks;
    kept = G.kept;
    len = G.len;
    front = rw (used-old Q c k) G.front;
  }

  given-next : {used' : ℕ} {w' : List ℕ} {h' : List Float} → used' ≡ cond (eqb (get_or w (numbers + get_or Q c 0) 0) 0) (used + 1) used
      → w' ≡ cond (eqb (get_or w (numbers + get_or Q c 0) 0) 0) (set w (numbers + get_or Q c 0) (used + 1)) w
      → h' ≡ cond (eqb (get_or w (numbers + get_or Q c 0) 0) 0) (with_point h used (point_at P (get_or Q c 0))) h → Given np m P Q numbers u g w' h' used' (c + 1)
  given-next a b d = ⊎_elim
      (λ (e : sum (is (get_or Q c 0)) (used_in Q c) ≡ 0). let z = eq-eqb _ 0 (mark-is ∙ mark-none (used_in Q c) (get_or Q c 0) e) in rw (a, b, d, z) (given-new e))
      (λ (k : 0 < sum (is (get_or Q c 0)) (used_in Q c)). let z = ne_eqb (get_or w (numbers + get_or Q c 0) 0) 0 (λ y. omega (arith, mark-is, mark-some (used_in Q c) (get_or Q c 0) k)) in rw (a, b, d, z) (given-old k))
      (seen Q c)

-- the first c corners have the numbers of their points
pub record NumberLoop (np m : ℕ) (P : List Float) (Q : List ℕ) (numbers : ℕ) (u : List ℕ) (g : List Float) (s w : List ℕ) (h : List Float) (used c : ℕ) : Type 0 where
  pub filled : Filled (number_in Q m) Q m s c
  pub given : Given np m P Q numbers u g w h used c

pub number-start : {np m : ℕ} (P : List Float) {Q : List ℕ} {numbers : ℕ} {u : List ℕ} (g : List Float) → Numbering np m (length P) Q numbers u (length g) → NumberLoop np m P Q numbers u g Q u g 0 0
number-start {np} {m} P {Q} g N = record { filled = filled-start (number_in Q m) Q m N.fits; given = given-start P g N }

module _ {np m : ℕ} {P : List Float} {Q : List ℕ} {numbers : ℕ} {u : List ℕ} {g : List Float} {s w : List ℕ} {h : List Float} {used c : ℕ} (L : NumberLoop np m P Q numbers u g s w h used c) where
  -- the point of corner c is still the one that came
  corner-is : get_or s c 0 ≡ get_or Q c 0
  corner-is = filled-rest c 0 L.filled (omega arith)

  pub number-meets : c < m → Meeting np (length P) (get_or s c 0) used numbers w (length h)
  number-meets l = rw corner-is (given-meets L.given l)

  -- what the turn needs once the point of corner c has its number
  pub record NumberTurn (used' : ℕ) (w' : List ℕ) (h' : List Float) : Type 0 where
    pub at< : numbers + get_or s c 0 < length w'
    pub room : numbers + np ≤ length w'
    pub some : 0 < get_or w' (numbers + get_or s c 0) 0
    pub again : NumberLoop np m P Q numbers u g (set s c (get_or w' (numbers + get_or s c 0) 0 - 1)) w' h' used' (c + 1)

  pub number-turn : {used' : ℕ} {w' : List ℕ} {h' : List Float} → c < m → used' ≡ cond (eqb (get_or w (numbers + get_or s c 0) 0) 0) (used + 1) used
      → w' ≡ cond (eqb (get_or w (numbers + get_or s c 0) 0) 0) (set w (numbers + get_or s c 0) (used + 1)) w
      → h' ≡ cond (eqb (get_or w (numbers + get_or s c 0) 0) 0) (with_point h used (point_at P (get_or s c 0))) h → NumberTurn used' w' h'
  number-turn {used'} {w'} {h'} l a b d =
      let e = corner-is in
      let G = given-next L.given l (rw e at a) (rw e at b) (rw e at d) in
      let below = point-below L.given l in
      let mark : get_or w' (numbers + get_or Q c 0) 0 ≡ suc (number_in Q m c) =
      part-get 0 (get_or Q c 0) G.marks below ∙ get_or-tab (mark_of (used_in Q (c + 1))) np (get_or Q c 0) 0 below
      ∙ mark-some (used_in Q (c + 1)) (get_or Q c 0) (used-here Q c) ∙ ap suc (number_is Q m c l) in
      record {
        at< = rw e (omega (arith, G.marks.fits));
        room = G.marks.fits;
        some = rw e (omega arith);
        again = record { filled = rw e (filled-turn _ L.filled l (omega arith)); given = G };
      }

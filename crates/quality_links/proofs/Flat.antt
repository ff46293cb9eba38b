-- The sums over the corners of a point in a flat list are those of its link, and the test of their ends is that of its points. Assumes nothing.
use Prim.Native.Nat.{ℕ, zero, suc, ◌+◌, ◌*◌, ◌≤◌, ◌<◌}
use mathlib.Core.Path.{◌≡◌, refl, sym, ap, ◌∙◌}
use mathlib.Core.Bool.{true, cond, ◌&&◌, or-true}
use mathlib.Core.Logic.{⊎_elim}
use mathlib.Core.List.{List}
use native.Mathlib.Omega.{arith}
use lib.Dec.{eqb}
use lib.ListN.{length, get_or}
use borrow.Author.Tests.{eq-eqb, eqb-true}
use Rattle.lists.specs.Every.{every}
use Rattle.lists.specs.Sort.{itself}
use Rattle.lists.proofs.Laws.{eq-or-ne, lt-or-le}
use Rattle.lists.proofs.Every.{and_left, and_right, bool_iff, every-at, every-each}
use Rattle.lists.proofs.Regions.{element_of, tab-own}
use Rattle.rule_sheet.specs.Quads.{is, sum, all, at}
use Rattle.rule_sheet.specs.Closed.{at_point}
use Rattle.sheet.specs.Flat.{from, before, to}
use Rattle.rule_sheet.specs.Flat.{quads_of}
use Rattle.sheet.specs.Edges.{all_corners, point_corners}
use Rattle.rule_sheet.specs.Tests.{proper}
use Rattle.rule_sheet.proofs.Sums.{upto, sum-tab}
use Rattle.sheet.proofs.Flat.{total-flat}
use Rattle.rule_quality.specs.Census.{degree, none_or_two}
use Rattle.edges.proofs.Corners.{is_same, is_positive, pos-split}
use Rattle.edges.proofs.Sides.{bucket-sum}
use Rattle.quality_links.specs.Links.{joins_to, two_at}
use Rattle.quality_links.proofs.Rounds.{touch, twos}

-- ---- sums

joins-upto : (Q cs : List ℕ) (g : ℕ → ℕ → ℕ) (i : ℕ) → joins_to Q cs g i ≡ upto i (λ k. g (before Q (get_or cs k 0)) (to Q (get_or cs k 0)))
unfolding joins_to
joins-upto Q cs g zero = refl
joins-upto Q cs g (suc i) = omega (arith, joins-upto Q cs g i)

-- the corners of point v join what its link joins
pub joins-link : (Q : List ℕ) (nq v : ℕ) (g : ℕ → ℕ → ℕ) → joins_to Q (point_corners Q nq v) g (length (point_corners Q nq v)) ≡ at_point (quads_of nq Q) v g
joins-link Q nq v g =
    let cs = point_corners Q nq v in
    let f : ℕ → ℕ = λ c. g (before Q c) (to Q c) in
    joins-upto Q cs g (length cs)
    ∙ sym (sum-tab f (element_of 0 cs) (length cs))
    ∙ ap (sum f) (tab-own 0 cs (length cs) refl)
    ∙ bucket-sum f (from Q) v (all_corners nq)
    ∙ sum-tab (λ c. cond (eqb (from Q c) v) (f c) 0) itself (4 * nq)
    ∙ sym (total-flat (at v g) Q nq)

-- a corner's weight is in the sum
pub joins_at : (Q cs : List ℕ) (g : ℕ → ℕ → ℕ) (n i : ℕ) → i < n → g (before Q (get_or cs i 0)) (to Q (get_or cs i 0)) ≤ joins_to Q cs g n
unfolding joins_to
joins_at Q cs g zero i h = absurd (omega arith)
joins_at Q cs g (suc n) i h = ⊎_elim
    (λ (e : i ≡ n). rw e (omega arith))
    (λ (ne : i ≡ n → ⊥). omega (arith, joins_at Q cs g n i (omega arith)))
    (eq-or-ne i n)

-- a corner whose weight is more than 0
record Heavy (Q cs : List ℕ) (g : ℕ → ℕ → ℕ) (n : ℕ) : Type 0 where
  i : ℕ
  i< : i < n
  more : 0 < g (before Q (get_or cs i 0)) (to Q (get_or cs i 0))

heavy : (Q cs : List ℕ) (g : ℕ → ℕ → ℕ) (n : ℕ) → 0 < joins_to Q cs g n → Heavy Q cs g n
unfolding joins_to
heavy Q cs g zero h = absurd (omega arith)
heavy Q cs g (suc n) h = ⊎_elim
    (λ (a : 0 < joins_to Q cs g n). let H = heavy Q cs g n a in record { i = H.i; i< = omega (arith, H.i<); more = H.more })
    (λ (a : 0 < g (before Q (get_or cs n 0)) (to Q (get_or cs n 0))). record { i = n; i< = omega arith; more = a })
    (pos-split (joins_to Q cs g n) (g (before Q (get_or cs n 0)) (to Q (get_or cs n 0))) h)

-- ---- the test

-- the counts at deg are those of the link of v, and so are the sums over the m corners cs
pub record Counts (np nq : ℕ) (Q cs : List ℕ) (v m deg : ℕ) (w : List ℕ) : Type 0 where
  pub good : all (proper np) (quads_of nq Q) ≡ true
  pub before< : (i : ℕ) → i < m → before Q (get_or cs i 0) < np
  pub after< : (i : ℕ) → i < m → to Q (get_or cs i 0) < np
  pub sums : (g : ℕ → ℕ → ℕ) → joins_to Q cs g m ≡ at_point (quads_of nq Q) v g
  pub degrees : (x : ℕ) → x < np → get_or w (deg + x) 0 ≡ degree (quads_of nq Q) v x

module _ {np nq : ℕ} {Q cs : List ℕ} {v m deg : ℕ} {w : List ℕ} (C : Counts np nq Q cs v m deg w) where
  -- both ends of each corner have two joins exactly if each point has none or two
  pub two-test : every (two_at Q deg w cs) m ≡ every (none_or_two (quads_of nq Q) v) np
  two-test = bool_iff (every (two_at Q deg w cs) m) (every (none_or_two (quads_of nq Q) v) np)
      (λ t. every-each (none_or_two (quads_of nq Q) v) np (λ x h. ⊎_elim
      (λ (k : 0 < degree (quads_of nq Q) v x). let e = two-there t x h k in rw (eq-eqb (degree (quads_of nq Q) v x) 2 e) (or-true (eqb (degree (quads_of nq Q) v x) 0)))
      (λ (k : degree (quads_of nq Q) v x ≤ 0). let e : degree (quads_of nq Q) v x ≡ 0 = omega arith in rw (eq-eqb (degree (quads_of nq Q) v x) 0 e))
      (lt-or-le 0 (degree (quads_of nq Q) v x))))
      (λ t. every-each (two_at Q deg w cs) m (λ i h.
      let p = before Q (get_or cs i 0) in
      let n = to Q (get_or cs i 0) in
      let dp : degree (quads_of nq Q) v p ≡ 2 = twos np (quads_of nq Q) C.good v t p (omega (arith, C.sums (touch p), joins_at Q cs (touch p) m i h, is_same p)) in
      let dn : degree (quads_of nq Q) v n ≡ 2 = twos np (quads_of nq Q) C.good v t n (omega (arith, C.sums (touch n), joins_at Q cs (touch n) m i h, is_same n)) in
      both (get_or w (deg + p) 0) (get_or w (deg + n) 0) (C.degrees p (C.before< i h) ∙ dp) (C.degrees n (C.after< i h) ∙ dn)))
    where
      both : (a b : ℕ) → a ≡ 2 → b ≡ 2 → (eqb a 2 && eqb b 2) ≡ true
      both a b e f = rw (e, f) refl

      two-there : every (two_at Q deg w cs) m ≡ true → (x : ℕ) → x < np → 0 < degree (quads_of nq Q) v x → degree (quads_of nq Q) v x ≡ 2
      two-there t x h k =
          let H = heavy Q cs (touch x) m (omega (arith, C.sums (touch x))) in
          let c = get_or cs H.i 0 in
          let b = every-at (two_at Q deg w cs) m H.i t H.i< in
          let f = eqb-true _ 2 (and_left (eqb (get_or w (deg + before Q c) 0) 2) (eqb (get_or w (deg + to Q c) 0) 2) b) in
          let g = eqb-true _ 2 (and_right (eqb (get_or w (deg + before Q c) 0) 2) (eqb (get_or w (deg + to Q c) 0) 2) b) in
          sym (C.degrees x h) ∙ ⊎_elim
          (λ (q : 0 < is x (before Q c)). let e = is_positive x (before Q c) q in rw e f)
          (λ (q : 0 < is x (to Q c)). let e = is_positive x (to Q c) q in rw e g)
          (pos-split (is x (before Q c)) (is x (to Q c)) H.more)

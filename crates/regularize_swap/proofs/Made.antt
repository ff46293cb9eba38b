-- What a swap leaves in the slices: the rule's quads, their valences, and the rule's barred quads. Assumes nothing.
use Prim.Native.Nat.{ℕ, ◌+◌, ◌*◌, ◌≤◌, ◌<◌}
use mathlib.Core.Path.{◌≡◌, refl, sym, ap, ap₂, ◌∙◌}
use mathlib.Core.Bool.{Bool}
use mathlib.Core.Logic.{⊎_elim, ◌≢◌}
use mathlib.Core.List.{List}
use native.Mathlib.Omega.{arith}
use lib.ListN.{length, get_or, set, length-set}
use lib.Seq.{get_or-set_same, get_or-set_other}
use Rattle.lists.specs.Sort.{tabulate}
use Rattle.lists.specs.Regions.{part, Part, Out, Kept}
use Rattle.lists.proofs.Laws.{eq-or-ne, get_or-tab, length-tab, tab-set, tab-ext, is-tab}
use Rattle.lists.proofs.Regions.{part-as, part-kept, kept_then}
use Rattle.rule_sheet.specs.Quads.{Quad, quad, corners, total, valence}
use Rattle.rule_sheet.specs.Flat.{quad_at, quads_of}
use Rattle.rule_sheet.specs.Claims.{All, Differ}
use Rattle.rule_sheet.specs.Lent.{limit}
use Rattle.rule_sheet.proofs.Bound.{valence-le}
use Rattle.sheet.specs.Flat.{with_quad}
use Rattle.sheet.proofs.Flat.{length-quads}
use Rattle.incidence.specs.Corners.{Cornered}
use Rattle.incidence.specs.Bounds.{Bounded}
use Rattle.incidence.proofs.Bounds.{bounded-kept}
use Rattle.rule_passes.specs.Choices.{none_quad}
use Rattle.rule_regularize.specs.Swaps.{bar_list}
use Rattle.rule_regularize.proofs.Passes.{Six}
use Rattle.rule_regularize.proofs.Surgery.{Exchange, at_a, at_b, at_c, at_d, at_other}
use Rattle.rule_regularize.proofs.Swap.{exchange-one, exchange-two}
use Rattle.rule_regularize.proofs.SwapPass.{two-quads, one-differ, two-differ}
use Rattle.rule_regularize.proofs.Sweep.{six-of}
use Rattle.regularize_shapes.specs.declared.Six as six
use Rattle.regularize_shapes.specs.declared.Diagonal.{Diagonal}
use Rattle.regularize_shapes.specs.declared.Diagonal.TheVariants.{First, Second}
use Rattle.regularize_shapes.specs.SwapFits.{SixBelow, turned}
use Rattle.regularize_shapes.proofs.SwapFits.{quad-there, turned-below}
use Rattle.pass_map.specs.Regions.{valences_at, was_in}
use Rattle.regularize_swap.specs.Regions.{marks_in, marks_at, is_barred, bars_of}
use Rattle.pass_map.specs.Conditions.{MapHolds}
use Rattle.regularize_swap.specs.Conditions.{SwapPassHolds, MoveValencesAsks, MakeSwapAsks, MakeSwapLeaves}
use Rattle.regularize_swap.specs.Steps.{with_pair, less, more, moved, mark_if, uses_six, swap_by, meets_six}
use Rattle.regularize_swap.proofs.Moves.{second_is, third-is, last_is}
use Rattle.pass_map.proofs.Maps.{map-kept, was-kept}
use Rattle.regularize_swap.proofs.Bars.{OnlyMarks, Marked, marks-kept, bars-are}

-- ---- the quads

module _ (Q : List ℕ) (q a b c d : ℕ) where
  abbrev one : List ℕ
  one = set Q (4 * q) a

  abbrev two : List ℕ
  two = set one (4 * q + 1) b

  abbrev three : List ℕ
  three = set two (4 * q + 2) c

  put_other : (m : ℕ) → (m ≡ 4 * q → ⊥) → (m ≡ 4 * q + 1 → ⊥) → (m ≡ 4 * q + 2 → ⊥) → (m ≡ 4 * q + 3 → ⊥) → get_or (with_quad Q q (quad a b c d)) m 0 ≡ get_or Q m 0
  put_other m n0 n1 n2 n3 =
      get_or-set_other three (4 * q + 3) m d 0 n3 ∙ get_or-set_other two (4 * q + 2) m c 0 n2 ∙ get_or-set_other one (4 * q + 1) m b 0 n1 ∙ get_or-set_other Q (4 * q) m a 0 n0

  other-quad : (j : ℕ) → (j ≡ q → ⊥) → quad_at (with_quad Q q (quad a b c d)) j ≡ quad_at Q j
  other-quad j n = rw (
    put_other (4 * j + 0) (λ e. n (omega arith)) (λ e. n (omega arith)) (λ e. n (omega arith)) (λ e. n (omega arith)),
    put_other (4 * j + 1) (λ e. n (omega arith)) (λ e. n (omega arith)) (λ e. n (omega arith)) (λ e. n (omega arith)),
    put_other (4 * j + 2) (λ e. n (omega arith)) (λ e. n (omega arith)) (λ e. n (omega arith)) (λ e. n (omega arith)),
    put_other (4 * j + 3) (λ e. n (omega arith)) (λ e. n (omega arith)) (λ e. n (omega arith)) (λ e. n (omega arith)),
  )

  module _ (l : 4 * q + 3 < length Q) where
    put-0 : get_or (with_quad Q q (quad a b c d)) (4 * q + 0) 0 ≡ a
    put-0 =
        let z : 4 * q + 0 ≡ 4 * q = omega arith in
        ap (λ (m : ℕ). get_or (with_quad Q q (quad a b c d)) m 0) z
        ∙ get_or-set_other three (4 * q + 3) (4 * q) d 0 (λ e. omega arith) ∙ get_or-set_other two (4 * q + 2) (4 * q) c 0 (λ e. omega arith)
        ∙ get_or-set_other one (4 * q + 1) (4 * q) b 0 (λ e. omega arith) ∙ get_or-set_same Q (4 * q) a 0 (omega arith)

    put_1 : get_or (with_quad Q q (quad a b c d)) (4 * q + 1) 0 ≡ b
    put_1 =
        get_or-set_other three (4 * q + 3) (4 * q + 1) d 0 (λ e. omega arith) ∙ get_or-set_other two (4 * q + 2) (4 * q + 1) c 0 (λ e. omega arith)
        ∙ get_or-set_same one (4 * q + 1) b 0 (simp length-set (omega arith))

    put_2 : get_or (with_quad Q q (quad a b c d)) (4 * q + 2) 0 ≡ c
    put_2 = get_or-set_other three (4 * q + 3) (4 * q + 2) d 0 (λ e. omega arith) ∙ get_or-set_same two (4 * q + 2) c 0 (simp length-set (omega arith))

    put_3 : get_or (with_quad Q q (quad a b c d)) (4 * q + 3) 0 ≡ d
    put_3 = get_or-set_same three (4 * q + 3) d 0 (simp length-set l)

    this-quad : quad_at (with_quad Q q (quad a b c d)) q ≡ quad a b c d
    this-quad = rw (put-0, put_1, put_2, put_3)

length-put : (Q : List ℕ) (q a b c d : ℕ) → length (with_quad Q q (quad a b c d)) ≡ length Q
length-put Q q a b c d = simp length-set refl

quads-put : (nq : ℕ) (Q : List ℕ) (q a b c d : ℕ) → q < nq → 4 * nq ≤ length Q → quads_of nq (with_quad Q q (quad a b c d)) ≡ set (quads_of nq Q) q (quad a b c d)
unfolding quads_of
quads-put nq Q q a b c d h l =
    sym (tab-set (quad_at Q) (quad_at (with_quad Q q (quad a b c d))) nq q (quad a b c d) h (this-quad Q q a b c d (omega arith)) (λ j _ n. other-quad Q q a b c d j n))

pair-quads : (nq : ℕ) (Q : List ℕ) (i j : ℕ) (g : six.Six) → i < nq → j < nq → 4 * nq ≤ length Q
    → quads_of nq (with_pair Q i j g) ≡ set (set (quads_of nq Q) i (quad g.h0 g.h1 g.h2 g.h3)) j (quad g.h0 g.h3 g.h4 g.h5)
pair-quads nq Q i j g hi hj l =
    quads-put nq (with_quad Q i (quad g.h0 g.h1 g.h2 g.h3)) j g.h0 g.h3 g.h4 g.h5 hj (omega (arith, length-put Q i g.h0 g.h1 g.h2 g.h3))
    ∙ ap (λ (S : List Quad). set S j (quad g.h0 g.h3 g.h4 g.h5)) (quads-put nq Q i g.h0 g.h1 g.h2 g.h3 hi l)

swap-quads : (nq : ℕ) (Q : List ℕ) (i j : ℕ) (k : Diagonal) (h : six.Six) → i < nq → j < nq → 4 * nq ≤ length Q
    → quads_of nq (with_pair Q i j (turned h k)) ≡ swap_by k (quads_of nq Q) i j h
swap-quads nq Q i j First h hi hj l = pair-quads nq Q i j (turned h First) hi hj l
swap-quads nq Q i j Second h hi hj l = pair-quads nq Q i j (turned h Second) hi hj l

-- ---- the corners stay points

set_below : (np n : ℕ) (l : List ℕ) (k x : ℕ) → n ≤ length l → x < np → ((c : ℕ) → c < n → get_or l c 0 < np) → (c : ℕ) → c < n → get_or (set l k x) c 0 < np
set_below np n l k x e hx h c hc = ⊎_elim
    (λ (p : c ≡ k). rw (p, get_or-set_same l k x 0 (omega arith)) hx)
    (λ (p : c ≡ k → ⊥). rw (get_or-set_other l k c x 0 p) (h c hc))
    (eq-or-ne c k)

cornered-put : {np nq : ℕ} {Q : List ℕ} (q a b c d : ℕ) → Cornered np nq Q → a < np → b < np → c < np → d < np → Cornered np nq (with_quad Q q (quad a b c d))
cornered-put {np} {nq} {Q} q a b c d C ha hb hc hd = record {
  few = C.few;
  quads = simp length-set C.quads;
  points = set_below np (4 * nq) (three Q q a b c d) (4 * q + 3) d (simp length-set C.quads) hd
      (set_below np (4 * nq) (two Q q a b c d) (4 * q + 2) c (simp length-set C.quads) hc
      (set_below np (4 * nq) (one Q q a b c d) (4 * q + 1) b (simp length-set C.quads) hb
      (set_below np (4 * nq) Q (4 * q) a C.quads ha C.points)));
}

cornered-pair : {np nq : ℕ} {Q : List ℕ} (i j : ℕ) (g : six.Six) → Cornered np nq Q → SixBelow np g → Cornered np nq (with_pair Q i j g)
cornered-pair i j g C B =
    cornered-put j g.h0 g.h3 g.h4 g.h5 (cornered-put i g.h0 g.h1 g.h2 g.h3 C B.h0< B.h1< B.h2< B.h3<) B.h0< B.h3< B.h4< B.h5<

-- ---- the valences

module _ (S T : List Quad) (a b c d : ℕ) (E : Exchange (λ f. total f S) (λ f. total f T) a b c d) where
  one-less-a : valence T a + 1 ≡ valence S a
  one-less-a = omega (arith, at_a _ _ a b c d E (λ p n. 1))

  one-less-b : valence T b + 1 ≡ valence S b
  one-less-b = omega (arith, at_b _ _ a b c d E (λ p n. 1))

  one-more-c : valence T c ≡ valence S c + 1
  one-more-c = omega (arith, at_c _ _ a b c d E (λ p n. 1))

  one-more-d : valence T d ≡ valence S d + 1
  one-more-d = omega (arith, at_d _ _ a b c d E (λ p n. 1))

  moved-valences : (np : ℕ) (vs : List ℕ) → MoveValencesAsks np vs a b c d → vs ≡ tabulate (valence S) np → moved vs a b c d ≡ tabulate (valence T) np
  moved-valences np vs M e = is-tab (moved vs a b c d) (valence T) np (simp length-set len) each
    where
      len : length vs ≡ np
      len = ap length e ∙ length-tab (valence S) np

      was : (k : ℕ) → k < np → get_or vs k 0 ≡ valence S k
      was k h = ap (λ (l : List ℕ). get_or l k 0) e ∙ get_or-tab (valence S) np k 0 h

      each : (k : ℕ) → k < np → get_or (moved vs a b c d) k 0 ≡ valence T k
      each k h = ⊎_elim
          (λ (p : k ≡ d). rw p (get_or-set_same (more (less (less vs a) b) c) d _ 0 (simp length-set (omega (arith, len, M.d<))) ∙ omega (arith, last_is M, was d M.d<, one-more-d)))
          (λ (nd : k ≡ d → ⊥). get_or-set_other (more (less (less vs a) b) c) d k _ 0 nd ∙ ⊎_elim
          (λ (p : k ≡ c). rw p (get_or-set_same (less (less vs a) b) c _ 0 (simp length-set (omega (arith, len, M.c<))) ∙ omega (arith, third-is M, was c M.c<, one-more-c)))
          (λ (nc : k ≡ c → ⊥). get_or-set_other (less (less vs a) b) c k _ 0 nc ∙ ⊎_elim
          (λ (p : k ≡ b). rw p (get_or-set_same (less vs a) b _ 0 (simp length-set (omega (arith, len, M.b<))) ∙ omega (arith, second_is M, was b M.b<, one-less-b)))
          (λ (nb : k ≡ b → ⊥). get_or-set_other (less vs a) b k _ 0 nb ∙ ⊎_elim
          (λ (p : k ≡ a). rw p (get_or-set_same vs a _ 0 (omega (arith, len, M.a<)) ∙ omega (arith, was a M.a<, one-less-a)))
          (λ (na : k ≡ a → ⊥). get_or-set_other vs a k _ 0 na ∙ was k h ∙ sym (at_other _ _ a b c d E k na nb nc nd (λ p n. 1)))
          (eq-or-ne k a))
          (eq-or-ne k b))
          (eq-or-ne k c))
          (eq-or-ne k d)

-- ---- one swap

module _ {np nq : ℕ} {Q w : List ℕ} {h : six.Six} {i j : ℕ} (P : SwapPassHolds np nq Q w) (X : MakeSwapAsks np nq Q h i j) where
  abbrev S : List Quad
  S = quads_of nq Q

  -- the ends of the new diagonal
  abbrev end_c : Diagonal → ℕ
  end_c k = (turned h k).h0

  abbrev end_d : Diagonal → ℕ
  end_d k = (turned h k).h3

  differ : Six h.h0 h.h1 h.h2 h.h3 h.h4 h.h5
  differ = six-of h.h0 h.h1 h.h2 h.h3 h.h4 h.h5 X.differ

  here_i : (f : ℕ → ℕ → ℕ → ℕ) → corners f (get_or S i none_quad) ≡ corners f (quad h.h0 h.h3 h.h4 h.h5)
  here_i f = ap (corners f) (quad-there nq Q i X.i<) ∙ X.first f

  here_j : (f : ℕ → ℕ → ℕ → ℕ) → corners f (get_or S j none_quad) ≡ corners f (quad h.h3 h.h0 h.h1 h.h2)
  here_j f = ap (corners f) (quad-there nq Q j X.j<) ∙ X.second f

  exchange : (k : Diagonal) → Exchange (λ f. total f S) (λ f. total f (swap_by k S i j h)) h.h0 h.h3 (end_c k) (end_d k)
  exchange k = go k
    where
      li : i < length S
      li = omega (arith, length-quads nq Q, X.i<)

      lj : j < length S
      lj = omega (arith, length-quads nq Q, X.j<)

      ij : i ≢ j
      ij = two-quads S i j h.h0 h.h1 h.h2 h.h3 h.h4 h.h5 differ here_i here_j

      go : (k : Diagonal) → Exchange (λ f. total f S) (λ f. total f (swap_by k S i j h)) h.h0 h.h3 (end_c k) (end_d k)
      go First = exchange-one S i j h.h0 h.h1 h.h2 h.h3 h.h4 h.h5 li lj ij differ here_i here_j
      go Second = exchange-two S i j h.h0 h.h1 h.h2 h.h3 h.h4 h.h5 li lj ij differ here_i here_j

  -- the corners of each quad still differ
  differ-after : (k : Diagonal) → All Differ (swap_by k S i j h)
  differ-after First = one-differ S i j differ P.differ
  differ-after Second = two-differ S i j differ P.differ

  length-after : (k : Diagonal) → length (swap_by k S i j h) ≡ nq
  length-after First = simp length-set (length-quads nq Q)
  length-after Second = simp length-set (length-quads nq Q)

  -- so no valence passes the limit then, and the two that rise are below it now
  most-after : (k : Diagonal) (v : ℕ) → valence (swap_by k S i j h) v ≤ limit
  most-after k v = omega (arith, valence-le (swap_by k S i j h) v (differ-after k), length-after k, P.sheet.few)

  read-valence : (v : ℕ) → v < np → get_or (part (valences_at np nq) np w) v 0 ≡ valence S v
  read-valence v l = ap (λ (x : List ℕ). get_or x v 0) P.valences.is ∙ get_or-tab (valence S) np v 0 l

  pub movable : (k : Diagonal) → MoveValencesAsks np (part (valences_at np nq) np w) h.h0 h.h3 (end_c k) (end_d k)
  movable k =
      let E = exchange k in
      let T = swap_by k S i j h in
      let B = X.below in
      let G = turned-below k B in
      record {
        a< = B.h0<;
        b< = B.h3<;
        c< = G.h0<;
        d< = G.h3<;
        ab = E.ab;
        ac = E.ac;
        ad = E.ad;
        bc = E.bc;
        bd = E.bd;
        cd = E.cd;
        least_a = omega (arith, read-valence h.h0 B.h0<, one-less-a S T _ _ _ _ E);
        least_b = omega (arith, read-valence h.h3 B.h3<, one-less-b S T _ _ _ _ E);
        most_c = omega (arith, read-valence (end_c k) G.h0<, one-more-c S T _ _ _ _ E, most-after k (end_c k));
        most_d = omega (arith, read-valence (end_d k) G.h3<, one-more-d S T _ _ _ _ E, most-after k (end_d k));
      }

  -- the valences have moved, all else stands
  module _ {u : List ℕ} (K : Kept (Out (valences_at np nq) np) w u) where
    pub map-moved : MapHolds np nq u
    map-moved = map-kept P.map K (λ l p q r s. omega arith)

    start-moved : was_in np nq u ≡ was_in np nq w
    start-moved = was-kept P.map K (λ l p q r s. omega arith)

    bars-moved : bars_of np nq u ≡ bars_of np nq w
    unfolding bars_of
    bars-moved = tab-ext (is_barred np nq u) (is_barred np nq w) nq (λ q l. rw (K.same 0 (marks_at np nq + q) (λ r s. omega arith)))

    pub swap-made : (k : Diagonal) (R w' : List ℕ) → R ≡ with_pair Q i j (turned h k) → Part (valences_at np nq) np (moved (part (valences_at np nq) np w) h.h0 h.h3 (end_c k) (end_d k)) u
        → Bounded (valences_at np nq) np u → Marked np nq (uses_six h) u w' → MakeSwapLeaves np nq k h i j Q w R w'
    swap-made k R w' e N B M =
        let q : quads_of nq R ≡ swap_by k S i j h = ap (quads_of nq) e ∙ swap-quads nq Q i j k h X.i< X.j< P.sheet.quads in
        let O = M.kept in
        record {
          holds = record {
            sheet = rw e (cornered-pair i j (turned h k) P.sheet (turned-below k X.below));
            map = marks-kept map-moved O;
            valences = part-kept
                (part-as N (moved-valences S (swap_by k S i j h) h.h0 h.h3 (end_c k) (end_d k) (exchange k) np _ (movable k) P.valences.is ∙ ap (λ (T : List Quad). tabulate (valence T) np) (sym q)))
                O (λ l p q r s. omega arith);
            differ = rw q (differ-after k);
            bounded = bounded-kept B O (λ l p q r s. omega arith);
          };
          quads = q;
          bars = bars-are (uses_six h) (meets_six h) map-moved.work M (λ q. refl) ∙ ap₂ (λ (A : List ℕ) (B : List Bool). bar_list (quads_of nq A) B (meets_six h)) start-moved bars-moved;
          kept = kept_then K O (λ l o. (λ p q. o (omega arith) (omega arith), λ p q. o (omega arith) (omega arith)));
        }

  -- ---- the calls of a swap, g being the six corners turned

  module _ (k : Diagonal) (g : six.Six) (e : g ≡ turned h k) where
    pub move-ready : MoveValencesAsks np (part (valences_at np nq) np w) h.h0 h.h3 g.h0 g.h3
    move-ready = rw e (movable k)

    pub swap-done : {R u w' : List ℕ} → R ≡ with_pair Q i j g
        → Part (valences_at np nq) np (moved (part (valences_at np nq) np w) h.h0 h.h3 g.h0 g.h3) u × (Kept (Out (valences_at np nq) np) w u × Bounded (valences_at np nq) np u)
        → Part (marks_at np nq) nq (tabulate (mark_if (uses_six h) (was_in np nq u) (marks_in np nq u)) nq) w' × OnlyMarks np nq u w' → MakeSwapLeaves np nq k h i j Q w R w'
    swap-done {R} {u} {w'} q m b = swap-made m.1.0 k R w' (q ∙ ap (with_pair Q i j) e) (rw e at m.0) m.1.1 (record { marks = b.0; kept = b.1 })

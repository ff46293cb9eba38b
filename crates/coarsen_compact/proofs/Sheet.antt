-- What the packed and numbered slices have is the sheet of the rule. Assumes nothing.
use Prim.Native.Nat.{ℕ, zero, suc, ◌+◌, ◌*◌, ◌/◌, ◌≤◌, ◌<◌}
use mathlib.Core.Path.{◌≡◌, refl, sym, ap, ap₂, ◌∙◌}
use mathlib.Core.Bool.{Bool, true, false, cond}
use mathlib.Core.Logic.{⊎_elim}
use mathlib.Core.List.{List, [], ◌∷◌, ◌++◌, map, append_assoc, append-nil}
use native.Mathlib.Omega.{arith}
use lib.ListN.{length, get_or, take, replicate, length-append, length-map, get_or-append}
use lib.Seq.{get_or-append-add, get_or-take, take-suc, length-take-le}
use lib.Ieee.{Float}
use Rattle.lists.specs.Sort.{tabulate}
use Rattle.lists.specs.Regions.{part, Part}
use Rattle.lists.proofs.Laws.{lt-or-le, get_or-tab, tab-take, map-tab}
use Rattle.points.specs.Points.{point_at, origin}
use Rattle.rule_sheet.specs.declared.Counts.{Counts}
use Rattle.rule_sheet.specs.Quads.{Quad, quad, is, sum}
use Rattle.rule_sheet.specs.Flat.{corner, quad_at, flat_quads}
use Rattle.rule_sheet.specs.FirstUse.{firsts, place}
use Rattle.rule_sheet.proofs.FirstUse.{is_same}
use Rattle.rule_sheet.specs.Sheet.{points_of, flat_points}
use Rattle.sheet.specs.Results.{Front}
use Rattle.sheet.proofs.Results.{length-flat-points}
use Rattle.rule_coarsen.specs.Merges.{Slot, out, slot, live, live_labels, rename_quad, order, renumber, gathered}
use Rattle.rule_coarsen.proofs.MergePass.{live-length}
use Rattle.rule_coarsen.proofs.Renumber.{renumber-length}
use Rattle.coarsen_compact.specs.Compact.{compacted, Begins, Compacting, quad_stays, element_stays, packed, used_in, number_in, points_in, Numbering}
use Rattle.lists.specs.Steps.{nth}
use Rattle.rule_coarsen.specs.Invariants.{slot_at, slots_of}
use Rattle.rule_coarsen.proofs.Slots.{length-slots}
use Rattle.coarsen_compact.proofs.Packing.{packed-suc}
use Rattle.coarsen_compact.proofs.Numbers.{used-few, used-below}

-- ---- one quad more

live-append : (S T : List Slot) → live (S ++ T) ≡ live S ++ live T
live-append [] T = refl
live-append (out ∷ S) T = live-append S T
live-append (slot q ∷ S) T = rw (live-append S T)

labels_append : (S : List Slot) (labels : List ℕ) (s : Slot) (x : ℕ) → length S ≡ length labels → live_labels (S ++ (s ∷ [])) (labels ++ (x ∷ [])) ≡ live_labels S labels ++ live_labels (s ∷ []) (x ∷ [])
labels_append [] [] s x e = refl
labels_append [] (y ∷ labels) s x e = absurd (omega arith)
labels_append (s ∷ S) [] t x e = absurd (omega arith)
labels_append (out ∷ S) (y ∷ labels) s x e = labels_append S labels s x (omega arith)
labels_append (slot q ∷ S) (y ∷ labels) s x e = rw (labels_append S labels s x (omega arith))

flat_append : (S T : List Quad) → flat_quads (S ++ T) ≡ flat_quads S ++ flat_quads T
unfolding flat_quads
flat_append [] T = refl
flat_append (quad a b c d ∷ S) T = rw (flat_append S T)

-- ---- what stays

-- the labels that stay are those of the rule
pub packed-labels : (n : ℕ) (Q R labels : List ℕ) → n ≤ length labels → packed (quad_stays R) 0 labels n ≡ live_labels (slots_of n Q R) (take n labels)
unfolding packed slots_of tabulate
packed-labels zero Q R labels h = refl
packed-labels (suc n) Q R labels h =
    rw (take-suc labels n 0 h, packed-labels n Q R labels (omega arith))
    (sym (labels_append (slots_of n Q R) (take n labels) (slot_at Q R n) (get_or labels n 0) (length-slots n Q R ∙ sym (length-take-le n labels (omega arith))) ∙ ap (λ l. live_labels (slots_of n Q R) (take n labels) ++ l) (one (quad_stays R n))))
  where
    one : (b : Bool) → live_labels (cond b (slot (quad_at Q n)) out ∷ []) (get_or labels n 0 ∷ []) ≡ cond b (get_or labels n 0 ∷ []) []
    one true = refl
    one false = refl

-- with one element a quad, element i is that of quad i
packed-ext : {A : Type 0} (p q : ℕ → Bool) (d : A) (l : List A) (n : ℕ) → ((i : ℕ) → p i ≡ q i) → packed p d l n ≡ packed q d l n
unfolding packed
packed-ext p q d l zero e = refl
packed-ext p q d l (suc n) e = rw (packed-ext p q d l n e, e n)

packed-one : (R labels : List ℕ) (n : ℕ) → packed (element_stays 1 R) 0 labels (1 * n) ≡ packed (quad_stays R) 0 labels n
packed-one R labels n =
    let e : 1 * n ≡ n = omega arith in
    rw e (packed-ext (element_stays 1 R) (quad_stays R) 0 labels n (λ i. let d : i / 1 ≡ i = omega arith in ap (quad_stays R) d))

-- the corners that stay are those of the quads that do
module _ (Q R : List ℕ) where
  -- corner j of quad n alone if the quad stays
  abbrev corner_if : ℕ → ℕ → List ℕ
  corner_if n j = cond (quad_stays R n) (corner Q n j ∷ []) []

  corner-next : (n j k : ℕ) → j < 4 → k ≡ 4 * n + j → packed (element_stays 4 R) 0 Q (k + 1) ≡ packed (element_stays 4 R) 0 Q k ++ corner_if n j
  corner-next n j k h e =
      let d : k / 4 ≡ n = omega arith in
      packed-suc (element_stays 4 R) 0 Q k ∙ rw (d, e)

  quad-next : (n : ℕ) → packed (element_stays 4 R) 0 Q (4 * suc n) ≡ (((packed (element_stays 4 R) 0 Q (4 * n) ++ corner_if n 0) ++ corner_if n 1) ++ corner_if n 2) ++ corner_if n 3
  quad-next n =
      let e : 4 * suc n ≡ 4 * n + 1 + 1 + 1 + 1 = omega arith in
      rw e (corner-next n 3 (4 * n + 1 + 1 + 1) (omega arith) (omega arith)
      ∙ ap (λ l. l ++ corner_if n 3) (corner-next n 2 (4 * n + 1 + 1) (omega arith) (omega arith)
      ∙ ap (λ l. l ++ corner_if n 2) (corner-next n 1 (4 * n + 1) (omega arith) (omega arith)
      ∙ ap (λ l. l ++ corner_if n 1) (corner-next n 0 (4 * n) (omega arith) (omega arith)))))

  -- the corners of a quad that stays
  quad-corners : (n : ℕ) (l : List ℕ) → (((l ++ corner_if n 0) ++ corner_if n 1) ++ corner_if n 2) ++ corner_if n 3 ≡ l ++ flat_quads (live (slot_at Q R n ∷ []))
  unfolding flat_quads
  quad-corners n l = go (quad_stays R n)
    where
      go : (b : Bool) → (((l ++ cond b (corner Q n 0 ∷ []) []) ++ cond b (corner Q n 1 ∷ []) []) ++ cond b (corner Q n 2 ∷ []) []) ++ cond b (corner Q n 3 ∷ []) [] ≡ l ++ flat_quads (live (cond b (slot (quad_at Q n)) out ∷ []))
      go true = simp append_assoc
      go false = simp append-nil

  pub packed-corners : (n : ℕ) → packed (element_stays 4 R) 0 Q (4 * n) ≡ flat_quads (live (slots_of n Q R))
  unfolding packed flat_quads slots_of tabulate
  packed-corners zero = refl
  packed-corners (suc n) =
      quad-next n ∙ quad-corners n (packed (element_stays 4 R) 0 Q (4 * n))
      ∙ rw (packed-corners n) (sym (rw (live-append (slots_of n Q R) (slot_at Q R n ∷ [])) (flat_append (live (slots_of n Q R)) (live (slot_at Q R n ∷ [])))))

-- ---- the numbers

flat_map : (f : ℕ → ℕ) (S : List Quad) → flat_quads (map (rename_quad f) S) ≡ map f (flat_quads S)
unfolding flat_quads
flat_map f [] = refl
flat_map f (quad a b c d ∷ S) = rw (flat_map f S)

-- m corners in front of s are those of the quads S
module _ (S : List Quad) (s : List ℕ) (m : ℕ) (e : m ≡ length (flat_quads S)) (F : Front (flat_quads S) s) where
  corners_are : tabulate (nth s) m ≡ flat_quads S
  corners_are = tab-take s m (omega (arith, F.fits)) ∙ rw (← e) at F.is

  pub order_is : used_in s m ≡ order S
  unfolding used_in order
  order_is = ap (firsts []) corners_are

  pub numbers-are : tabulate (number_in s m) m ≡ flat_quads (renumber S)
  unfolding renumber
  numbers-are =
      sym (map-tab (λ x. place x (used_in s m)) (nth s) m)
      ∙ rw (order_is, corners_are) (sym (flat_map (λ x. place x (order S)) S))

-- the points of numbers below np are those of the sheet
gathered-is : (np : ℕ) (P : List Float) (l : List ℕ) → ((x : ℕ) → 0 < sum (is x) l → x < np) → points_in P l ≡ gathered (points_of np P) l
unfolding points_of
gathered-is np P [] h = refl
gathered-is np P (v ∷ l) h =
    ap₂ ◌∷◌ (sym (get_or-tab (point_at P) np v origin (h v (omega (arith, is_same v v refl))))) (gathered-is np P l (λ x k. h x (omega arith)))

-- every corner that stays is one of the corners that came
packed-below : (p : ℕ → Bool) (l : List ℕ) (np n : ℕ) → ((i : ℕ) → i < n → get_or l i 0 < np) → (i : ℕ) → i < length (packed p 0 l n) → get_or (packed p 0 l n) i 0 < np
unfolding packed
packed-below p l np zero b i h = absurd (omega arith)
packed-below p l np (suc n) b i h = go (p n) h (packed-below p l np n (λ j c. b j (omega arith)) i)
  where
    last : (t : Bool) → i < length (packed p 0 l n ++ cond t (get_or l n 0 ∷ []) []) → length (packed p 0 l n) ≤ i → get_or (packed p 0 l n ++ cond t (get_or l n 0 ∷ []) []) i 0 < np
    last true k a =
        let z : length (packed p 0 l n ++ (get_or l n 0 ∷ [])) ≡ length (packed p 0 l n) + 1 = length-append (packed p 0 l n) (get_or l n 0 ∷ []) in
        let y : i ≡ length (packed p 0 l n) + 0 = omega arith in
        rw (y, get_or-append-add (packed p 0 l n) (get_or l n 0 ∷ []) 0 0) (b n (omega arith))
    last false k a = absurd (let z : length (packed p 0 l n ++ []) ≡ length (packed p 0 l n) = ap length (append-nil (packed p 0 l n)) in omega arith)

    go : (t : Bool) → i < length (packed p 0 l n ++ cond t (get_or l n 0 ∷ []) []) → (i < length (packed p 0 l n) → get_or (packed p 0 l n) i 0 < np) → get_or (packed p 0 l n ++ cond t (get_or l n 0 ∷ []) []) i 0 < np
    go t k ih = ⊎_elim
        (λ (a : i < length (packed p 0 l n)). rw (get_or-append (packed p 0 l n) (cond t (get_or l n 0 ∷ []) []) 0 i a) (ih a))
        (λ (a : length (packed p 0 l n) ≤ i). last t k a)
        (lt-or-le i (length (packed p 0 l n)))

-- ---- the sheet

module _ {np nq : ℕ} (P : List Float) {Q : List ℕ} (labels : List ℕ) {removed numbers : ℕ} {w : List ℕ} {f : ℕ} (C : Compacting np nq (length P) Q (length labels) removed numbers w f) where
  -- the marks of the quads that are out
  abbrev marks : List ℕ
  marks = part removed nq w

  -- the quads that stay
  abbrev rest : List Quad
  rest = live (slots_of nq Q marks)

  module _ {s : List ℕ} {m : ℕ} (e : m ≡ length (packed (element_stays 4 marks) 0 Q (4 * nq))) (F : Front (packed (element_stays 4 marks) 0 Q (4 * nq)) s) where
    corner-below : (i : ℕ) → i < m → get_or s i 0 < np
    corner-below i h =
        let k : i < length (packed (element_stays 4 marks) 0 Q (4 * nq)) = omega arith in
        let g : get_or s i 0 ≡ get_or (packed (element_stays 4 marks) 0 Q (4 * nq)) i 0 = sym (ap (λ (l : List ℕ). get_or l i 0) (sym F.is) ∙ get_or-take (length (packed (element_stays 4 marks) 0 Q (4 * nq))) s i 0 k) in
        rw g (packed-below (element_stays 4 marks) Q np (4 * nq) C.sheet.points i k)

    pub compact-numbering : {w₁ : List ℕ} → Part numbers np (replicate np 0) w₁ → Numbering np m (length P) s numbers w₁ f
    compact-numbering Z = record { few = C.points; fits = omega (arith, F.fits); points = corner-below; held = C.held; floats = C.floats; none = Z }

    -- no more points are in use than there were
    pub compact-few : {used : ℕ} → used ≡ length (used_in s m) → used ≤ np
    compact-few u = omega (arith, used-few np m s corner-below)

    pub compact-begins : {used k : ℕ} {h P' : List Float} {s' labels' : List ℕ} → k ≡ length (packed (element_stays 1 marks) 0 labels (1 * nq)) → Front (packed (element_stays 1 marks) 0 labels (1 * nq)) labels'
        → used ≡ length (used_in s m) → Front (tabulate (number_in s m) m) s' → Front (flat_points (points_in P (used_in s m))) h → Front (take (3 * used) h) P'
        → Begins (compacted np nq P Q labels marks) (record { points = used; quads = k; labels = k }) P' s' labels'
    compact-begins {used} {k} {h} {P'} {s'} {labels'} ek L eu N H T =
        let c = packed-corners Q marks nq in
        let l = packed-one marks labels nq ∙ packed-labels nq Q marks labels C.labels in
        let e' : m ≡ length (flat_quads rest) = e ∙ ap length c in
        let F' : Front (flat_quads rest) s = rw c at F in
        let o = order_is rest s m e' F' in
        let g : points_in P (used_in s m) ≡ gathered (points_of np P) (order rest) = gathered-is np P (used_in s m) (used-below np m s corner-below) ∙ ap (gathered (points_of np P)) o in
        let n : length (flat_points (points_in P (used_in s m))) ≡ 3 * used = length-flat-points (points_in P (used_in s m)) ∙ ap (λ j. 3 * j) (length-map (used_in s m) (point_at P) ∙ sym eu) in
        let t : take (3 * used) h ≡ flat_points (gathered (points_of np P) (order rest)) = rw (n, g) at H.is in
        let a : used ≡ length (gathered (points_of np P) (order rest)) = eu ∙ ap length o ∙ sym (length-map (order rest) (λ v. get_or (points_of np P) v origin)) in
        let kl : k ≡ length (live_labels (slots_of nq Q marks) (take nq labels)) = ek ∙ ap length l in
        let kq : k ≡ length (renumber rest) = kl ∙ live-length (slots_of nq Q marks) (take nq labels) (length-take-le nq labels C.labels ∙ sym (length-slots nq Q marks)) ∙ sym (renumber-length rest) in
        record {
          counts = counts_same a kq kl;
          points = rw t at T;
          quads = rw (numbers-are rest s m e' F') at N;
          labelled = rw l at L;
        }
      where
        counts_same : {a b c x y z : ℕ} → a ≡ x → b ≡ y → c ≡ z → ◌≡◌ {A = Counts} (record { points = a; quads = b; labels = c }) (record { points = x; quads = y; labels = z })
        counts_same p q r = rw (p, q, r)

-- The laws of `Part` and `Kept`. Assumes nothing.
use Prim.Native.Nat.{ℕ, ◌+◌, ◌-◌, ◌≤◌, ◌<◌, zero-le}
use mathlib.Core.Logic.{⊎_elim}
use mathlib.Core.Path.{◌≡◌, refl, sym, ap, ◌∙◌}
use mathlib.Core.List.{List, [], ◌∷◌, ◌++◌}
use native.Mathlib.Omega.{arith}
use lib.ListN.{length, get_or, take, drop, set, replicate, length-replicate, length-set, length-drop, get_or-append}
use lib.Seq.{get_or-take, get_or-drop, get_or-set_same, get_or-set_other, ext_get_or, drop-set-add, take-set-lt, length-take-le, get_or-append-add, take_at, drop_at, length_front}
use borrow.Rule.Slice.PartMut.{mid_of, post_of, put_mid, Post-is, mid_len, same_len_mid}
use Rattle.lists.specs.Sort.{tabulate}
use Rattle.lists.specs.Regions.{part, Part, Out, Apart, Kept}
use Rattle.lists.proofs.Laws.{eq-or-ne, lt-or-le, length-tab, get_or-tab, is-table}

module _ {A : Type 0} where
  -- ---- Part

  -- every region within the slice is a part of it
  pub part_of : (at n : ℕ) (w : List A) → at + n ≤ length w → Part at n (part at n w) w
  part_of at n w h = record { fits = h; is = refl }

  pub part-len : {at n : ℕ} {l w : List A} → Part at n l w → length l ≡ n
  part-len {at} {n} {l} {w} P =
      let b : n ≤ length (drop at w) = omega (arith, length-drop at w, P.fits) in
      ap length (sym P.is) ∙ length-take-le n (drop at w) b

  -- what is read at a place of the region
  pub part-get : {at n : ℕ} {l w : List A} (d : A) (i : ℕ) → Part at n l w → i < n → get_or w (at + i) d ≡ get_or l i d
  part-get {at} {n} {l} {w} d i P h = sym (ap (λ (x : List A). get_or x i d) (sym P.is) ∙ get_or-take n (drop at w) i d h ∙ get_or-drop at w i d)

  -- a list whose elements stand there is the part
  pub part-is : (d : A) (at n : ℕ) (l w : List A) → at + n ≤ length w → length l ≡ n → ((i : ℕ) → i < n → get_or w (at + i) d ≡ get_or l i d) → Part at n l w
  part-is d at n l w h e f =
      let p : length (part at n w) ≡ n = part-len (part_of at n w h) in
      record {
        fits = h;
        is = ext_get_or d (part at n w) l (p ∙ sym e) (λ i b.
            let b' : i < n = omega arith in
            get_or-take n (drop at w) i d b' ∙ get_or-drop at w i d ∙ f i b');
      }

  -- the same with every default, so that none need be at hand
  pub part_by : (at n : ℕ) (l w : List A) → at + n ≤ length w → length l ≡ n → ((d : A) (i : ℕ) → i < n → get_or w (at + i) d ≡ get_or l i d) → Part at n l w
  part_by at n [] w b e g = record { fits = b; is = none (part at n w) (part-len (part_of at n w b) ∙ sym e) }
    where
      none : (x : List A) → length x ≡ 0 → x ≡ []
      none [] y = refl
      none (x ∷ xs) y = absurd (omega arith)
  part_by at n (x ∷ xs) w b e g = part-is x at n (x ∷ xs) w b e (g x)

  -- a store in the region, and one outside
  pub part-set : {at n : ℕ} {l w : List A} (k : ℕ) (v : A) → Part at n l w → k < n → Part at n (set l k v) (set w (at + k) v)
  part-set {at} {n} {l} {w} k v P h = record {
    fits = rw length-set P.fits;
    is = rw (drop-set-add, take-set-lt n (drop at w) k v h, P.is);
  }

  pub part-set-out : {at n : ℕ} {l w : List A} (j : ℕ) (v : A) → Part at n l w → Out at n j → Part at n l (set w j v)
  part-set-out {at} {n} {l} {w} j v P o =
      let b : at + n ≤ length (set w j v) = rw length-set P.fits in
      part-is v at n l (set w j v) b (part-len P) (λ i h.
      get_or-set_other w j (at + i) v v (λ e. o (omega arith) (omega arith)) ∙ part-get v i P h)

  -- the region of a slice that was kept there
  pub part-kept : {at n : ℕ} {l v w : List A} {Q : ℕ → Type 0} → Part at n l v → Kept Q v w → ((i : ℕ) → at ≤ i → i < at + n → Q i) → Part at n l w
  part-kept {at} {n} {l} {v} {w} {Q} P K f =
      let b : at + n ≤ length w = omega (arith, K.len, P.fits) in
      part_by at n l w b (part-len P) (λ d i h. K.same d (at + i) (f (at + i) (omega arith) (omega arith)) ∙ part-get d i P h)

  -- a region of a region
  pub part-sub : {at n : ℕ} {l w : List A} (a m : ℕ) → Part at n l w → a + m ≤ n → Part (at + a) m (part a m l) w
  part-sub {at} {n} {l} {w} a m P h =
      let e = part-len P in
      let lb : a + m ≤ length l = omega arith in
      let b : at + a + m ≤ length w = omega (arith, P.fits) in
      part_by (at + a) m (part a m l) w b (part-len (part_of a m l lb)) (λ d i q.
      let s : at + a + i ≡ at + (a + i) = omega arith in
      ap (λ (x : ℕ). get_or w x d) s ∙ part-get d (a + i) P (omega arith) ∙ sym (get_or-take m (drop a l) i d q ∙ get_or-drop a l i d))

  -- two names of one list
  pub part-as : {at n : ℕ} {l m w : List A} → Part at n l w → l ≡ m → Part at n m w
  part-as P e = record { fits = P.fits; is = P.is ∙ e }

  -- ---- Kept

  pub kept_refl : (P : ℕ → Type 0) (w : List A) → Kept P w w
  kept_refl P w = record { len = refl; same = λ d i h. refl }

  pub kept_set : {P : ℕ → Type 0} {v w : List A} (j : ℕ) (x : A) → Kept P v w → (P j → ⊥) → Kept P v (set w j x)
  kept_set {P} {v} {w} j x K n = record {
    len = length-set w j x ∙ K.len;
    same = λ d i h. get_or-set_other w j i x d (λ e. n (rw (← e) h)) ∙ K.same d i h;
  }

  pub kept_then : {P Q R : ℕ → Type 0} {u v w : List A} → Kept P u v → Kept Q v w → ((i : ℕ) → R i → P i × Q i) → Kept R u w
  kept_then K L f = record { len = L.len ∙ K.len; same = λ d i h. L.same d i (f i h).1 ∙ K.same d i (f i h).0 }

  pub kept_less : {P Q : ℕ → Type 0} {v w : List A} → Kept P v w → ((i : ℕ) → Q i → P i) → Kept Q v w
  kept_less K f = record { len = K.len; same = λ d i h. K.same d i (f i h) }

  -- ---- a part that was lent, `&mut w[at..e]`, and came back with the elements y
  pub part-put : (at e : ℕ) (w y : List A) → at ≤ e → e ≤ length w → length y ≡ e - at → Part at (e - at) y (put_mid at (e - at) w y)
  part-put at e w y h g l =
      let t : length (take at w) ≡ at = length-take-le at w (omega arith) in
      let len : length (put_mid at (e - at) w y) ≡ length w = same_len_mid at (e - at) w y (l ∙ sym (mid_len at e w g)) in
      record {
        fits = omega arith;
        is = ap (take (e - at)) (drop_at (take at w) (y ++ post_of at (e - at) w) at t) ∙ take_at y (post_of at (e - at) w) (e - at) l;
      }

  pub kept_put : (at e : ℕ) (w y : List A) → at ≤ e → e ≤ length w → length y ≡ e - at → Kept (Out at (e - at)) w (put_mid at (e - at) w y)
  kept_put at e w y h g l =
      let t : length (take at w) ≡ at = length-take-le at w (omega arith) in
      let len : length (put_mid at (e - at) w y) ≡ length w = same_len_mid at (e - at) w y (l ∙ sym (mid_len at e w g)) in
      record {
        len = len;
        same = λ d i o. ⊎_elim
            (λ (b : i < at).
            let b' : i < length (take at w) = omega arith in
            get_or-append (take at w) (y ++ post_of at (e - at) w) d i b' ∙ get_or-take at w i d b)
            (λ (b : at ≤ i). ⊎_elim
            (λ (c : i < at + (e - at)). absurd (o b c))
            (λ (c : at + (e - at) ≤ i).
            let q : i ≡ length (take at w) + (length y + (i - e)) = omega arith in
            let r : e + (i - e) ≡ i = omega arith in
            ap (λ (x : ℕ). get_or (put_mid at (e - at) w y) x d) q
            ∙ get_or-append-add (take at w) (y ++ post_of at (e - at) w) (length y + (i - e)) d
            ∙ get_or-append-add y (post_of at (e - at) w) (i - e) d
            ∙ ap (λ (x : List A). get_or x (i - e) d) (Post-is at e w h)
            ∙ get_or-drop e w (i - e) d ∙ ap (λ (x : ℕ). get_or w x d) r)
            (lt-or-le i (at + (e - at))))
            (lt-or-le i at);
      }

  -- the same by a region's size, as `&mut w[at..at + n]` is lent
  pub lent_is : (at n : ℕ) (w : List A) → mid_of at (at + n - at) w ≡ part at n w
  lent_is at n w = let e : at + n - at ≡ n = omega arith in rw e

  pub record Lent (at n : ℕ) (v y w : List A) : Type 0 where
    pub part : Part at n y w
    pub kept : Kept (Out at n) v w

  pub lent : (at n : ℕ) (v y : List A) → at + n ≤ length v → length y ≡ n → Lent at n v y (put_mid at (at + n - at) v y)
  lent at n v y h l =
      let e : at + n - at ≡ n = omega arith in
      let s : length y ≡ at + n - at = l ∙ sym e in
      record {
        part = rw e (rw e at (part-put at (at + n) v y (omega arith) h s));
        kept = rw e (rw e at (kept_put at (at + n) v y (omega arith) h s));
      }

  pub length-lent : (at n : ℕ) (w : List A) → at + n ≤ length w → length (mid_of at (at + n - at) w) ≡ n
  length-lent at n w h = ap length (lent_is at n w) ∙ part-len (part_of at n w h)

  -- a part came back as a table
  pub lent-tab : (f : ℕ → A) (at n : ℕ) (v y : List A) → at + n ≤ length v → y ≡ tabulate f (length (mid_of at (at + n - at) v)) → Lent at n v (tabulate f n) (put_mid at (at + n - at) v y)
  lent-tab f at n v y h e =
      let z : y ≡ tabulate f n = rw (length-lent at n v h) at e in
      let L = lent at n v y h (ap length z ∙ length-tab f n) in
      record { part = part-as L.part z; kept = L.kept }

  -- a part came back with one value throughout
  pub lent-all : (x : A) (at n : ℕ) (v y : List A) → at + n ≤ length v → y ≡ replicate (length (mid_of at (at + n - at) v)) x → Lent at n v (replicate n x) (put_mid at (at + n - at) v y)
  lent-all x at n v y h e =
      let z : y ≡ replicate n x = rw (length-lent at n v h) at e in
      let L = lent at n v y h (ap length z ∙ length-replicate n x) in
      record { part = part-as L.part z; kept = L.kept }

  -- ---- the fill of a region: after i turns the first i places hold f 0, f 1, .., and all else is as it came

  pub record RegionFilled (f : ℕ → A) (at n : ℕ) (v w : List A) (i : ℕ) : Type 0 where
    pub fits : at + n ≤ length v
    pub len : length w ≡ length v
    pub i≤ : i ≤ n
    pub done : (d : A) (j : ℕ) → j < i → get_or w (at + j) d ≡ f j
    pub kept : Kept (Out at i) v w

  pub region-start : (f : ℕ → A) (at n : ℕ) (v : List A) → at + n ≤ length v → RegionFilled f at n v v 0
  region-start f at n v h = record { fits = h; len = refl; i≤ = zero-le; done = λ d j l. absurd (omega arith); kept = kept_refl (Out at 0) v }

  pub region-turn : {f : ℕ → A} {at n : ℕ} {v w : List A} {i : ℕ} (x : A) → RegionFilled f at n v w i → i < n → x ≡ f i → RegionFilled f at n v (set w (at + i) x) (i + 1)
  region-turn {f} {at} {n} {v} {w} {i} x F h e =
      let b : at + i < length w = omega (arith, F.fits, F.len) in
      record {
        fits = F.fits;
        len = length-set w (at + i) x ∙ F.len;
        i≤ = omega arith;
        done = λ d j l. ⊎_elim
            (λ (q : j ≡ i). rw q (get_or-set_same w (at + i) x d b ∙ e))
            (λ (ne : j ≡ i → ⊥). get_or-set_other w (at + i) (at + j) x d (λ z. ne (omega arith)) ∙ F.done d j (omega arith))
            (eq-or-ne j i);
        kept = kept_set (at + i) x (kept_less F.kept (λ k o p q. o p (omega arith))) (λ o. o (omega arith) (omega arith));
      }

  -- at the end, and before it for a part of the table
  pub region-part : {f : ℕ → A} {at n : ℕ} {v w : List A} {i : ℕ} → RegionFilled f at n v w i → Part at i (tabulate f i) w
  region-part {f} {at} {n} {v} {w} {i} F =
      let b : at + i ≤ length w = omega (arith, F.fits, F.len, F.i≤) in
      part_by at i (tabulate f i) w b (length-tab f i) (λ d j l. F.done d j l ∙ sym (get_or-tab f i j d l))

  pub region-end : {f : ℕ → A} {at n : ℕ} {v w : List A} {i : ℕ} → RegionFilled f at n v w i → n ≤ i → Part at n (tabulate f n) w × Kept (Out at n) v w
  region-end {f} {at} {n} {v} {w} {i} F h = let e : i ≡ n = omega (arith, F.i≤) in (rw e at (region-part F), rw e at F.kept)

-- the slice is as long as it was when `&mut w[..n]` has come back
pub front-room : {A : Type 0} (m n : ℕ) (w y : List A) → length y ≡ length (take n w) → m ≤ length w → m ≤ length (y ++ drop n w)
front-room m n w y e h = rw (length_front w y n e) h

-- a region apart from the one that is filled is as it came
pub region-other : {A : Type 0} {f : ℕ → A} {at n b m : ℕ} {l v w : List A} {i : ℕ} → RegionFilled f at n v w i → Part b m l v → Apart b m at n → Part b m l w
region-other F P a = part-kept P F.kept (λ j p q r s. a j p q r (omega (arith, F.i≤)))

-- ---- the copy of a region

module _ {A : Type 0} (d : A) where
  -- element i of a list
  abbrev pub element_of : List A → ℕ → A
  element_of l i = get_or l i d

  -- the table of a list's own elements
  pub tab-own : (l : List A) (n : ℕ) → length l ≡ n → tabulate (element_of l) n ≡ l
  tab-own l n e = sym (is-table d l (element_of l) n e (λ k h. refl))

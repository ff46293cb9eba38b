-- A line by its bytes, and lines one after the other. Assumes nothing.
use Prim.Native.Nat.{ℕ, zero, suc, ◌+◌, ◌-◌, ◌*◌, ◌/◌, ◌^◌, ◌≤◌, ◌<◌}
use mathlib.Core.Path.{◌≡◌, refl, sym, ap, ◌∙◌}
use mathlib.Core.Bool.{true}
use mathlib.Core.List.{List, [], ◌∷◌, ◌++◌, append_assoc, append-nil}
use native.Mathlib.Nat.{pow-suc, div-div-eq-div-mul}
use native.Mathlib.Numerals.{add-one}
use native.Mathlib.Omega.{arith}
use lib.ListN.{length, get_or, take, set, replicate, length-append, length-replicate, length-set, get_or-eq_default}
use lib.Seq.{length-take-le}
use lib.Dec.{leb}
use borrow.Author.Tests.{lt-ltb, le-ltb, leb-true}
use Rattle.lists.specs.Sort.{tabulate}
use Rattle.lists.proofs.Every.{and_left, and_right}
use Rattle.lists.proofs.Laws.{length-tab, tab-suc, tab-add, tab-ext, is-table}
use Rattle.rule_sheet.specs.Quads.{all}
use Rattle.rule_sheet.specs.Edges.{join_of}
use Rattle.rule_sheet.specs.Results.{padded}
use Rattle.sheet.specs.Results.{Front}
use Rattle.sheet.proofs.Fronts.{front-next}
use Rattle.rule_page.specs.Page.{bytes_of, space, column_of, line_of, Line, joined}
use Rattle.page.specs.Steps.{byte_of}

-- ---- a number without its last digits

pub without-next : (n k : ℕ) → n / 10 ^ k / 10 ≡ n / 10 ^ (k + 1)
without-next n k = div-div-eq-div-mul n (10 ^ k) 10 ∙ ap (λ (d : ℕ). n / d) (sym (pow-suc 10 k) ∙ ap (λ (j : ℕ). 10 ^ j) (sym (add-one k)))

-- ---- a line by its bytes

same_at : (x n k : ℕ) → get_or (replicate n x) k x ≡ x
same_at x zero k = refl
same_at x (suc n) zero = refl
same_at x (suc n) (suc k) = same_at x n k

behind-at : (x n : ℕ) (l : List ℕ) (k : ℕ) → get_or (l ++ replicate n x) k x ≡ get_or l k x
behind-at x n [] k = same_at x n k
behind-at x n (y ∷ l) zero = refl
behind-at x n (y ∷ l) (suc k) = behind-at x n l k

-- a name and the spaces behind it
pub padded-tab : (x n : ℕ) (l : List ℕ) → length l ≤ n → padded x n l ≡ tabulate (λ i. get_or l i x) n
unfolding padded
padded-tab x n l h =
    is-table x (l ++ replicate (n - length l) x) (λ i. get_or l i x) n (length-append l (replicate (n - length l) x) ∙ rw length-replicate (omega arith))
    (λ k lt. behind-at x (n - length l) l k)

-- a count and the end of its line
columns-tab : (name : List ℕ) (n : ℕ) → tabulate (λ i. byte_of name n (24 + i)) 17 ≡ tabulate (λ i. column_of n (15 - i)) 16 ++ (10 ∷ [])
unfolding tabulate
columns-tab name n = refl

pub line-bytes : (name : List ℕ) (n : ℕ) → length name ≤ 24 → tabulate (byte_of name n) 41 ≡ line_of name n
unfolding line_of
line-bytes name n h =
    tab-add (byte_of name n) 24 17
    ∙ rw (columns-tab name n, padded-tab space 24 name h, tab-ext (byte_of name n) (λ i. get_or name i space) 24 (λ k lt. rw (lt-ltb k 24 lt)))
    (sym (append_assoc (tabulate (λ i. get_or name i space) 24) (tabulate (λ i. column_of n (15 - i)) 16) (10 ∷ [])))

-- byte i by the tests of `line_byte`
inside : (l : List ℕ) (i d e : ℕ) → i < length l → get_or l i d ≡ get_or l i e
inside [] i d e h = absurd (omega arith)
inside (x ∷ l) zero d e h = refl
inside (x ∷ l) (suc i) d e h = inside l i d e (omega arith)

module _ (name : List ℕ) (n i : ℕ) (h : length name ≤ 24) where
  pub byte-name : i < length name → get_or name i 0 ≡ byte_of name n i
  byte-name a = rw (lt-ltb i 24 (omega arith)) (inside name i 0 space a)

  pub byte-space : length name ≤ i → i < 24 → space ≡ byte_of name n i
  byte-space a b = rw (lt-ltb i 24 b) (sym (get_or-eq_default name space a))

  pub byte-column : {b : ℕ} → 24 ≤ i → i < 40 → b ≡ column_of n (39 - i) → b ≡ byte_of name n i
  byte-column a c e = rw (le-ltb i 24 a, lt-ltb i 40 c) e

  pub byte-end : 24 ≤ i → 40 ≤ i → 10 ≡ byte_of name n i
  byte-end a c = rw (le-ltb i 24 a, le-ltb i 40 c)

pub line-length : (name : List ℕ) (n : ℕ) → length name ≤ 24 → length (line_of name n) ≡ 41
line-length name n h = ap length (sym (line-bytes name n h)) ∙ length-tab (byte_of name n) 41

-- the names of lines have at most 24 bytes
abbrev pub Short : List Line → Type 0
Short ls = all (λ l. leb (length (bytes_of l.name)) 24) ls ≡ true

pub lines-length : (ls : List Line) → Short ls → length (joined ls) ≡ 41 * length ls
unfolding join_of
lines-length [] h = refl
lines-length (l ∷ ls) h =
    let name = bytes_of l.name in
    let a = leb-true (length name) 24 (and_left (leb (length name) 24) _ h) in
    length-append (line_of name l.count) (joined ls) ∙ omega (arith, line-length name l.count a, lines-length ls (and_right (leb (length name) 24) _ h))

-- ---- a line that is written behind the first m bytes of s₀

pub record Writing (m : ℕ) (f : ℕ → ℕ) (s₀ s : List ℕ) (i : ℕ) : Type 0 where
  pub i≤ : i ≤ 41
  pub len : length s ≡ length s₀
  pub front : Front (take m s₀ ++ tabulate f i) s

pub writing_start : (m : ℕ) (f : ℕ → ℕ) (s : List ℕ) → m ≤ length s → Writing m f s s 0
unfolding tabulate
writing_start m f s h =
    let e : length (take m s) ≡ m = length-take-le m s h in
    record { i≤ = omega arith; len = refl; front = record { fits = rw (append-nil (take m s), e) h; is = rw (append-nil (take m s), e) } }

pub writing-turn : {m : ℕ} {f : ℕ → ℕ} {s₀ s : List ℕ} {i : ℕ} (v : ℕ) → m + 41 ≤ length s₀ → Writing m f s₀ s i → i < 41 → v ≡ f i → Writing m f s₀ (set s (m + i) v) (i + 1)
writing-turn {m} {f} {s₀} {s} {i} v h W lt e =
    let n : m + i ≡ length (take m s₀ ++ tabulate f i) = sym (length-append (take m s₀) (tabulate f i) ∙ rw (length-take-le m s₀ (omega arith), length-tab f i)) in
    let more : (take m s₀ ++ tabulate f i) ++ (v ∷ []) ≡ take m s₀ ++ tabulate f (i + 1) = append_assoc (take m s₀) (tabulate f i) (v ∷ []) ∙ rw (add-one i, tab-suc f i, e) in
    record { i≤ = omega arith; len = length-set s (m + i) v ∙ W.len; front = rw more at (front-next (m + i) v W.front n (omega (arith, W.len))) }

pub writing-end : (name : List ℕ) (n : ℕ) {m : ℕ} {s₀ s : List ℕ} {i : ℕ} → length name ≤ 24 → Writing m (byte_of name n) s₀ s i → 41 ≤ i → Front (take m s₀ ++ line_of name n) s
writing-end name n {m} {s₀} {s} {i} h W le =
    let e : i ≡ 41 = omega (arith, W.i≤) in
    rw (← line-bytes name n h, ← e) W.front

-- ---- lines one after the other

-- s begins with k lines, which are l
pub record Written (k : ℕ) (l s : List ℕ) : Type 0 where
  pub size : length l ≡ 41 * k
  pub front : Front l s

pub line-next : (k : ℕ) {l s s' : List ℕ} (name : List ℕ) (n : ℕ) → length name ≤ 24 → Written k l s → Front (take (41 * k) s ++ line_of name n) s' → Written (suc k) (l ++ line_of name n) s'
line-next k {l} {s} {s'} name n h W F =
    let e : take (41 * k) s ≡ l = rw W.size at W.front.is in
    record { size = length-append l (line_of name n) ∙ omega (arith, W.size, line-length name n h); front = rw e at F }

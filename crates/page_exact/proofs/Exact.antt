-- Every page is legible. Assumes nothing.
use Prim.Native.Nat.{ℕ, zero, suc, ◌+◌, ◌-◌, ◌*◌, ◌%◌, ◌≤◌, ◌<◌}
use mathlib.Core.Path.{◌≡◌, refl, ap, ◌∙◌}
use mathlib.Core.Logic.{⊎_elim}
use mathlib.Core.Bool.{true, false, not}
use mathlib.Core.List.{List, [], ◌∷◌, ◌++◌, map, append_assoc}
use native.Mathlib.Nat.{mod-eq_of_lt}
use native.Mathlib.Omega.{arith}
use lib.Dec.{eqb, leb, ltb}
use lib.ListN.{length, get_or, get_or-append}
use lib.Seq.{take_at, drop_at, get_or-append-add}
use borrow.Author.Tests.{lt-ltb, le-ltb, ne_eqb, leb-true, not-true}
use Rattle.lists.specs.Sort.{tabulate}
use Rattle.lists.proofs.Every.{and_left, and_right}
use Rattle.lists.proofs.Laws.{lt-or-le, length-tab, get_or-tab}
use Rattle.rule_sheet.specs.Quads.{all}
use Rattle.rule_sheet.specs.Edges.{join_of}
use Rattle.rule_sheet.specs.Lent.{limit, before_verdict}
use Rattle.rule_sheet.specs.Outcomes.{Outcome, refuses, gives, after_test}
use Rattle.rule_sheet.specs.Results.{padded}
use Rattle.rule_quality.specs.declared.report.Quality.{Quality}
use Rattle.rule_quality.specs.declared.report.Assessment.{Assessment}
use Rattle.rule_quality.specs.Quality.{eight_counts, quality_rule, assessed_of}
use Rattle.rule_page.specs.Page.{bytes_of, space, line_end, column_of, line_of, Line, lines_of, joined, page_of, page_size, page_outcome, page_rule}
use Rattle.page.specs.Steps.{byte_of}
use Rattle.page.proofs.Lines.{padded-tab, line-bytes, line-length, Short}
use Rattle.page.proofs.Rule.{names-short, page-size}
use Rattle.page_exact.specs.Exact.{count_in, counts_in, Legible, EveryPage}
use Rattle.page_exact.proofs.Digits.{count-read, column-no-end}
use Rattle.page_exact.proofs.Bounds.{counts-fit}
use Rattle.std.specs.Prelude.{Ok, Err}
use Rattle.rule_sheet.specs.Verdicts.{Verdict}

-- ---- reading back

-- a line is read as its count
line_read : (name : List ℕ) (n : ℕ) (rest : List ℕ) → length name ≤ 24 → n < 10000000000000000 → count_in (line_of name n ++ rest) ≡ n
unfolding line_of
line_read name n rest h l =
    let columns = tabulate (λ i. column_of n (15 - i)) 16 in
    let e : (padded space 24 name ++ columns ++ (line_end ∷ [])) ++ rest ≡ padded space 24 name ++ (columns ++ (line_end ∷ rest)) = simp append_assoc in
    let p : length (padded space 24 name) ≡ 24 = ap length (padded-tab space 24 name h) ∙ length-tab _ 24 in
    rw (e, drop_at (padded space 24 name) (columns ++ (line_end ∷ rest)) 24 p, take_at columns (line_end ∷ rest) 16 (length-tab _ 16)) (count-read n l)

-- lines are read as their counts
lines-read : (ls : List Line) → Short ls → all (λ n. leb n (4 * limit)) (map (λ l. l.count) ls) ≡ true → counts_in (length ls) (joined ls) ≡ map (λ l. l.count) ls
unfolding join_of counts_in
lines-read [] h f = refl
lines-read (l ∷ ls) h f =
    let name = bytes_of l.name in
    let n = l.count in
    let a = leb-true (length name) 24 (and_left (leb (length name) 24) _ h) in
    let b = leb-true n (4 * limit) (and_left (leb n (4 * limit)) _ f) in
    rw (line_read name n (joined ls) a (omega (arith, b)), drop_at (line_of name n) (joined ls) 41 (line-length name n a), lines-read ls (and_right (leb (length name) 24) _ h) (and_right (leb n (4 * limit)) _ f))

-- ---- the ends of lines

-- no byte of a name ends a line
abbrev Plain : List ℕ → Type 0
Plain name = all (λ b. not (eqb b 10)) name ≡ true

name-no-end : (name : List ℕ) (k : ℕ) → Plain name → eqb (get_or name k space) line_end ≡ false
name-no-end [] k h = refl
name-no-end (b ∷ name) zero h = not-true (eqb b 10) (and_left (not (eqb b 10)) _ h)
name-no-end (b ∷ name) (suc k) h = name-no-end name k (and_right (not (eqb b 10)) _ h)

-- a line ends at its last byte alone
byte-ends : (name : List ℕ) (n k : ℕ) → Plain name → k < 41 → eqb (byte_of name n k) line_end ≡ eqb k 40
byte-ends name n k h l = ⊎_elim
    (λ (a : k < 24). rw (lt-ltb k 24 a, ne_eqb k 40 (λ e. omega arith)) (name-no-end name k h))
    (λ (a : 24 ≤ k). ⊎_elim
    (λ (b : k < 40). rw (le-ltb k 24 a, lt-ltb k 40 b, ne_eqb k 40 (λ e. omega arith)) (column-no-end n (39 - k)))
    (λ (b : 40 ≤ k). let e : k ≡ 40 = omega arith in rw e)
    (lt-or-le k 40))
    (lt-or-le k 24)

line-ends : (name : List ℕ) (n k : ℕ) → length name ≤ 24 → Plain name → k < 41 → eqb (get_or (line_of name n) k 0) line_end ≡ eqb k 40
line-ends name n k h p l = rw (← line-bytes name n h, get_or-tab (byte_of name n) 41 k 0 l) (byte-ends name n k p l)

-- the same of the names of lines
abbrev AllPlain : List Line → Type 0
AllPlain ls = all (λ l. all (λ b. not (eqb b 10)) (bytes_of l.name)) ls ≡ true

lines_end : (ls : List Line) (i : ℕ) → Short ls → AllPlain ls → i < 41 * length ls → eqb (get_or (joined ls) i 0) line_end ≡ eqb (i % 41) 40
unfolding join_of
lines_end [] i h p l = absurd (omega arith)
lines_end (x ∷ ls) i h p l =
    let name = bytes_of x.name in
    let line = line_of name x.count in
    let short = leb-true (length name) 24 (and_left (leb (length name) 24) _ h) in
    let size : length line ≡ 41 = line-length name x.count short in
    ⊎_elim
    (λ (a : i < 41). rw (get_or-append line (joined ls) 0 i (omega arith), mod-eq_of_lt a) (line-ends name x.count i short (and_left (all (λ b. not (eqb b 10)) name) _ p) a))
    (λ (a : 41 ≤ i).
    let e : i ≡ length line + (i - 41) = omega arith in
    let m : i % 41 ≡ (i - 41) % 41 = omega arith in
    rw (m, ap (λ (j : ℕ). get_or (line ++ joined ls) j 0) e, get_or-append-add line (joined ls) (i - 41) 0)
    (lines_end ls (i - 41) (and_right (leb (length name) 24) _ h) (and_right (all (λ b. not (eqb b 10)) name) _ p) (omega arith)))
    (lt-or-le i 41)

-- ---- the theorem

legible : (q : Quality) → all (λ n. leb n (4 * limit)) (eight_counts q) ≡ true → Legible q (page_of q)
unfolding page_of tabulate
legible q f = record {
  size = page-size q;
  ends = λ i l. lines_end (lines_of q) i (names-short q) refl l;
  fit = f;
  read = lines-read (lines_of q) (names-short q) f;
}

-- what is given, p where nothing is
abbrev given_or : List ℕ → Outcome (List ℕ) → List ℕ
given_or p (refuses n) = p
given_or p (gives x) = x

pub every-page : EveryPage
unfolding EveryPage page_rule
every-page d x w n p e = go (before_verdict x.counts (ltb n page_size)) (quality_rule d x w) refl e
  where
    go : (v : Verdict) (o : Outcome Assessment) → quality_rule d x w ≡ o → after_test v (page_outcome o) ≡ gives p → (a : Assessment) × (quality_rule d x w ≡ gives a) × Legible a.quality p
    go (Err k) o eo h = absurd (let z : ◌≡◌ {A = ℕ} 0 1 = cc in omega arith)
    go (Ok u) (refuses k) eo h = absurd (let z : ◌≡◌ {A = ℕ} 0 1 = cc in omega arith)
    go (Ok u) (gives a) eo h =
        let r : page_of a.quality ≡ p = ap (given_or p) h in
        (a, eo, rw r at (legible a.quality (counts-fit d x w a.quality a.is_tight (ap assessed_of eo))))

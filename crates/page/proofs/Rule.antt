-- The page of a record, and the answers in the order of the rule. Assumes nothing.
use Prim.Native.Nat.{ℕ, ◌-◌, ◌*◌, ◌≤◌}
use Prim.Native.String.{String}
use mathlib.Core.Path.{◌≡◌, refl, sym, ◌∙◌}
use mathlib.Core.Bool.{Bool, true, false, cond}
use mathlib.Core.List.{List, [], ◌++◌, append_assoc, append-nil}
use native.Mathlib.Omega.{arith}
use lib.Dec.{ltb}
use lib.ListN.{length, take, replicate}
use borrow.Author.Tests.{ltb-false}
use Rattle.lists.specs.Sort.{tabulate}
use Rattle.setting.specs.Settings.{Domain}
use Rattle.rule_sheet.specs.declared.Counts.{Counts}
use Rattle.rule_sheet.specs.Edges.{join_of}
use Rattle.rule_sheet.specs.Lent.{Lent, Work, is_large, before_verdict}
use Rattle.rule_sheet.specs.Outcomes.{Outcome, refuses, gives}
use Rattle.rule_sheet.specs.Results.{padded}
use Rattle.sheet.specs.Results.{cleared, Front}
use Rattle.sheet.proofs.Results.{pad}
use Rattle.sheet.proofs.Fronts.{front-none}
use Rattle.rule_quality.specs.declared.report.Quality.{Quality}
use Rattle.rule_quality.specs.declared.report.Assessment.{Assessment}
use Rattle.rule_quality.specs.Quality.{quality_rule, assessed_of}
use Rattle.rule_page.specs.Page.{bytes_of, line_of, lines_of, page_of, page_outcome, page_rule, Pages}
use Rattle.page.specs.Steps.{shown_of}
use Rattle.page.proofs.Lines.{Short, lines-length, line-next}
use Rattle.std.specs.Prelude.{Ok, Err}
use Rattle.rule_sheet.specs.Verdicts.{Verdict, Accepted}
use Rattle.rule_quality.specs.Quality.{Assessed}
use Rattle.rule_sheet.specs.declared.Refusal.TheVariants as refusals
use Rattle.rule_sheet.specs.declared.Refusal.{Refusal}

-- ---- the page of a record

-- the line of a name and a count
abbrev row : String → ℕ → List ℕ
row s n = line_of (bytes_of s) n

-- a slice with line k, which is l, behind what it begins with
abbrev Put : ℕ → List ℕ → List ℕ → List ℕ → Type 0
Put k l s s' = Front (take (41 * k) s ++ l) s'

eight-joined : (a b c d e f g h : List ℕ) {s : List ℕ} → Front ([] ++ a ++ b ++ c ++ d ++ e ++ f ++ g ++ h) s → Front (a ++ (b ++ (c ++ (d ++ (e ++ (f ++ (g ++ (h ++ [])))))))) s
eight-joined a b c d e f g h F = simp append-nil (simp append_assoc at F)

-- eight lines, one after the other
pub eight-lines : (q : Quality) (s₀ : List ℕ) {s₁ s₂ s₃ s₄ s₅ s₆ s₇ s₈ : List ℕ} → Put 0 (row "quads" q.quads) s₀ s₁ → Put 1 (row "irregular" q.irregular_vertices) s₁ s₂
    → Put 2 (row "boundary" q.boundary_edges) s₂ s₃ → Put 3 (row "nonmanifold" q.nonmanifold_edges) s₃ s₄ → Put 4 (row "orientation" q.orientation_errors) s₄ s₅
    → Put 5 (row "links" q.bad_vertex_links) s₅ s₆ → Put 6 (row "duplicates" q.duplicate_faces) s₆ s₇ → Put 7 (row "invalid" q.invalid_cells) s₇ s₈
    → Front (page_of q) s₈
unfolding page_of join_of tabulate
eight-lines q s₀ a b c d e f g h =
    let w₀ = line-next 0 (bytes_of "quads") q.quads (omega arith) (record { size = refl; front = front-none s₀ }) a in
    let w₁ = line-next 1 (bytes_of "irregular") q.irregular_vertices (omega arith) w₀ b in
    let w₂ = line-next 2 (bytes_of "boundary") q.boundary_edges (omega arith) w₁ c in
    let w₃ = line-next 3 (bytes_of "nonmanifold") q.nonmanifold_edges (omega arith) w₂ d in
    let w₄ = line-next 4 (bytes_of "orientation") q.orientation_errors (omega arith) w₃ e in
    let w₅ = line-next 5 (bytes_of "links") q.bad_vertex_links (omega arith) w₄ f in
    let w₆ = line-next 6 (bytes_of "duplicates") q.duplicate_faces (omega arith) w₅ g in
    let w₇ = line-next 7 (bytes_of "invalid") q.invalid_cells (omega arith) w₆ h in
    eight-joined (row "quads" q.quads) (row "irregular" q.irregular_vertices) (row "boundary" q.boundary_edges) (row "nonmanifold" q.nonmanifold_edges) (row "orientation" q.orientation_errors)
    (row "links" q.bad_vertex_links) (row "duplicates" q.duplicate_faces) (row "invalid" q.invalid_cells) w₇.front

pub names-short : (q : Quality) → Short (lines_of q)
unfolding tabulate
names-short q = refl

pub page-size : (q : Quality) → length (page_of q) ≡ 328
unfolding page_of
page-size q = lines-length (lines_of q) (names-short q)

-- ---- what is shown

pub page-shown : {r : Assessed} {a : Assessment} {s s' : List ℕ} (n : ℕ) → r ≡ Ok a → Front (page_of a.quality) s → length s ≡ n → s' ≡ cleared 0 328 s → Pages (shown_of r) n Accepted s'
page-shown {r} {a} {s} n e F l c =
    rw e (record { answer = refl; page = c ∙ pad 0 328 (page_of a.quality) s F (sym (page-size a.quality)) ∙ rw l })

-- zeros alone
pub zeros-shown : {n : ℕ} {s : List ℕ} (k : Refusal) → s ≡ replicate n 0 → Pages (refuses k) n (Err k) s
unfolding padded
zeros-shown {n} k c = let e : n - 0 ≡ n = omega arith in record { answer = refl; page = rw e c }

pub refusal-shown : {r : Assessed} {k : Refusal} {n : ℕ} {s : List ℕ} → r ≡ Err k → s ≡ replicate n 0 → Pages (shown_of r) n (Err k) s
refusal-shown {r} {k} e c = rw e (zeros-shown k c)

-- ---- the rule

shown-is : (o : Outcome Assessment) → shown_of (assessed_of o) ≡ page_outcome o
shown-is (refuses n) = refl
shown-is (gives a) = refl

module _ (d : Domain) (x : Lent) (w : Work) (n : ℕ) where
  -- 12, or 13 for a page that is too short
  pub rule-refused : {k : Refusal} {s : List ℕ} → before_verdict x.counts (ltb n 328) ≡ Err k → s ≡ replicate n 0 → Pages (page_rule d x w n) n (Err k) s
  unfolding page_rule
  rule-refused {k} e c = rw e (zeros-shown k c)

  -- what `quality` answers
  pub rule-shown : {r : Assessed} {v : Verdict} {s : List ℕ} → before_verdict x.counts (ltb n 328) ≡ Accepted → r ≡ assessed_of (quality_rule d x w) → Pages (shown_of r) n v s → Pages (page_rule d x w n) n v s
  unfolding page_rule
  rule-shown e f S = rw (e, ← shown-is (quality_rule d x w), ← f) S

-- a page that is not too short
pub long-enough : (c : Counts) (n : ℕ) → before_verdict c (ltb n 328) ≡ Accepted → 328 ≤ n
unfolding before_verdict
long-enough c n e = ltb-false n 328 (go (is_large c) (ltb n 328) e)
  where
    go : (a b : Bool) → cond a (Err refusals.Large) (cond b (Err refusals.Short) Accepted) ≡ Accepted → b ≡ false
    go true b h = absurd (let z : ◌≡◌ {A = ℕ} 0 1 = cc in omega arith)
    go false true h = absurd (let z : ◌≡◌ {A = ℕ} 0 1 = cc in omega arith)
    go false false h = refl

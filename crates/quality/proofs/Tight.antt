-- What an answer of `quality` says of the sheet: its tight is that of the rule, which says yes of closed sheets with a ring at each point; a valid sheet is tight. Assumes nothing.
use Prim.Native.Nat.{ℕ, ◌<◌}
use mathlib.Core.Path.{◌≡◌, refl, sym, ap, ◌∙◌}
use mathlib.Core.Bool.{Bool, true}
use native.Mathlib.Omega.{arith}
use Rattle.lists.proofs.Every.{and_left}
use Rattle.setting.specs.Settings.{Domain}
use Rattle.rule_sheet.specs.Quads.{valence}
use Rattle.rule_sheet.specs.Closed.{Closed, Rings}
use Rattle.rule_sheet.specs.Lent.{Lent, Work, held}
use Rattle.rule_sheet.specs.Outcomes.{after_test}
use Rattle.rule_admission.specs.Admission.{measurable}
use Rattle.sheet.proofs.Tests.{length-points}
use Rattle.rule_quality.specs.Census.{tight}
use Rattle.edges.specs.Steps.{edge_counts}
use Rattle.quality_counts.specs.Steps.{closed_by, tight_by}
use Rattle.quality_counts.proofs.Tight.{tight-counts}
use Rattle.quality_counts.proofs.Links.{tight-rings, rings-tight}
use Rattle.rule_quality.specs.declared.Measures.{Measures}
use Rattle.rule_quality.specs.Measure.{measure_rule}
use Rattle.rule_quality.specs.declared.report.Quality.{Quality}
use Rattle.rule_quality.specs.Quality.{is_valid, quality_of, with_counts, quality_rule, assessed_of}
use Rattle.quality.proofs.Accepted.{accepted}
use Rattle.std.specs.Prelude.{Ok, Err}
use Rattle.rule_sheet.specs.Verdicts.{Verdict, Accepted}
use Rattle.rule_quality.specs.Measure.{Measured}
use Rattle.rule_quality.specs.Quality.{Assessed}

-- the record of an answer, d for a refusal
abbrev record_or : Quality → Assessed → Quality
record_or d (Ok a) = a.quality
record_or d (Err k) = d

-- the tight of an answer, d for a refusal
abbrev tight_or : Bool → Assessed → Bool
tight_or d (Ok a) = a.is_tight
tight_or d (Err k) = d

-- 0 for a record, 1 for a refusal
abbrev is_refusal : Assessed → ℕ
is_refusal (Ok a) = 0
is_refusal (Err k) = 1

-- what an answer with a record tells: the tests admit the sheet, and the record and tight are those of its counts
pub record Told (d : Domain) (x : Lent) (w : Work) (q : Quality) (t : Bool) : Type 0 where
  pub admitted : measurable d x w ≡ Accepted
  pub measures : Measures
  pub measured : measure_rule d (held x) ≡ Ok measures
  pub is : q ≡ quality_of x.counts.points (held x).quads measures
  pub at_tight : t ≡ tight x.counts.points (held x).quads

module _ (d : Domain) (x : Lent) (w : Work) (q : Quality) (t : Bool) where
  pub told : assessed_of (quality_rule d x w) ≡ Ok (record { quality = q; is_tight = t }) → Told d x w q t
  unfolding quality_rule
  told e = go (measurable d x w) refl (measure_rule d (held x)) refl (rw (length-points x.counts.points x.points) at e)
    where
      go : (v : Verdict) → measurable d x w ≡ v → (m : Measured) → measure_rule d (held x) ≡ m → assessed_of (after_test v (with_counts x.counts.points (held x).quads m)) ≡ Ok (record { quality = q; is_tight = t }) → Told d x w q t
      go (Err k) ev m em h = absurd (let z : ◌≡◌ {A = ℕ} 1 0 = ap is_refusal h in omega arith)
      go (Ok u) ev (Err k) em h = absurd (let z : ◌≡◌ {A = ℕ} 1 0 = ap is_refusal h in omega arith)
      go (Ok u) ev (Ok m) em h = record { admitted = ev; measures = m; measured = em; is = sym (ap (record_or q) h); at_tight = sym (ap (tight_or t) h) }

  -- tight says yes: the sheet is closed, with one ring at each point
  pub yes-rings : assessed_of (quality_rule d x w) ≡ Ok (record { quality = q; is_tight = t }) → t ≡ true → Closed (held x).quads × Rings (held x).quads
  yes-rings e y =
      let T = told e in
      tight-rings x.counts.points (held x).quads (accepted d x w T.admitted).counts.good (sym T.at_tight ∙ y)

  -- and of such a sheet whose points are all in use it says yes
  pub rings-yes : assessed_of (quality_rule d x w) ≡ Ok (record { quality = q; is_tight = t }) → Closed (held x).quads → Rings (held x).quads → ((v : ℕ) → v < x.counts.points → 0 < valence (held x).quads v) → t ≡ true
  rings-yes e c r used =
      let T = told e in
      T.at_tight ∙ rings-tight x.counts.points (held x).quads (accepted d x w T.admitted).counts.good c r used

  -- a valid sheet is tight
  pub valid-tight : assessed_of (quality_rule d x w) ≡ Ok (record { quality = q; is_tight = t }) → is_valid q ≡ true → t ≡ true
  unfolding is_valid quality_of edge_counts closed_by tight_by
  valid-tight e y =
      let T = told e in
      let v : is_valid (quality_of x.counts.points (held x).quads T.measures) ≡ true = sym (ap is_valid T.is) ∙ y in
      T.at_tight ∙ tight-counts x.counts.points (held x).quads ∙ search (and_left)

-- An admitted sheet has what its counts and measures ask. Assumes nothing.
use Prim.Native.Nat.{ℕ, ◌≤◌, ◌<◌}
use mathlib.Core.Path.{◌≡◌, sym, ◌∙◌}
use mathlib.Core.Bool.{true}
use mathlib.Core.List.{List}
use native.Mathlib.Omega.{arith}
use lib.ListN.{length, take}
use Rattle.lists.proofs.Every.{every-at}
use Rattle.setting.specs.Settings.{Domain}
use Rattle.rule_sheet.specs.Quads.{all}
use Rattle.rule_sheet.specs.Flat.{quad_at, quads_of}
use Rattle.rule_sheet.specs.Tests.{proper, good_corners}
use Rattle.rule_sheet.specs.Lent.{Lent, Work, held}
use Rattle.rule_admission.specs.Admission.{measurable_verdict, measurable}
use Rattle.sheet.proofs.Tests.{length-points, bare-is, labels-match, all-tab, tested, some-quad, proper-of}
use Rattle.admission.proofs.Admitted.{admitted}
use Rattle.incidence.proofs.Corners.{cornered}
use Rattle.sheet.proofs.Corners.{Four, four-of}
use Rattle.quality.specs.Quality.{Measuring}
use Rattle.rule_sheet.specs.Verdicts.{Accepted}

-- ---- four corners are four points

four_below : {n a b c d : ℕ} → Four n a b c d → 4 ≤ n
four_below {n} {a} {b} {c} {d} F = omega (arith, F.a<, F.b<, F.c<, F.d<, F.ab, F.ac, F.ad, F.bc, F.bd, F.cd)

four-points : (n nq : ℕ) (Q : List ℕ) → all (proper n) (quads_of nq Q) ≡ true → 0 < nq → 4 ≤ n
unfolding quads_of
four-points n nq Q e h = four_below (four-of n _ _ _ _ (every-at (λ q. proper n (quad_at Q q)) nq 0 (sym (all-tab (proper n) (quad_at Q) nq) ∙ e) h))

-- ---- the sheet

pub accepted : (d : Domain) (x : Lent) (w : Work) → measurable d x w ≡ Accepted → Measuring x.counts (length x.points) x.quads (length x.labels) w.numbers w.floats
accepted d x w e =
    let A = admitted (measurable_verdict d) x w e in
    let F = tested (held x) A.accepted in
    let c = x.counts in
    let b = bare-is c x.points x.quads x.labels A.sheet.labels ∙ F.not_bare in
    let g : good_corners c.points (quads_of c.quads x.quads) (take c.labels x.labels) ≡ true = rw (length-points c.points x.points) at F.corners in
    let k = cornered c.points c.quads x.quads (take c.labels x.labels) g A.sheet.few.quads≤ A.sheet.quads in
    let p = proper-of c.points (quads_of c.quads x.quads) (take c.labels x.labels) g in
    let q = some-quad c x.points b in
    let four = four-points c.points c.quads x.quads p q in
    record {
      counts = record { sheet = k; good = p; points = A.sheet.few.points≤; some = q; room = A.work.work };
      measures = record { lent = A.sheet; some = q; labelled = labels-match c x.points b; corners = k.points };
      work = omega (arith, A.work.work, four, q);
      floats = omega (arith, A.work.floats);
    }

-- A sheet that a call's tests admit is accepted in the sense of demand 3. Assumes nothing.
use mathlib.Core.Path.{◌≡◌, ap, ◌∙◌}
use mathlib.Core.Bool.{false}
use lib.ListN.{length}
use lib.Seq.{length-take-le}
use borrow.Author.Tests.{le-ltb}
use Rattle.rule_sheet.specs.declared.Counts.{Counts}
use Rattle.rule_sheet.specs.Sheet.{counts_of}
use Rattle.rule_sheet.specs.Lent.{Lent, Work, held, limit, is_large}
use Rattle.rule_sheet.specs.Sound.{AcceptedSheet}
use Rattle.rule_admission.specs.Admission.{admits_after}
use Rattle.sheet.specs.Sheet.{Few, LentSheet}
use Rattle.sheet.proofs.Flat.{length-quads}
use Rattle.sheet.proofs.Tests.{length-points, tested}
use Rattle.admission.proofs.Admitted.{admitted}
use Rattle.rule_sheet.specs.Verdicts.{Verdict, Accepted}

-- the counts of the sheet that slices hold
pub counts-held : (x : Lent) → LentSheet x.counts (length x.points) (length x.quads) (length x.labels) → counts_of (held x) ≡ x.counts
counts-held x L = rw (length-points x.counts.points x.points, length-quads x.counts.quads x.quads, length-take-le x.counts.labels x.labels L.labels)

few-large : {c : Counts} → Few c → is_large c ≡ false
unfolding is_large
few-large {c} f = rw (le-ltb limit c.points f.points≤, le-ltb limit c.quads f.quads≤, le-ltb limit c.labels f.labels≤)

-- a call that passes its tests, v what it brings, was lent an accepted sheet
pub lent-accepted : (v : Verdict) (x : Lent) (w : Work) → admits_after v x w ≡ Accepted → AcceptedSheet (held x)
lent-accepted v x w e =
    let A = admitted v x w e in
    let T = tested (held x) A.accepted in
    record {
      not_large = ap is_large (counts-held x A.sheet) ∙ few-large A.sheet.few;
      not_bare = T.not_bare;
      corners = T.corners;
      masks = T.masks;
    }

-- Where `quality` answers, tight is a yes exactly if demand 3 may start from the sheet; and it stays so. Assumes nothing.
use mathlib.Core.Bool.{Bool, true}
use mathlib.Core.Path.{◌≡◌, refl, sym}
use Rattle.rule_sheet.specs.Lent.{Lent, held}
use Rattle.rule_sheet.specs.Sound.{AcceptedSheet, Sound}
use Rattle.rule_admission.specs.Admission.{measurable_verdict}
use Rattle.rule_quality.specs.declared.report.Quality.{Quality}
use Rattle.rule_quality.specs.Quality.{quality_rule, assessed_of}
use Rattle.sheet.proofs.Tests.{length-points}
use Rattle.admission.proofs.Accepted.{lent-accepted}
use Rattle.quality.proofs.Tight.{told, yes-rings, rings-yes}
use Rattle.safety.specs.Calls.{EveryList}
use Rattle.safety.proofs.Calls.{demand3}
use Rattle.safety_rules.proofs.Fine.{fine_of}
use Rattle.safety_tight.specs.Tight.{Assesses, TightIsSound, TightStays}
use Rattle.std.specs.Prelude.{Ok}

module _ (x : Lent) (q : Quality) (t : Bool) (A : Assesses x (Ok (record { quality = q; is_tight = t }))) where
  answered : assessed_of (quality_rule A.domain x A.work) ≡ Ok (record { quality = q; is_tight = t })
  answered = sym A.answer

  held-accepted : AcceptedSheet (held x)
  held-accepted = lent-accepted (measurable_verdict A.domain) x A.work (told A.domain x A.work q t answered).admitted

  yes-sound : t ≡ true → Sound (held x)
  yes-sound y =
      let C = yes-rings A.domain x A.work q t answered y in
      record { accepted = held-accepted; closed = C.0; rings = C.1 }

  sound-yes : Sound (held x) → t ≡ true
  sound-yes s = rings-yes A.domain x A.work q t answered s.closed s.rings (rw (length-points x.counts.points x.points) at (fine_of (held x) held-accepted).in_use)

pub tight-is-sound : TightIsSound
unfolding TightIsSound
tight-is-sound x q t A = (yes-sound x q t A, sound-yes x q t A)

pub tight-stays : TightStays
unfolding TightStays EveryList
tight-stays x q cs A run =
    let D = demand3 (held x) cs (yes-sound x q true A refl) run in
    record { demand = D; tight = λ y p t e B. sound-yes y p t B (rw e D.sound) }

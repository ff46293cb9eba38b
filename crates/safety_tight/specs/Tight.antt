-- A yes of `quality` to tight means that demand 3's claim holds of every list of calls from that sheet on. Document 02,
-- Point 3: "our trade now calls a core tight only if the quads around every point form one ring as well".
use Rattle.std.specs.Prelude.{Bool, true, ◌≡◌, List, Ok}
use Rattle.setting.specs.Settings.{Domain}
use Rattle.rule_sheet.specs.Lent.{Lent, Work, held}
use Rattle.rule_sheet.specs.Sound.{Sound}
use Rattle.rule_quality.specs.declared.report.Quality.{Quality}
use Rattle.rule_quality.specs.Quality.{quality_rule, assessed_of}
use Rattle.safety.specs.Calls.{Call, Run, after, Demand3}
use Rattle.rule_quality.specs.Quality.{Assessed}

-- `quality` of the sheet in x answered r: all that is known of it is the contract, for some domain and work slices
pub record Assesses (x : Lent) (r : Assessed) : Type 0 where
  pub domain : Domain
  pub work : Work
  pub answer : r ≡ assessed_of (quality_rule domain x work)

-- the first theorem: where `quality` answers with a record, tight is a yes exactly if the sheet is what demand 3 may
-- start from
unfoldable pub TightIsSound : Type 0
TightIsSound = (x : Lent) (q : Quality) (t : Bool) → Assesses x (Ok (record { quality = q; is_tight = t }))
    → (t ≡ true → Sound (held x)) × (Sound (held x) → t ≡ true)

-- what a list of calls from the sheet in x leaves: demand 3's claim, and wherever the sheet after them stands,
-- `quality` of it says tight if it answers with a record
pub record StaysTight (x : Lent) (cs : List Call) : Type 0 where
  pub demand : Demand3 (held x) cs
  pub tight : (y : Lent) (q : Quality) (t : Bool) → held y ≡ after (held x) cs
      → Assesses y (Ok (record { quality = q; is_tight = t }))
      → t ≡ true

-- the second theorem: every list of calls from a sheet that `quality` called tight
unfoldable pub TightStays : Type 0
TightStays = (x : Lent) (q : Quality) (cs : List Call)
    → Assesses x (Ok (record { quality = q; is_tight = true })) → Run (held x) cs
    → StaysTight x cs

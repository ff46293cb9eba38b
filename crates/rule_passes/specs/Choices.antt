-- What a pass chooses, and what stands where there is nothing.
use Rattle.std.proofs.Math.Option.{Option, none, some}
use Rattle.std.specs.Prelude.{Bool, true, false}
use Rattle.rule_sheet.specs.Quads.{Quad, quad}

-- what stands where a list has no quad
abbrev pub none_quad : Quad
none_quad = quad 0 0 0 0

-- of two candidates the first, unless the second alone may be taken or gains more: "the higher gain wins, the first
-- on a tie"
abbrev pub choose : {A : Type 0} → Bool → Bool → Bool → A → A → Option A
choose true true true x y = some y
choose true true false x y = some x
choose true false b x y = some x
choose false true b x y = some y
choose false false b x y = none

-- what was found, else what was there
abbrev pub take_or : {A : Type 0} → A → Option A → A
take_or st none = st
take_or st (some t) = t

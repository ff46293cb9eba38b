-- The tests of a call on a lent sheet. Document 01, "Numbers a setter may read": "Order for a lent sheet: 12, 13
-- (counts or work), 1, 5, 6, 7".
use Rattle.std.specs.Prelude.{cond, Ok, Err}
use Rattle.band.specs.Bands.{valid_of, measurable_of}
use Rattle.setting.specs.Settings.{Domain, Setting, band_in, domain_in}
use Rattle.rule_sheet.specs.Lent.{Lent, Work, held, room_in, lent_verdict}
use Rattle.rule_sheet.specs.Sheet.{sheet_verdict}
use Rattle.rule_sheet.specs.Verdicts.{Verdict, Accepted}
use Rattle.rule_sheet.specs.declared.Refusal.TheVariants.{Box}

-- a test, and another one where it finds nothing
abbrev pub and_then : Verdict → Verdict → Verdict
and_then (Ok u) v = v
and_then (Err n) v = Err n

-- 1, box: "levels, bounds or length fail `validate`"; document 02, Point 12: "every operation that tests a band refuses
-- a lower level that is not finite as box"
unfoldable pub domain_verdict : Domain → Verdict
domain_verdict d = cond (valid_of (band_in d)) Accepted (Err Box)

-- the same of a call that only measures: "Only quality, and with it the page and the corners per point, keeps the old
-- rule"
unfoldable pub measurable_verdict : Domain → Verdict
measurable_verdict d = cond (measurable_of (band_in d)) Accepted (Err Box)

-- the test of all that a call brings
abbrev pub setting_verdict : Setting → Verdict
setting_verdict s = domain_verdict (domain_in s)

-- 12 and 13, then a test of what the call brings, then 5, 6 and 7
unfoldable pub admits_after : Verdict → Lent → Work → Verdict
admits_after v x w = and_then (lent_verdict x.counts (room_in x) w) (and_then v (sheet_verdict (held x)))

-- the tests of a call: 12, 13, 1, 5, 6, 7
abbrev pub admits : Setting → Lent → Work → Verdict
admits s = admits_after (setting_verdict s)

-- the tests of a call that only measures, in the same order
abbrev pub measurable : Domain → Lent → Work → Verdict
measurable d = admits_after (measurable_verdict d)

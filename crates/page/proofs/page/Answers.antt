-- `page::page` meets its contract. Assumes nothing.
use mathlib.Core.Path.{sym, ◌∙◌}
use Rattle.page.proofs.Rule.{rule-refused, rule-shown, long-enough}
use Rattle.page.proofs.page.Goals as goal

pub returns-in-Err : goal.returns-in-Err
returns-in-Err c =
    record { answer = rule-refused _ _ _ _ (sym c.before_verdict-tested.ensures ∙ c.in-Err.is) c.clear.ensures; cleared = c.clear_work.ensures }

pub show-requires : goal.show-requires
show-requires c = long-enough _ _ (sym c.before_verdict-tested.ensures ∙ c.in_default.is)

pub returns : goal.returns
returns c =
    record { answer = rule-shown _ _ _ _ (sym c.before_verdict-tested.ensures ∙ c.in_default.is) c.quality-r.ensures.answer c.show.ensures; cleared = c.quality-r.ensures.cleared }

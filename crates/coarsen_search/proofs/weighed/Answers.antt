-- `coarsen_search::weighed` meets its contract. Assumes nothing.
use Rattle.coarsen_search.proofs.Choices.{falls_at, both-stay, first-end, second-end}
use Rattle.coarsen_search.proofs.weighed.Goals as goal

pub returns-in-Err-clause-best_value : goal.returns-in-Err-clause-best_value
returns-in-Err-clause-best_value c =
    falls_at _ _ _ _ _ _ _ _ _ _ _ (first-end c.args.g _ c.ends_of-ends.ensures) c.in-Err.ensures.stays_value

pub returns-in-Err-stay_around-clause-best_value : goal.returns-in-Err-stay_around-clause-best_value
returns-in-Err-stay_around-clause-best_value c =
    falls_at _ _ _ _ _ _ _ _ _ _ _ (second-end c.args.g _ c.ends_of-ends.ensures) c.in-Err-stay_around.ensures.stays_value

pub returns-clause-best_value : goal.returns-clause-best_value
returns-clause-best_value c =
    both-stay _ _ _ _ _ _ _ _ _ _ _ _ _ c.ends_of-ends.ensures c.in_default.ensures.stays_value c.in_default-stay_around.ensures.stays_value c.candidate_of-next.ensures c.better.ensures

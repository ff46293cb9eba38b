-- `page::put_page` meets its contract. Assumes nothing.
use native.Mathlib.Omega.{arith}
use mathlib.Core.Path.{◌≡◌, ◌∙◌}
use lib.ListN.{length}
use Rattle.lists.specs.Sort.{tabulate}
use Rattle.page.proofs.Rule.{eight-lines}
use Rattle.page.proofs.put_page.Goals.{After-put_line-6}
use Rattle.page.proofs.put_page.Goals as goal

-- six lines leave the slice as long as it came
six-kept : (c : After-put_line-6) → length c.put_line-6.new.page ≡ length c.args.page.now
six-kept c =
    c.put_line-6.auto.page ∙ c.put_line-5.auto.page ∙ c.put_line-4.auto.page ∙ c.put_line-3.auto.page ∙ c.put_line-2.auto.page ∙ c.put_line.auto.page

pub put_line-requires-7 : goal.put_line-requires-7
put_line-requires-7 c =
    record { j_in_bounds = omega (arith, six-kept (goal.at.put_line-requires-7 c).After-put_line-6, c.requires); name_len_bound = omega arith }

pub put_line-requires-8 : goal.put_line-requires-8
put_line-requires-8 c =
    record { j_in_bounds = omega (arith, c.put_line-7.auto.page ∙ six-kept (goal.at.put_line-requires-8 c).After-put_line-6, c.requires); name_len_bound = omega arith }

pub shape_of-page : goal.shape_of-page
shape_of-page c =
    c.put_line-8.auto.page ∙ c.put_line-7.auto.page ∙ six-kept (goal.at.shape_of-page c).After-put_line-6

pub returns : goal.returns
unfolding tabulate
returns c =
    eight-lines c.args.q c.args.page.now c.put_line.ensures c.put_line-2.ensures c.put_line-3.ensures c.put_line-4.ensures c.put_line-5.ensures c.put_line-6.ensures c.put_line-7.ensures c.put_line-8.ensures

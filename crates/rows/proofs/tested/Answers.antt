-- `rows::tested` meets its contract. Assumes nothing.
use borrow.Author.Rules.{rules}
use mathlib.Core.Path.{sym, ap, ◌∙◌}
use lib.Seq.{length-take-le}
use Rattle.rows.specs.Steps.{made_by}
use Rattle.rule_sheet.proofs.Exits.{exited}
use Rattle.rows.proofs.tested.Goals as goal

pub slice_bounds-constraints-end-2 : goal.slice_bounds-constraints-end-2
slice_bounds-constraints-end-2 c = sym (length-take-le _ _ (search rules))

pub constraints-requires : goal.constraints-requires
constraints-requires c =
    record { lent_sheet = c.requires.lent_sheet; masks_len = length-take-le _ _ c.requires.points_in_bounds }

pub returns-in_err-constraints : goal.returns-in_err-constraints
returns-in_err-constraints c =
    rw (exited _ _ c.from_residual.ensures.1)
    (ap (made_by c.args.c) (sym c.in_err-constraints.was ∙ c.constraints.ensures.value))

pub returns : goal.returns
returns c = ap (made_by c.args.c) (sym c.in_ok-constraints.was ∙ c.constraints.ensures.value)

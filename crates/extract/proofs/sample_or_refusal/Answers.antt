-- `extract::sample_or_refusal` meets its contract. Assumes nothing.
use native.Mathlib.Omega.{arith}
use mathlib.Core.Path.{sym, ◌∙◌}
use Rattle.extract.proofs.Stages.{samples-are, finite-are, sampled-refused, sampled-drawn}
use Rattle.extract.proofs.sample_or_refusal.Goals as goal

pub draw_or_refusal-requires : goal.draw_or_refusal-requires
draw_or_refusal-requires c =
    record { samples = samples-are c.args.g _ _ (rw c.requires.samples_len at c.sample_grid.ensures) (omega (arith, c.requires.n_bound)); n_in_bounds = c.requires.n_in_bounds }

pub returns-then-all_finite : goal.returns-then-all_finite
returns-then-all_finite c =
    let e = finite-are c.args.g _ _ (rw c.requires.samples_len at c.sample_grid.ensures) in
    sampled-drawn c.args.g c.args.n _ _ _ _ _ (sym e ∙ (sym c.all_finite.ensures ∙ c.if-all_finite.true)) c.draw_or_refusal.ensures

pub returns : goal.returns
returns c =
    let e = finite-are c.args.g _ _ (rw c.requires.samples_len at c.sample_grid.ensures) in
    sampled-refused c.args.g c.args.n _ _ _ _ (sym e ∙ (sym c.all_finite.ensures ∙ c.if-all_finite.false))

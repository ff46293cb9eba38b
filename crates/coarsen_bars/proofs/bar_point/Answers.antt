-- `coarsen_bars::bar_point` meets its contract. Assumes nothing.
use mathlib.Core.Path.{sym, ap, ◌∙◌}
use Prim.Native.Nat.{ℕ}
use borrow.Author.Tests.{ne_eqb}
use lib.Dec.{eqb}
use Rattle.coarsen_bars.proofs.Bars.{used-read, grounds-barred, barred-again, barred-first}
use Rattle.coarsen_bars.proofs.bar_point.Goals as goal

pub bounds-w-at : goal.bounds-w-at
bounds-w-at c = (used-read c.args.x c.requires.start_holds c.requires.x_lt_np).in_w

pub touch_around-requires : goal.touch_around-requires
touch_around-requires c =
    record { start_holds = grounds-barred c.args.x c.requires.start_holds c.requires.touched_holds c.requires.x_lt_np; x_lt_np = c.requires.x_lt_np }

pub returns-then-first : goal.returns-then-first
returns-then-first c =
    barred-first c.args.x c.requires.start_holds c.requires.touched_holds c.requires.x_lt_np c.touch_around.ensures.part c.touch_around.ensures.kept

pub returns-else-first : goal.returns-else-first
returns-else-first c =
    barred-again c.args.x c.requires.start_holds c.requires.touched_holds c.requires.x_lt_np (ap (λ (m : ℕ). eqb m 0) (sym (used-read c.args.x c.requires.start_holds c.requires.x_lt_np).is) ∙ ne_eqb _ _ c.if-first.false)

-- `regularize::clean_accepted` meets its contract. Assumes nothing.
use native.Mathlib.Omega.{arith}
use Rattle.regularize.proofs.Rule.{passable, quads-fit, cleans-of}
use Rattle.regularize.proofs.clean_accepted.Goals as goal

pub run_passes-count-requires : goal.run_passes-count-requires
run_passes-count-requires c = passable c.requires _ _ c.length.ensures

pub overflow_mul-nq : goal.overflow_mul-nq
overflow_mul-nq c = omega (arith, c.requires.sheet.few.quads≤)

pub clear_behind-requires : goal.clear_behind-requires
clear_behind-requires c = quads-fit c.requires c.run_passes-count.new.quads c.run_passes-count.auto.quads

pub returns : goal.returns
returns c =
    record { sheet = cleans-of c.requires _ _ c.length.ensures c.run_passes-count.ensures c.run_passes-count.auto.quads c.clear_behind.ensures }

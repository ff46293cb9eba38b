-- `quality::report::Quality::is_valid` meets its contract. Assumes nothing.
use Rattle.rule_quality.specs.Quality.{is_valid}
use Rattle.rule_quality.proofs.report.Quality.is_valid.Goals as goal

pub returns : goal.returns
unfolding is_valid
returns c = record { answer = cc }

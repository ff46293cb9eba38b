-- What a `?` returns for a refusal. Assumes nothing.
use mathlib.Core.Path.{◌≡◌, ◌∙◌, ap}
use Rattle.std.specs.Prelude.{Result, Err}
use Rattle.std.specs.Result.{IsErrAnd}
use Rattle.std.proofs.lemmas.Result.{err_from_is_err_and}
use Rattle.rule_sheet.specs.declared.Refusal.{Refusal}

pub exited : {T : Type 0} (r : Result T Refusal) (n : Refusal) → IsErrAnd r (λ m. m ≡ n) → r ≡ Err n
exited r n h = let p = err_from_is_err_and r h in p.1 ∙ ap Err p.2

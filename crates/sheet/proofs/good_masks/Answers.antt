-- `sheet::good_masks` meets its contract. Assumes nothing.
use Rattle.std.proofs.Common.{rules}
use Rattle.std.specs.Prelude.{IsTrue, EachIndex, ◌↔◌, get_or}
use Rattle.lists.proofs.Every.{every-each, every-at, bool_iff}
use Rattle.rule_sheet.specs.Tests.{good_mask}
use Rattle.sheet.proofs.good_masks.Goals as goal

pub returns : goal.returns
returns c =
    let each : IsTrue c.all.result ↔ EachIndex c.args.masks.now (λ k. IsTrue (good_mask (get_or c.args.masks.now k 0))) = search rules in
    bool_iff _ _ (λ e. every-each _ _ (each.0 e)) (λ e. each.1 (λ k h. every-at _ _ k e h))

-- `regularize_swap::bar_three` meets its contract. Assumes nothing.
use Rattle.rule_sheet.specs.Quads.{uses}
use Rattle.regularize_swap.proofs.Bars.{Marked, marks-kept, marked-then}
use Rattle.regularize_swap.proofs.bar_three.Goals as goal

pub bar_point-requires-2-clause-map_holds : goal.bar_point-requires-2-clause-map_holds
bar_point-requires-2-clause-map_holds c =
    marks-kept c.requires.map_holds c.bar_point.ensures.kept

pub bar_point-requires-3-clause-map_holds : goal.bar_point-requires-3-clause-map_holds
bar_point-requires-3-clause-map_holds c =
    marks-kept (marks-kept c.requires.map_holds c.bar_point.ensures.kept) c.bar_point-2.ensures.kept

pub returns-clause-part : goal.returns-clause-part
returns-clause-part c =
    let M : Marked c.args.np c.args.nq (uses c.args.a) c.args.w.now _ = record { marks = c.bar_point.ensures.part; kept = c.bar_point.ensures.kept } in
    let N : Marked c.args.np c.args.nq (uses c.args.b) _ _ = record { marks = c.bar_point-2.ensures.part; kept = c.bar_point-2.ensures.kept } in
    let O : Marked c.args.np c.args.nq (uses c.args.c) _ _ = record { marks = c.bar_point-3.ensures.part; kept = c.bar_point-3.ensures.kept } in
    (marked-then c.requires.map_holds (marked-then c.requires.map_holds M N) O).marks

-- `edges::kind_at` meets its contract. Assumes nothing.
use mathlib.Core.Path.{◌≡◌, sym, ◌∙◌}
use mathlib.Core.Bool.{true, false}
use Rattle.edges.proofs.Walk.{kind-none, kind-one, kind-more, kind-two}
use Prim.Native.Nat.{◌+◌}
use Rattle.lists.specs.Regions.{part}
use Rattle.edges.specs.Steps.{linked, goes_on}
use Rattle.edges.proofs.kind_at.Goals.{Else-goes_on, Else-is_linked, Else-not-is_linked}
use Rattle.edges.proofs.kind_at.Goals as goal

linked-yes : (c : Else-not-is_linked) → linked c.args.quads.now c.args.n (part c.args.order c.args.n c.args.w.now) c.args.i (c.args.i + 1) ≡ true
linked-yes c = sym c.is_linked.ensures ∙ c.if-not-is_linked.false

begins : (c : Else-goes_on) → goes_on c.args.quads.now (part c.args.order c.args.n c.args.w.now) c.args.i ≡ false
begins c = sym c.goes_on.ensures ∙ c.if-goes_on.false

no_more : (c : Else-is_linked) → linked c.args.quads.now c.args.n (part c.args.order c.args.n c.args.w.now) c.args.i (c.args.i + 2) ≡ false
no_more c = sym c.is_linked-2.ensures ∙ c.if-is_linked.false

pub returns-then-goes_on : goal.returns-then-goes_on
returns-then-goes_on c = kind-none _ _ _ _ (sym c.goes_on.ensures ∙ c.if-goes_on.true)

pub returns-then-not-is_linked : goal.returns-then-not-is_linked
returns-then-not-is_linked c =
    kind-one _ _ _ _ (begins (goal.at.returns-then-not-is_linked c).Else-goes_on) (sym c.is_linked.ensures ∙ c.if-not-is_linked.true)

pub returns-then-is_linked : goal.returns-then-is_linked
returns-then-is_linked c =
    kind-more _ _ _ _ (begins (goal.at.returns-then-is_linked c).Else-goes_on) (linked-yes (goal.at.returns-then-is_linked c).Else-not-is_linked) (sym c.is_linked-2.ensures ∙ c.if-is_linked.true)

pub returns-then-same_start : goal.returns-then-same_start
returns-then-same_start c =
    kind-two _ _ _ _ (begins (goal.at.returns-then-same_start c).Else-goes_on) (linked-yes (goal.at.returns-then-same_start c).Else-not-is_linked) (no_more (goal.at.returns-then-same_start c).Else-is_linked) true (sym c.same_start.ensures ∙ c.if-same_start.true)

pub returns : goal.returns
returns c =
    kind-two _ _ _ _ (begins (goal.at.returns c).Else-goes_on) (linked-yes (goal.at.returns c).Else-not-is_linked) (no_more (goal.at.returns c).Else-is_linked) false (sym c.same_start.ensures ∙ c.if-same_start.false)

use native.Mathlib.Omega.{arith}
use mathlib.Core.Path.{◌≡◌, sym, ◌∙◌}
use Rattle.coarsen_search.proofs.Choices.{tried_of, landing-asks, found_none, found-forbidden, found-refused, found-onto}
use Rattle.coarsen_search.proofs.search.Goals as goal

pub loop-k-init : goal.loop-k-init
loop-k-init c = record { found = sym (found_none _ _ _ _ _ _ _ _ _); first = tt; second = tt }

pub allowed-requires : goal.allowed-requires
allowed-requires c =
    record { start_holds = c.requires.start_holds; face_asks = (tried_of _ c.requires.search_asks c.loop-k-test.true c.diagonal_at-g.ensures).face; touched_holds = c.requires.touched_holds }

pub loop-k-preserved-then-not-allowed : goal.loop-k-preserved-then-not-allowed
loop-k-preserved-then-not-allowed c =
    record {
      found = found-forbidden c.args.np c.args.nq c.args.b c.args.len c.args.points.now c.args.quads.now c.args.labels.now c.args.w.now c.args.f _ _ _ _ c.loop-k.invariant.found c.diagonal_at-g.ensures c.allowed.ensures c.if-not-allowed.true;
      first = c.loop-k.invariant.first;
      second = c.loop-k.invariant.second;
    }

pub landing-requires : goal.landing-requires
landing-requires c =
    record { landing_asks = landing-asks c.requires.start_holds (tried_of _ c.requires.search_asks c.loop-k-test.true c.diagonal_at-g.ensures); np_in_bounds = c.requires.holding.points }

pub loop-k-preserved-in_default : goal.loop-k-preserved-in_default
loop-k-preserved-in_default c =
    record {
      found = found-refused c.args.np c.args.nq c.args.b c.args.len c.args.points.now c.args.quads.now c.args.labels.now c.args.w.now c.args.f _ _ _ _ _ c.loop-k.invariant.found c.diagonal_at-g.ensures c.allowed.ensures c.if-not-allowed.false c.landing.ensures c.in_default.is;
      first = c.loop-k.invariant.first;
      second = c.loop-k.invariant.second;
    }

pub weighed-r-requires : goal.weighed-r-requires
weighed-r-requires c =
    record { start_holds = c.requires.start_holds; diagonal_asks = tried_of _ c.requires.search_asks c.loop-k-test.true c.diagonal_at-g.ensures; np_in_bounds = c.requires.holding.points; nq_in_bounds = c.requires.holding.labels; w_value = sym c.allowed.ensures ∙ c.if-not-allowed.false }

pub loop-k-preserved : goal.loop-k-preserved
loop-k-preserved c =
    record {
      found = found-onto c.args.np c.args.nq c.args.b c.args.len c.args.points.now c.args.quads.now c.args.labels.now c.args.w.now c.args.f _ _ _ _ _ _ _ c.loop-k.invariant.found c.diagonal_at-g.ensures c.allowed.ensures c.if-not-allowed.false c.landing.ensures c.in-Some.is c.weighed-r.ensures.best_value;
      first = c.loop-k.invariant.second;
      second = c.weighed-r.ensures.noted;
    }

pub returns : goal.returns
returns c =
    let e : c.loop-k.k ≡ 2 = omega arith in
    record { choice_value = rw e at c.loop-k.invariant.found; noted = c.loop-k.invariant.first; noted_2 = c.loop-k.invariant.second }

-- What was seen.
use Rattle.std.proofs.Common.{rules, ◌≡◌, ◌<◌, length, false, slice_get, Some, None}
use Rattle.sab_block.specs.Kind.{is_atomic}
use Rattle.sab_block.specs.View.{kind_of}
use Rattle.sab_plan.specs.Call.{view_of, index_of}
use Rattle.sab_plan.specs.Place.{place_of}
use Rattle.sab_replay.proofs.OfExplain.Noting.{All-found}
use Rattle.sab_replay.proofs.OfExplain.Seeing.{blind_place, blind_kind, if_none}
use Rattle.sab_replay.specs.Explain.Explainer.{IsBlind}
use Rattle.sab_replay.proofs.explain.sight.look.Goals as goal

pub returns-clause-sight : goal.returns-clause-sight
returns-clause-sight c = record {
  call_is = search rules;
  view_is = search rules;
  place_is = search rules;
  readable = record { atomic = search rules; len = search rules; inside = search rules };
  value_is = search rules;
  expected_is = search rules;
  waiters_is = c.waiters_at.ensures.waiters;
  named =
      λ b e. All-found (λ a. a < length c.args.sim.now.plan.scripts) c.waiters_at.result b c.waiters_at.ensures.named e;
}

pub returns-in_err-place-clause-blind : goal.returns-in_err-place-clause-blind
returns-in_err-place-clause-blind c =
    let view_is : slice_get c.args.sim.now.plan.views (view_of c.in_ok-call.call) ≡ Some c.in_ok-view.view =
    search rules in
    let place_is : place_of c.in_ok-view.view (index_of c.in_ok-call.call) ≡ None = search rules in
    if_none (IsBlind c.args.sim.now c.args.call) c.from_residual-in_err-place.result
    (blind_place c.args.sim.now c.args.call c.in_ok-call.call c.in_ok-view.view (search rules) view_is place_is)

pub returns-then-not-is_atomic-clause-blind : goal.returns-then-not-is_atomic-clause-blind
returns-then-not-is_atomic-clause-blind c =
    let view_is : slice_get c.args.sim.now.plan.views (view_of c.in_ok-call.call) ≡ Some c.in_ok-view.view =
    search rules in
    let kind_is : is_atomic (kind_of c.in_ok-view.view.view) ≡ false = search rules in
    blind_kind c.args.sim.now c.args.call c.in_ok-call.call c.in_ok-view.view (search rules) view_is kind_is

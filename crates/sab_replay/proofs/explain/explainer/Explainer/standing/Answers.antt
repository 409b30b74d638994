-- What is reported about an agent is how it stands.
use Rattle.std.proofs.Common.{rules, subst, None}
use Rattle.std.specs.Prelude.{slice_index_or}
use Rattle.sab_sim.specs.Run.{Reaches}
use Rattle.sab_sim.specs.Sim.{SimParts}
use Rattle.sab_plan.specs.declared.standing.Standing.{Standing}
use Rattle.sab_object.specs.Object.{State}
use Rattle.sab_replay.specs.Explain.Fact.{IsLast}
use Rattle.sab_replay.specs.Explain.Standing.{IsStanding}
use Rattle.sab_replay.proofs.OfExplain.OneStanding.{IsStanding-one}
use Rattle.sab_replay.proofs.explain.explainer.Explainer.standing.Goals as goal

-- the answer
abbrev reported_standing : goal.After-at → Standing
reported_standing c =
    record {
      call = c.in_ok-call.call;
      place = c.place_named-place.result;
      since = slice_index_or c.self.inside.last
          c.args.agent None;
      at = c.at.result;
    }

stands : (c : goal.After-at) → IsStanding c.args.self.now.plan c.args.self.now.journal c.args.agent (reported_standing c)
stands c = record {
  call = search rules;
  place = search rules;
  since =
      subst (λ (t : SimParts). IsLast t.journal c.args.agent (slice_index_or c.self.inside.last c.args.agent None))
      c.self.view_is (c.self.invariant.1 c.args.agent (search rules));
  state = run.0;
  state_is = run.1;
  at = c.at.ensures run.0 run.1;
}
  where
    run : (S : State) × Reaches c.args.self.now.plan c.args.self.now.journal S
    run =
        let fits = c.journal.ensures.fits.run in subst (λ (t : SimParts). (S : State) × Reaches t.plan t.journal S)
        c.self.view_is (fits.0, fits.1)

pub returns-clause-standing : goal.returns-clause-standing
returns-clause-standing c = stands c

pub returns-clause-only : goal.returns-clause-only
returns-clause-only c other h =
    IsStanding-one c.args.self.now.plan c.args.self.now.journal c.args.agent other (reported_standing c) h (stands c)

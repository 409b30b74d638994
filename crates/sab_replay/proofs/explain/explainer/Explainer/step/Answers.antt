-- What was concluded is the entry's fact.
use Rattle.std.proofs.Common.{rules, ◌≡◌, ◌∙◌, ◌<◌, ◌≤◌, ℕ, List, Option, None, length, get_or, ap, subst, arith}
use Rattle.std.specs.Prelude.{slice_index_or}
use Rattle.sab_plan.specs.declared.entry.Entry.{Entry}
use Rattle.sab_plan.specs.declared.entry.What.TheVariants.{Began}
use Rattle.sab_plan.specs.declared.plan.TheConstants.Plan.{MAX_AGENTS}
use Rattle.sab_plan.specs.Plan.{PlanParts}
use Rattle.sab_sim.specs.Sim.{SimParts}
use Rattle.sab_plan.specs.declared.fact.Fact.{Fact}
use Rattle.sab_replay.specs.Explain.Fact.{IsFact}
use Rattle.sab_replay.specs.Explain.Explainer.{IsNoted, concluded}
use Rattle.sab_replay.proofs.OfExplain.Concluding.{fact_of}
use Rattle.sab_replay.proofs.OfExplain.Stepping.{Concludes, concludes}
use Rattle.sab_replay.proofs.OfExplain.OneFact.{IsFact-one, NamesWaker-fact}
use Rattle.sab_replay.proofs.explain.explainer.Explainer.step.Goals as goal

-- the entry that was read, and its fact
abbrev entry_first : goal.After-woken → Entry
entry_first c =
    get_or c.journal.result.now (length c.journal-position.result.now) (record { agent = 0; call = 0; what = Began })

abbrev first_reported_fact : goal.After-woken → Fact
first_reported_fact c =
    fact_of c.before_move-before.result (slice_index_or c.self.inside.last c.agent-agent.result None)
    c.conclude-found.result

few_first : (c : goal.After-woken) → length c.self.inside.sim.plan.scripts ≤ MAX_AGENTS
few_first c =
    subst (λ (p : PlanParts). length p.scripts ≤ MAX_AGENTS) c.plan.ensures c.scripts.ensures.valid.limits.agents

all_first : (c : goal.After-woken)
    → Concludes c.self.inside.sim c.step.new.self c.agent-agent.result (entry_first c) (first_reported_fact c)
    (length c.journal-position.result.now) c.self.inside.wakers c.self.inside.last
all_first c =
    let within : c.agent-agent.result < length c.self.inside.sim.plan.scripts = search rules in
    let size : length c.self.inside.last ≡ MAX_AGENTS = search rules in
    let most = few_first c in
    concludes c.self.inside.sim c.step.new.self c.args.m c.agent-agent.result c.journal.result.now
    c.journal-position.result.now (record { agent = 0; call = 0; what = Began }) c.before_move-before.result
    c.self.inside.wakers c.self.inside.last (first_reported_fact c)
    c.journal-position.ensures.fits c.journal.ensures.fits c.journal-position.ensures.line c.step.ensures.plan
    c.in_ok-step.ensures.moves c.in_ok-step.ensures.journal c.journal-position.ensures.journal
    c.journal.ensures.journal c.agent-agent.ensures within most size
    c.before_move-before.ensures c.self.invariant.0 c.self.invariant.1
    (ap (fact_of c.before_move-before.result (slice_index_or c.self.inside.last c.agent-agent.result None))
    (c.conclude-found.ensures ∙ ap (λ (w : Option ℕ). concluded (entry_first c).what c.before_move-before.result.sight w
    c.before_move-before.result.failing c.step.new.self.blocks) c.then_some-waker.ensures))

pub note_woken-requires : goal.note_woken-requires
note_woken-requires c =
    let named = (all_first c).named in
    let most = few_first c in
    rw c.woken.ensures (λ k d l. let below = named k d l in omega (arith, below, most))

-- the entry that was read, and its fact
abbrev entry : goal.After-note_last → Entry
entry c =
    get_or c.journal.result.now (length c.journal-position.result.now) (record { agent = 0; call = 0; what = Began })

abbrev reported_fact : goal.After-note_last → Fact
reported_fact c =
    fact_of c.before_move-before.result (slice_index_or c.self.inside.last c.agent-agent.result None)
    c.conclude-found.result

few : (c : goal.After-note_last) → length c.self.inside.sim.plan.scripts ≤ MAX_AGENTS
few c =
    subst (λ (p : PlanParts). length p.scripts ≤ MAX_AGENTS) c.plan.ensures c.scripts.ensures.valid.limits.agents

all : (c : goal.After-note_last)
    → Concludes c.self.inside.sim c.step.new.self c.agent-agent.result (entry c) (reported_fact c)
    (length c.journal-position.result.now) c.self.inside.wakers c.self.inside.last
all c =
    let within : c.agent-agent.result < length c.self.inside.sim.plan.scripts = search rules in
    let size : length c.self.inside.last ≡ MAX_AGENTS = search rules in
    let most = few c in
    concludes c.self.inside.sim c.step.new.self c.args.m c.agent-agent.result c.journal.result.now
    c.journal-position.result.now (record { agent = 0; call = 0; what = Began }) c.before_move-before.result
    c.self.inside.wakers c.self.inside.last (reported_fact c)
    c.journal-position.ensures.fits c.journal.ensures.fits c.journal-position.ensures.line c.step.ensures.plan
    c.in_ok-step.ensures.moves c.in_ok-step.ensures.journal c.journal-position.ensures.journal
    c.journal.ensures.journal c.agent-agent.ensures within most size
    c.before_move-before.ensures c.self.invariant.0 c.self.invariant.1
    (ap (fact_of c.before_move-before.result (slice_index_or c.self.inside.last c.agent-agent.result None))
    (c.conclude-found.ensures ∙ ap (λ (w : Option ℕ). concluded (entry c).what c.before_move-before.result.sight w
    c.before_move-before.result.failing c.step.new.self.blocks) c.then_some-waker.ensures))

pub invariant_of-self-2 : goal.invariant_of-self-2
invariant_of-self-2 c = (
  (all c).wakers_are c.note_woken.new.wakers (subst
      (λ (ws : List ℕ). IsNoted ws (length c.journal-position.result.now) c.self.inside.wakers c.note_woken.new.wakers)
      c.woken.ensures c.note_woken.ensures),
  (all c).last_are c.note_last.new.last c.note_last.ensures,
)

-- the entry's fact
the_fact : (c : goal.After-note_last) → IsFact c.args.self.now.plan c.args.self.now.journal (entry c) (reported_fact c)
the_fact c = subst (λ (t : SimParts). IsFact t.plan t.journal (entry c) (reported_fact c)) c.self.view_is (all c).fact_is

pub returns-clause-fact : goal.returns-clause-fact
returns-clause-fact c = the_fact c

pub returns-clause-only : goal.returns-clause-only
returns-clause-only c other h =
    IsFact-one c.args.self.now.plan c.args.self.now.journal (entry c) other (reported_fact c) h (the_fact c)

pub returns-clause-waker : goal.returns-clause-waker
returns-clause-waker c = NamesWaker-fact c.args.self.now.plan c.args.self.now.journal (entry c) (reported_fact c) (the_fact c)

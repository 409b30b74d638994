-- The last of the agent's events below the clock's bound is the last that happens before the event.
use Rattle.std.proofs.Common.{◌≡◌, ℕ, min, slice_index, ap, subst, ◌∙◌}
use Rattle.sab_judge.specs.Sought.{IsLastBelow, OfAgent}
use Rattle.sab_judge.proofs.Seeing.{last_below_is_seen}
use Rattle.sab_judge.proofs.judging.last_seen.Goals as goal

pub returns : goal.returns
returns c =
    let bound : c.min-bound.result ≡ min (slice_index c.args.clock.now.bounds c.args.agent) c.args.j =
    c.min-bound.ensures ∙ ap (λ (x : ℕ). min x c.args.j) c.bound.ensures in
    last_below_is_seen c.args.agent c.last_of_agent.result c.requires.event_clock c.requires.other
    (subst (λ (n : ℕ). IsLastBelow c.args.trace.now (OfAgent c.args.agent) n c.last_of_agent.result) bound
    c.last_of_agent.ensures)

-- What the later agent of a race has seen of the earlier one.
use Rattle.std.proofs.Common.{◌≡◌, ◌≢◌, ℕ, ◌<◌, List, Option, Some, None, sym, ◌∙◌, arith, min, slice_index}
use Rattle.std.proofs.lemmas.Grind.{common_steps}
use Rattle.std.proofs.lemmas.Bool.{false≢true, cases_lt, eq-eqb, eqb-true}
use Rattle.sab_judge.specs.declared.event.Event.{Event}
use Rattle.sab_judge.specs.declared.clock.Clock.{Clock}
use Rattle.sab_judge.specs.Event.{agent_at}
use Rattle.sab_judge.specs.HappensBefore.{HappensBefore}
use Rattle.sab_judge.specs.Sought.{IsLastBelow, OfAgent}
use Rattle.sab_judge.specs.Clock.{HasClock}
use Rattle.sab_judge.specs.Verdict.{IsLastSeen}
use Rattle.sab_judge.proofs.LastSteps.{before_earlier}

-- what happens before the event is below its clock's bound for the agent, and earlier
below_bound : {trace : List Event} {j : ℕ} {clock : Clock} (agent k : ℕ) → HasClock trace j clock
    → agent_at trace k ≡ agent → HappensBefore trace k j → k < min (slice_index clock.bounds agent) j
below_bound {trace} {j} {clock} agent k c by before =
    grind (arith, common_steps, slice_index, agent_at, before_earlier)

-- the last of another agent's events below the bound is the last that happens before the event
pub last_below_is_seen : {trace : List Event} {j : ℕ} {clock : Clock} (agent : ℕ) (found : Option ℕ)
    → HasClock trace j clock → agent ≢ agent_at trace j
    → IsLastBelow trace (OfAgent agent) (min (slice_index clock.bounds agent) j) found → IsLastSeen trace agent j found
last_below_is_seen {trace} {j} {clock} agent None c other none = λ k by before.
    false≢true (sym (none k (below_bound agent k c by before)) ∙ eq-eqb _ _ by)
last_below_is_seen {trace} {j} {clock} agent (Some m) c other (below, hit, after) =
    grind (arith, common_steps, agent_at, cases_lt, false≢true, below_bound, eq-eqb, eqb-true, slice_index)

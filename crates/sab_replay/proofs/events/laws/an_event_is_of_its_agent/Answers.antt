-- What is no act accesses nothing.
use Rattle.sab_replay.proofs.OfEvents.Reporting.{is_of_its_agent}
use Rattle.sab_replay.proofs.events.laws.an_event_is_of_its_agent.Goals as goal

pub returns : goal.returns
returns c = is_of_its_agent

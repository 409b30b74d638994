-- Each entry that has an effect is noted of its own agent.
use Rattle.sab_replay.proofs.OfReport.LastNoted.{notes_last}
use Rattle.sab_replay.proofs.report.laws.the_last_entry_of_an_agent_is_noted.Goals as goal

pub returns : goal.returns
returns c = notes_last

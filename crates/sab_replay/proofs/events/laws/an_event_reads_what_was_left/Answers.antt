-- No event between the two writes the byte.
use Rattle.sab_replay.proofs.OfEvents.Runs.{reads_what_was_left}
use Rattle.sab_replay.proofs.events.laws.an_event_reads_what_was_left.Goals as goal

pub returns : goal.returns
returns c = reads_what_was_left

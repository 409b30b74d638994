-- An act changes what it writes.
use Rattle.sab_replay.proofs.OfEvents.Runs.{changes_what_it_writes}
use Rattle.sab_replay.proofs.events.laws.an_entry_changes_what_its_event_writes.Goals as goal

pub returns : goal.returns
returns c = changes_what_it_writes

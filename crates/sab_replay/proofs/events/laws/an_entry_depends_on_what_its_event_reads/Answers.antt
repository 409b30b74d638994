-- An act does the same wherever what it reads is the same.
use Rattle.sab_replay.proofs.OfEvents.Depending.{depends_on_what_it_reads}
use Rattle.sab_replay.proofs.events.laws.an_entry_depends_on_what_its_event_reads.Goals as goal

pub returns : goal.returns
returns c = depends_on_what_it_reads

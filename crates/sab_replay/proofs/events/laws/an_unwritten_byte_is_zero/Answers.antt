-- Blocks begin with zeros.
use Rattle.sab_replay.proofs.OfEvents.Runs.{reads_zeros}
use Rattle.sab_replay.proofs.events.laws.an_unwritten_byte_is_zero.Goals as goal

pub returns : goal.returns
returns c = reads_zeros

use Rattle.sab_trace.proofs.OneTrace.{one_trace}
use Rattle.sab_trace.proofs.laws.bytes_spell_one_trace.Goals as goal

pub returns : goal.returns
returns c = one_trace

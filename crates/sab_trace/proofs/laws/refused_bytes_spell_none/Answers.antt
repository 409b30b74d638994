use Rattle.sab_trace.proofs.OneTrace.{refused_spell_none}
use Rattle.sab_trace.proofs.laws.refused_bytes_spell_none.Goals as goal

pub returns : goal.returns
returns c = refused_spell_none

-- The texts of a move's refusals.
use Rattle.std.specs.Prelude.{ℕ, List, codes}
use Rattle.sab_sim.specs.declared.sim_fault.SimFault.{SimFault}
use Rattle.sab_sim.specs.declared.sim_fault.SimFault.TheVariants.{NoAgent, Full, OutOfMemory}

-- the table of texts
abbrev pub text_of : SimFault → List ℕ
text_of NoAgent = codes "the move names no agent"
text_of Full = codes "the journal is full"
text_of OutOfMemory = codes "there is no memory for the move"

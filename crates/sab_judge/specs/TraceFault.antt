-- The texts of a trace's refusals.
use Rattle.std.specs.Prelude.{ℕ, List, codes}
use Rattle.sab_judge.specs.declared.trace_fault.TraceFault.{TraceFault}
use Rattle.sab_judge.specs.declared.trace_fault.TraceFault.TheVariants.{Full, NoAgent, OutOfRange, OutOfMemory}

-- the table of texts
abbrev pub text_of : TraceFault → List ℕ
text_of Full = codes "the trace has as many events as it can have"
text_of NoAgent = codes "the event is of an agent that can't be there"
text_of OutOfRange = codes "the event is at bytes that no block can have"
text_of OutOfMemory = codes "out of memory"

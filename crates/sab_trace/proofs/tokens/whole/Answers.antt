use Rattle.std.proofs.lemmas.Grind.{common_steps}
use Rattle.std.proofs.Common.{arith}
use Rattle.json.specs.Reads.{token_of}
use Rattle.sab_trace.proofs.TokenReads.{if_some, number_reads}
use Rattle.sab_trace.proofs.tokens.whole.Goals as goal

pub returns-in-Number : goal.returns-in-Number
returns-in-Number c = grind (arith, common_steps, if_some, number_reads, token_of, c.in-Number.is, c.integer.ensures)

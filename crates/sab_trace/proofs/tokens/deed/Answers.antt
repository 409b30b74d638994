use Rattle.std.proofs.lemmas.Grind.{common_steps}
use Rattle.std.proofs.Common.{arith}
use Rattle.json.specs.Reads.{token_of}
use Rattle.sab_trace.proofs.TokenReads.{if_some, text_reads}
use Rattle.sab_trace.proofs.tokens.deed.Goals as goal

pub returns-in-String : goal.returns-in-String
returns-in-String c = grind (arith, common_steps, if_some, text_reads, token_of, c.in-String.is, c.of.ensures.some)

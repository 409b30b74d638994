use Rattle.std.proofs.Common.{ap}
use Rattle.json.specs.Reads.{token_of}
use Rattle.sab_trace.proofs.TokenReads.{flag_reads}
use Rattle.sab_trace.proofs.tokens.flag.Goals as goal

pub returns-in-Bool : goal.returns-in-Bool
returns-in-Bool c = flag_reads (token_of c.args.token) c.in-Bool.flag (ap token_of c.in-Bool.is)

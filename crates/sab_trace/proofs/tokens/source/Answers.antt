use Rattle.std.proofs.Common.{None, Some, ap, inl, inr}
use Rattle.json.specs.Reads.{token_of}
use Rattle.sab_trace.proofs.TokenReads.{null_reads, text_reads}
use Rattle.sab_trace.proofs.tokens.source.Goals as goal

pub returns-in-Null : goal.returns-in-Null
returns-in-Null c = elim c.in-Null.is [
  | inl e ↦ (None, null_reads (token_of c.args.token) (ap token_of e))
  | inr p ↦ (Some p.0.now, text_reads (token_of c.args.token) p.0.now (ap token_of p.1))
]

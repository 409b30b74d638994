use Rattle.std.proofs.Common.{arith}
use Rattle.sab_reader.proofs.OfScript.Tokens.{holds_by}
use Rattle.sab_reader.proofs.script.plain.blocks.scan_len.Goals as goal

pub returns-in-Some : goal.returns-in-Some
returns-in-Some c = holds_by c.args.element.now (λ d h. (h.0, omega (arith, h.1))) c.in-Some.ensures.reported

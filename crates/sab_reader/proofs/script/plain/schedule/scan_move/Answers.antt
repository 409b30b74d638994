use Rattle.std.proofs.Common.{arith}
use Rattle.sab_reader.proofs.OfScript.Tokens.{holds_deeper}
use Rattle.sab_reader.proofs.script.plain.schedule.scan_move.Goals as goal

pub returns-in-Some : goal.returns-in-Some
returns-in-Some c = holds_deeper 0 1 c.args.element.now (omega arith) c.in-Some.ensures.reported

use Rattle.std.proofs.Common.{length}
use Rattle.sab_trace.proofs.PlainLines.{HasRead}
use Rattle.sab_trace.proofs.plain.scan_members.Given as goal

abbrev pub invariant-loop-name : goal.invariant-loop-name
invariant-loop-name l = HasRead l.fn.reader l.reader l.found

abbrev pub decreases-loop-name : goal.decreases-loop-name
decreases-loop-name l = length l.reader

use Rattle.std.proofs.Common.{◌-◌, ◌*◌, ◌+◌, ◌^◌}
use Rattle.sab_trace.specs.Progress.{most_read}
use Rattle.sab_trace.proofs.Pieces.{HasRead}
use Rattle.sab_trace.proofs.reading.read_trace.Given as goal

abbrev pub invariant-loop-n : goal.invariant-loop-n
invariant-loop-n g l = HasRead (g.R.Read.remaining l.fn.r) (g.R.Read.remaining l.r) l.trace l.line

abbrev pub decreases-loop-n : goal.decreases-loop-n
decreases-loop-n g l = 2 ^ 20 * 1025 + 1025 - most_read l.trace l.line

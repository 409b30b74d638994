use Rattle.std.proofs.Common.{length}
use Rattle.sab_trace.proofs.Pieces.{HasReadPiece}
use Rattle.sab_trace.proofs.reading.read_piece.Given as goal

abbrev pub invariant-loop-ended : goal.invariant-loop-ended
invariant-loop-ended l = HasReadPiece l.piece l.rest l.fn.trace l.fn.line l.trace l.line

abbrev pub decreases-loop-ended : goal.decreases-loop-ended
decreases-loop-ended l = length l.rest

use Rattle.std.proofs.Common.{◌≡◌, take}
use Rattle.sab_race.specs.Moves.{moves_of}
use Rattle.sab_race.proofs.script_moves.moves.Given as goal

abbrev pub invariant-loop-call : goal.invariant-loop-call
invariant-loop-call l = l.moves.items ≡ moves_of (take l.call-index l.call-items) l.agent l.spins

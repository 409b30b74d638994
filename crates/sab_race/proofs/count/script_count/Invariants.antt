use Rattle.std.proofs.Common.{◌≡◌, ◌≤◌, ◌*◌, length, take}
use Rattle.sab_race.specs.Moves.{moves_of}
use Rattle.sab_race.proofs.count.script_count.Given as goal

abbrev pub invariant-loop-call : goal.invariant-loop-call
invariant-loop-call l =
    (l.total ≡ length (moves_of (take l.call-index l.call-items) 0 l.spins)) × (l.total ≤ l.call-index * 1005)

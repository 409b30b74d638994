use Rattle.std.proofs.Common.{◌≡◌, ◌≤◌, ◌*◌, take}
use Rattle.sab_race.specs.Moves.{count_of}
use Rattle.sab_race.proofs.count.count_moves.Given as goal

abbrev pub invariant-loop-script : goal.invariant-loop-script
invariant-loop-script l =
    (l.total ≡ count_of (take l.script-index l.scripts) l.spins) × (l.total ≤ l.script-index * 1005000)

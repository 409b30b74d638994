use Rattle.std.proofs.Common.{◌+◌, ◌-◌, ◌≤◌}
use Rattle.sab_judge.specs.Readers.{HaveNoted}
use Rattle.sab_judge.proofs.data_race.count_read_from.Given as goal

-- those from which the bytes so far are read are noted, and counted
abbrev pub invariant-loop-byte : goal.invariant-loop-byte
invariant-loop-byte l = record {
  low : l.access.place.byte ≤ l.byte;
  high : l.byte ≤ l.access.place.byte + l.access.len;
  noted : HaveNoted l.trace l.j l.access.place.block l.access.place.byte l.byte l.readers l.count;
}

abbrev pub decreases-loop-byte : goal.decreases-loop-byte
decreases-loop-byte l = l.end - l.byte

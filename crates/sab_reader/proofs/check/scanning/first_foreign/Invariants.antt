use Rattle.std.proofs.Common.{◌≡◌, take}
use Rattle.sab_reader.specs.Check.Foreign.{side_after, HasNoneBefore}
use Rattle.sab_reader.proofs.check.scanning.first_foreign.Given as goal

abbrev pub invariant-loop-at : goal.invariant-loop-at
invariant-loop-at l = record {
  side : l.side ≡ side_after (take l.at l.text);
  none : HasNoneBefore l.text l.at;
}

use Rattle.std.proofs.Common.{◌≡◌, ◌≤◌, ◌+◌, take}
use Rattle.sab_refusal.specs.Syntax.Spot.{spot}
use Rattle.sab_refusal.specs.Syntax.Spot.{spot_after}
use Rattle.sab_refusal.proofs.syntax.spot.Spot.after.Given as goal

abbrev pub invariant-loop-byte : goal.invariant-loop-byte
invariant-loop-byte l = record {
  place : spot l.line l.column ≡ spot_after (take l.byte-index l.bytes);
  lines : l.line ≤ l.byte-index + 1;
  columns : l.column ≤ l.byte-index + 1;
}

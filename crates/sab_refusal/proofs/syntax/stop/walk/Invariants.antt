use Rattle.std.proofs.Common.{◌≡◌, ◌≤◌}
use Rattle.sab_refusal.specs.Syntax.Stop.{stop_of}
use Rattle.sab_refusal.proofs.OfSyntax.Walks.{walk_at}
use Rattle.sab_refusal.proofs.syntax.stop.walk.Given as goal

abbrev pub invariant-bytes : goal.invariant-bytes
invariant-bytes l = record {
  stops : walk_at l.text l.broken l.reader l.start l.at ≡ stop_of l.text;
  begun : l.start ≤ l.at;
}

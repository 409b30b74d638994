use Rattle.std.proofs.Common.{◌≡◌, ◌≤◌, ◌+◌, ◌++◌, take, length}
use Rattle.rtrb.specs.Ring.{sent, known_free, SameProducer}
use Rattle.sab_race.proofs.feeding.feed.Given as goal

abbrev pub invariant-loop-k : goal.invariant-loop-k
invariant-loop-k g l = record {
  ring : SameProducer l.fn.ring l.ring;
  sent : sent l.ring ≡ sent l.fn.ring ++ take l.k l.moves;
  room : length l.moves ≤ known_free l.ring + l.k;
}

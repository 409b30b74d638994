use Rattle.std.proofs.Common.{◌≡◌, ◌+◌, ◌++◌, length}
use Rattle.rtrb.specs.Ring.{received, known_items}
use Rattle.race_tests.proofs.feeding.feed_through.Given as goal

abbrev pub invariant-loop : goal.invariant-loop
invariant-loop g l = record {
  out : l.received.items ≡ received l.consumer;
  all : received l.consumer ++ known_items l.consumer ≡ l.moves;
  left : length (known_items l.consumer) + l.counter ≡ l.count;
}

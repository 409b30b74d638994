use Rattle.std.proofs.Common.{◌≡◌, ◌≤◌, ◌++◌, length, vec_capacity}
use Rattle.std.specs.Vec.Iter.{into_iter_items}
use Rattle.sab_plan.specs.Report.{items_of_each}
use Rattle.sab_sim.proofs.room.hand_over.Given as goal

-- the bytes of the blocks so far, and room for the rest
abbrev pub invariant-loop-block : goal.invariant-loop-block
invariant-loop-block l = record {
  items : l.yielded ++ into_iter_items l.block-iterator ≡ into_iter_items l.initial.block-iterator;
  handed : items_of_each l.room.items ≡ l.yielded;
  capacity : length (into_iter_items l.initial.block-iterator) ≤ vec_capacity l.room;
}

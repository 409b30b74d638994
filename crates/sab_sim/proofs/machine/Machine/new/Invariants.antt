use Rattle.std.proofs.Common.{◌≡◌, ◌≤◌, length, map, take, replicate, vec_capacity}
use Rattle.sab_sim.proofs.machine.Machine.new.Given as goal

-- the blocks of the lengths so far, and room for the rest
abbrev pub invariant-loop-len : goal.invariant-loop-len
invariant-loop-len l = record {
  blocks : l.blocks.items ≡ map (λ len. replicate len 0) (take l.len-index l.len-items);
  capacity : length l.len-items ≤ vec_capacity l.blocks;
}

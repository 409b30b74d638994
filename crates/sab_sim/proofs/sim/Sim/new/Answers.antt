-- No move was made.
use Rattle.std.proofs.Common.{rules}
use Rattle.sab_sim.proofs.KeptFits.{IsKept-opening}
use Rattle.sab_sim.proofs.sim.Sim.new.Goals as goal

pub invariant_of-result : goal.invariant_of-result
invariant_of-result c = (
  rw (c.new-2.ensures.items, c.new-3.ensures.items)
      (IsKept-opening c.args.plan c.in_ok-machine.machine c.block_lens.ensures.valid c.in_ok-machine.ensures),
  record {
    no_bytes = c.in_ok-block_room.ensures.items;
    bytes_room = search rules;
    no_agents = c.in_ok-agent_room.ensures.items;
    agents_room = search rules;
  },
)

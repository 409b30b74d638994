-- One move keeps the simulator.
use Rattle.std.proofs.Common.{rules}
use Rattle.sab_sim.proofs.KeptFits.{IsKept-ready, IsKept-push}
use Rattle.sab_sim.proofs.sim.Sim.step.Goals as goal

pub turn-entry-requires : goal.turn-entry-requires
turn-entry-requires c =
    let sim = c.self.inside in
    IsKept-ready sim.plan sim.moves.items sim.journal.items sim.machine _ c.self.invariant.0 (search rules)

pub invariant_of-self-2 : goal.invariant_of-self-2
invariant_of-self-2 c =
    let sim = c.self.inside in
    let moves = c.push_reserved.ensures.items in
    let journal = c.push_reserved-2.ensures.items in
    rw (moves, journal, c.try_reserve.ensures.items, c.try_reserve-else-is_err.ensures.items) (
      IsKept-push sim.plan sim.moves.items sim.journal.items sim.machine c.args.m c.turn-entry.result
          c.turn-entry.new.self c.self.invariant.0 (search rules) (search rules)
          c.turn-entry.ensures.agent c.turn-entry.ensures.kind c.turn-entry.ensures.turns,
      c.self.invariant.1,
    )

-- A wait with a timeout ends.
use Rattle.std.proofs.Common.{sym, ◌∙◌}
use Rattle.sab_sim.specs.Agent.{agent_at}
use Rattle.sab_sim.proofs.OwnMoves.{has_turn}
use Rattle.sab_sim.proofs.LineMoves.{waiting_is, timed_turn}
use Rattle.sab_sim.proofs.machine.Machine.time_up.Goals as goal

pub returns-clause-turns : goal.returns-clause-turns
returns-clause-turns c =
    let turn = has_turn c.args.plan.now c.args.self.now c.args.a c.requires in
    let waiting = rw c.agent-returned.ensures at (sym c.is_waiting.ensures ∙ c.if-not-is_waiting.false) in
    let timed = rw c.agent-returned.ensures at (sym c.is_timed.ensures ∙ c.if-not-is_timed.false) in
    let waits = waiting_is (agent_at c.args.self.now.agents c.args.a).phase waiting in
    rw (c.put.ensures, c.agent-returned.ensures) (timed_turn turn waits.0 waits.1 waits.2 timed)

-- The line by tickets is the object's.
use Rattle.std.proofs.lemmas.Grind.{common_steps}
use Rattle.std.proofs.Common.{length, subst, List, arith}
use Rattle.sab_sim.specs.declared.agent.Agent.{Agent}
use Rattle.sab_object.specs.Object.{waiters}
use Rattle.sab_sim.specs.Line.{IsLine}
use Rattle.sab_sim.proofs.PlaceLine.{line_at-kept, line_within}
use Rattle.sab_sim.proofs.sim.Sim.waiters_at.Goals as goal

-- the line of the agents that are kept
is_line : (c : goal.After-line_at) → IsLine c.self.inside.machine.agents c.args.place c.line_at.result
is_line c = subst (λ (agents : List Agent). IsLine agents c.args.place c.line_at.result) c.agents.ensures
    c.line_at.ensures

pub returns-clause-waiters : goal.returns-clause-waiters
returns-clause-waiters c = grind (arith, common_steps, waiters, line_at-kept, c.self.invariant.0.kept)

pub returns-clause-named : goal.returns-clause-named
returns-clause-named c = grind (arith, common_steps, length, line_within, c.self.invariant.0.kept.size)

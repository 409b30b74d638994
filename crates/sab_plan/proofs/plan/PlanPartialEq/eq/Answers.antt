use Rattle.std.proofs.Common.{rules}
use Rattle.sab_plan.proofs.Equality.{decides_plans}
use Rattle.sab_plan.proofs.plan.PlanPartialEq.eq.Goals as goal

pub returns-then-eq-2-clause-same : goal.returns-then-eq-2-clause-same
returns-then-eq-2-clause-same c = decides_plans c.args.self.now c.args.other.now c.eq-then-eq-2.result (search rules)

pub returns-else-eq-2-clause-same : goal.returns-else-eq-2-clause-same
returns-else-eq-2-clause-same c = decides_plans c.args.self.now c.args.other.now c.if-eq.value (search rules)

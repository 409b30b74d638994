-- The texts of a plan's refusals.
use Rattle.std.specs.Prelude.{ℕ, List, codes}
use Rattle.sab_plan.specs.declared.plan_fault.PlanFault.{PlanFault}
use Rattle.sab_plan.specs.declared.plan_fault.PlanFault.TheVariants.{TooMany, NoBlock, NoView}

-- the table of texts
abbrev pub text_of : PlanFault → List ℕ
text_of TooMany = codes "the plan has more of something than it can have"
text_of NoBlock = codes "the plan has no block, or a view on a block that isn't there"
text_of NoView = codes "a view doesn't fit its block, or a call is on a view that isn't there"

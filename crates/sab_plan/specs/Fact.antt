-- What facts say by themselves.
use Rattle.std.specs.Prelude.{ℕ, List, []}
use Rattle.sab_plan.specs.declared.fact.Found.{Found}
use Rattle.sab_plan.specs.declared.fact.Found.TheVariants as F

-- the agents that were woken, oldest first
abbrev pub woken_in : Found → List ℕ
woken_in (F.Notified woken waiting) = woken
woken_in found = []

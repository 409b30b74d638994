-- Scripts.
use Rattle.std.specs.Prelude.{Bool, List}
use Rattle.sab_plan.specs.declared.call.Call.{Call}

-- what an agent is to do
pub record ScriptParts : Type 0 where
  pub can_block : Bool
  pub calls : List Call

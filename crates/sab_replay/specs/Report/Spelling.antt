-- What a line of JSON has for a call, and what a script spells for it.
use Rattle.std.specs.Prelude.{◌≡◌, ℕ, List}
use Rattle.serde_json.specs.Data.{Data}
use Rattle.sab_plan.specs.declared.call.Call.{Call}
use Rattle.sab_reader.specs.Script.Calls.{SpellsCall}
use Rattle.sab_report_text.specs.JsonLines.CallData.{call_data}

-- the `does` of a line of JSON spells the call, in a script with views of these names, and no other value spells it
pub record IsReportedAsSpelled (names : List (List ℕ)) (call : Call) : Type 0 where
  pub spelled : SpellsCall names (call_data names call) call
  pub only : (d : Data) → SpellsCall names d call → d ≡ call_data names call

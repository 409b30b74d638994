-- What each way to report a race's events stands for.
use Rattle.std.specs.Prelude.{ℕ, List, [], ⊤}
use Rattle.serde_json.specs.Data.{Data}
use Rattle.sab_report_text.specs.JsonLines.CallData.{AreNames}
use Rattle.sab_verdict.specs.declared.side.Side.{Side}
use Rattle.sab_verdict.specs.declared.sides.Sides.{Sides}
use Rattle.sab_verdict.specs.declared.sides.Sides.TheVariants.{Calls, Accesses}
use Rattle.sab_verdict.specs.Plain.{by_call, by_access, in_calls}
use Rattle.sab_verdict.specs.Json.{call_side, access_side, judged_calls, judged_trace}

-- in words
abbrev pub words_of : Sides → Side → List ℕ
words_of (Calls run) = by_call run.names.now run.plan.now run.journal.now
words_of Accesses = by_access

-- as JSON
abbrev pub data_of : Sides → Side → Data
data_of (Calls run) = call_side run.names.now run.plan.now run.journal.now
data_of Accesses = access_side

-- of what the accesses are
abbrev pub whose_of : Sides → List ℕ
whose_of (Calls run) = in_calls
whose_of Accesses = []

-- what is judged
abbrev pub judged_of : Sides → List ℕ
judged_of (Calls run) = judged_calls
judged_of Accesses = judged_trace

-- the names are of letters, digits and `_`, where there are some
abbrev pub HaveNames : Sides → Type 0
HaveNames (Calls run) = AreNames run.names.now
HaveNames Accesses = ⊤

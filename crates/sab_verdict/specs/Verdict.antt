-- The text of a verdict.
use Rattle.std.specs.Prelude.{ℕ, List, [], ◌++◌, length, flat_map}
use Rattle.serde_json.specs.Data.{Data}
use Rattle.sab_plan.specs.Plan.{PlanParts}
use Rattle.sab_plan.specs.declared.entry.Entry.{Entry}
use Rattle.sab_judge.specs.declared.event.Event.{Event}
use Rattle.sab_judge.specs.declared.race.Race.{Race}
use Rattle.sab_report_text.specs.JsonLines.Lines.{line}
use Rattle.sab_report_text.specs.declared.text.format.VerdictFormat.{VerdictFormat}
use Rattle.sab_report_text.specs.declared.text.format.VerdictFormat.TheVariants.{Plain, Json}
use Rattle.sab_verdict.specs.declared.side.Side.{Side}
use Rattle.sab_verdict.specs.Events.{side_at}
use Rattle.sab_verdict.specs.Plain.{by_call, by_access, in_calls, race_text, end_text}
use Rattle.sab_verdict.specs.Json.{call_side, access_side, judged_calls, judged_trace, race_data, count_data}

-- the line of a race of two events, by how the two are written in words, and by how they are written as JSON
abbrev pub race_line : VerdictFormat → (Side → List ℕ) → (Side → Data) → Race → Side → Side → List ℕ
race_line Plain words tree race first second = race_text words race first second
race_line Json words tree race first second = line (race_data tree race first second)

-- the same of events of the trace
abbrev pub line_of : VerdictFormat → (Side → List ℕ) → (Side → Data) → List Event → Race → List ℕ
line_of format words tree trace race =
    race_line format words tree race (side_at trace race.first) (side_at trace race.second)

-- what comes behind the races that are listed, if so many aren't, and so many of all are data races
abbrev pub last_line : VerdictFormat → List ℕ → List ℕ → List Event → List Race → ℕ → ℕ → List ℕ
last_line Plain whose judged trace races rest data_races = end_text whose trace races rest data_races
last_line Json whose judged trace races rest data_races = line (count_data judged trace (length races) rest data_races)

-- a line for each race that is listed, and what comes behind these lines
abbrev pub verdict_text : VerdictFormat → (Side → List ℕ) → (Side → Data) → List ℕ → List ℕ → List Event → List Race
    → ℕ → ℕ → List ℕ
verdict_text format words tree whose judged trace races rest data_races =
    flat_map (line_of format words tree trace) races ++ last_line format whose judged trace races rest data_races

-- of a script's run, whose events were made of the journal's entries
abbrev pub run_verdict_text : List (List ℕ) → PlanParts → List Entry → List Event → VerdictFormat → List Race → ℕ
    → ℕ → List ℕ
run_verdict_text names plan journal trace format =
    verdict_text format (by_call names plan journal) (call_side names plan journal) in_calls judged_calls trace

-- of a trace
abbrev pub trace_verdict_text : List Event → VerdictFormat → List Race → ℕ → ℕ → List ℕ
trace_verdict_text trace format = verdict_text format by_access access_side [] judged_trace trace

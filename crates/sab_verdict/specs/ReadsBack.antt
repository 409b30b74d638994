-- What a reader of JSON makes of the lines.
use Rattle.std.specs.Prelude.{ℕ, List, length, All}
use Rattle.serde_json.specs.Data.{Data}
use Rattle.sab_judge.specs.declared.event.Event.{Event}
use Rattle.sab_judge.specs.declared.race.Race.{Race}
use Rattle.sab_report_text.specs.JsonLines.ReadsBack.{ReadsBack}
use Rattle.sab_verdict.specs.declared.side.Side.{Side}
use Rattle.sab_verdict.specs.Events.{side_at}
use Rattle.sab_verdict.specs.Json.{race_data, count_data}

-- the line of a race, without its line feed, is read as its tree
abbrev pub RaceReadsBack : (Side → Data) → List Event → Race → Type 0
RaceReadsBack side_data trace race =
    ReadsBack (race_data side_data race (side_at trace race.first) (side_at trace race.second))

-- so is each line of a verdict: of each race that is listed, and the last, which names what is judged
pub record LinesReadBack (side_data : Side → Data) (judged : List ℕ) (trace : List Event) (reported : List Race)
    (rest data_races : ℕ) : Type 0 where
  pub races : All (RaceReadsBack side_data trace) reported
  pub count : ReadsBack (count_data judged trace (length reported) rest data_races)

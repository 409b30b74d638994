-- A verdict as JSON.
use Rattle.std.specs.Prelude.{ℕ, ◌-◌, List, codes, option_map}
use Rattle.serde_json.specs.Data.{Data, boolean, string, object, no_members, member}
use Rattle.sab_plan.specs.Plan.{PlanParts}
use Rattle.sab_plan.specs.declared.entry.Entry.{Entry}
use Rattle.sab_judge.specs.declared.event.Event.{Event}
use Rattle.sab_judge.specs.declared.race.Race.{Race}
use Rattle.sab_judge.specs.Order.{is_seq_cst}
use Rattle.sab_report_text.specs.JsonLines.Members.{member_if}
use Rattle.sab_report_text.specs.JsonLines.CallData.{natural, call_data}
use Rattle.sab_verdict.specs.declared.side.Side.{Side}
use Rattle.sab_verdict.specs.Events.{call_at, overlap_of, accesses_of, agents_of}

-- an event of a script's run, by its call
unfoldable pub call_side : List (List ℕ) → PlanParts → List Entry → Side → Data
call_side names plan journal side =
    object (member (codes "agent") (natural side.agent)
    (member_if (codes "does") (option_map (call_data names) (call_at plan journal side.at))
    (member (codes "entry") (natural side.at) no_members)))

-- an event of a trace, by its access
unfoldable pub access_side : Side → Data
access_side side =
    object (member (codes "agent") (natural side.agent)
    (member (codes "atomic") (boolean (is_seq_cst side.access.order))
    (member (codes "byte") (natural side.access.place.byte) (member (codes "event") (natural side.at)
    (member (codes "read") (boolean side.access.reads) (member (codes "size") (natural side.access.len)
    (member (codes "write") (boolean side.access.writes) no_members)))))))

-- a race of two events
unfoldable pub race_data : (Side → Data) → Race → Side → Side → Data
race_data side_data race first second =
    let shared = overlap_of first.access second.access in
    object (member (codes "block") (natural first.access.place.block) (member (codes "byte") (natural shared.start)
    (member (codes "data_race") (boolean race.is_data_race) (member (codes "first") (side_data first)
    (member (codes "second") (side_data second) (member_if (codes "seen") (option_map natural race.seen)
    (member (codes "size") (natural (shared.end - shared.start)) no_members)))))))

-- what is judged: a script's calls of Atomics, or a trace
abbrev pub judged_calls : List ℕ
judged_calls = codes "calls of Atomics"

abbrev pub judged_trace : List ℕ
judged_trace = codes "a trace"

-- how many accesses and agents there are; how many of all races are data races; what is judged; how many races aren't
-- listed, and how many are
unfoldable pub count_data : List ℕ → List Event → ℕ → ℕ → ℕ → Data
count_data judged trace reported rest data_races =
    object (member (codes "accesses") (natural (accesses_of trace)) (member (codes "agents") (natural (agents_of trace))
    (member (codes "data_races") (natural data_races) (member (codes "judged") (string judged)
    (member (codes "more") (natural rest) (member (codes "races") (natural reported) no_members))))))

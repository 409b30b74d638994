-- A verdict in words.
use Rattle.std.specs.Prelude.{ℕ, ◌+◌, ◌-◌, ◌==◌, Bool, true, false, if◌then◌else◌, List, [], ◌++◌, length, Option, Some, None, codes, decimal}
use Rattle.sab_plan.specs.declared.call.Call.{Call}
use Rattle.sab_plan.specs.Plan.{PlanParts}
use Rattle.sab_plan.specs.declared.entry.Entry.{Entry}
use Rattle.sab_judge.specs.declared.event.Event.{Event}
use Rattle.sab_judge.specs.declared.race.Race.{Race}
use Rattle.sab_judge.specs.declared.order.Order.{Order}
use Rattle.sab_judge.specs.declared.order.Order.TheVariants.{Unordered, SeqCst}
use Rattle.sab_report_text.specs.Words.CallText.{call_text}
use Rattle.sab_report_text.specs.Words.FactText.{counted}
use Rattle.sab_verdict.specs.declared.byte_range.ByteRange.{ByteRange}
use Rattle.sab_verdict.specs.declared.side.Side.{Side}
use Rattle.sab_verdict.specs.Events.{call_at, range_of, overlap_of, accesses_of, agents_of, data_races_in}

-- the last byte of a range
abbrev pub last_of : ByteRange → ℕ
last_of r = r.end - 1

-- the bytes of a range: one, or several
abbrev pub range_text : ByteRange → List ℕ
range_text r =
    if r.start == last_of r then codes "byte " ++ decimal r.start
    else codes "bytes " ++ decimal r.start ++ codes " to " ++ decimal (last_of r)

-- ---- what an event does

-- a call, where there is one
abbrev pub call_words : List (List ℕ) → Option Call → List ℕ
call_words names None = []
call_words names (Some call) = codes " in " ++ call_text names call

-- in a script's run
unfoldable pub by_call : List (List ℕ) → PlanParts → List Entry → Side → List ℕ
by_call names plan journal side = call_words names (call_at plan journal side.at)

-- what an access does, by whether it reads and whether it writes
abbrev pub verb : Bool → Bool → List ℕ
verb true true = codes " changes "
verb true false = codes " reads "
verb false true = codes " writes "
verb false false = codes " accesses "

-- whether it is one of Atomics
abbrev pub order_text : Order → List ℕ
order_text Unordered = []
order_text SeqCst = codes " by Atomics"

-- in a trace
unfoldable pub by_access : Side → List ℕ
by_access side =
    verb side.access.reads side.access.writes ++ range_text (range_of side.access)
    ++ order_text side.access.order

-- ---- races

-- one of its events, by what it does
unfoldable pub side_text : (Side → List ℕ) → Side → List ℕ
side_text does side = codes "agent " ++ decimal side.agent ++ does side ++ codes " at " ++ decimal side.at

-- what it is, and the bytes of which block
unfoldable pub head_text : Bool → ByteRange → ℕ → List ℕ
head_text is_data_race range block =
    (if is_data_race then codes "data race" else codes "race") ++ codes " at " ++ range_text range
    ++ codes " of block " ++ decimal block ++ codes ": "

-- how much of what an agent did
abbrev pub seen_part : ℕ → Option ℕ → List ℕ
seen_part agent None = codes "nothing of agent " ++ decimal agent
seen_part agent (Some m) = codes "of agent " ++ decimal agent ++ codes " what it did up to " ++ decimal m

-- how much of it happens before event j
unfoldable pub seen_text : ℕ → Option ℕ → ℕ → List ℕ
seen_text agent seen j = seen_part agent seen ++ codes " happens before " ++ decimal j

-- a race of two events
abbrev pub race_text : (Side → List ℕ) → Race → Side → Side → List ℕ
race_text does race first second =
    head_text race.is_data_race (overlap_of first.access second.access) first.access.place.block
    ++ side_text does first ++ codes ", " ++ side_text does second ++ codes "; "
    ++ seen_text first.agent race.seen race.second ++ codes "\n"

-- ---- what stands behind the races

-- how many more there are, and how many of them are data races
unfoldable pub more_text : ℕ → ℕ → List ℕ
more_text rest data_races =
    decimal rest ++ codes " more, " ++ counted data_races (codes " of them a data race") (codes " of them data races")
    ++ codes "\n"

-- of what the accesses are, where that is to be said
abbrev pub in_calls : List ℕ
in_calls = codes " in the script's calls of Atomics"

-- what is written if there is none
unfoldable pub none_text : List ℕ → List Event → List ℕ
none_text whose trace =
    codes "no data race: " ++ counted (accesses_of trace) (codes " access") (codes " accesses") ++ codes " by "
    ++ counted (agents_of trace) (codes " agent") (codes " agents") ++ whose ++ codes "\n"

-- that there is none; else how many are left and how many of those are data races, where some are
abbrev pub end_text : List ℕ → List Event → List Race → ℕ → ℕ → List ℕ
end_text whose trace races rest data_races =
    if length races + rest == 0 then none_text whose trace
    else (if rest == 0 then [] else more_text rest (data_races - data_races_in races))

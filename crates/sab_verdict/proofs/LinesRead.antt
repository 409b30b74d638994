-- The lines have numbers of 64 bits, so they read back.
use Rattle.std.proofs.Common.{inl, inr, ℕ, ◌-◌, ◌^◌, ◌<◌, List, length, Option, Some, None, IfSome, All, refl, sym, subst, arith}
use Rattle.std.specs.Prelude.{codes, option_map, slice_get}
use Rattle.std.specs.List.{range_with_len}
use Rattle.std.specs.Option.{ForSome}
use Rattle.std.proofs.lemmas.Bool.{cases_lt}
use Rattle.std.proofs.lemmas.List.{get_or_past}
use Rattle.std.proofs.lemmas.List.Sums.{count_by-le-length}
use Rattle.std.proofs.lemmas.List.FromFn.{length-range_with_len}
use Rattle.std.proofs.lemmas.List.Elements.{All-get_or, All-weaker}
use Rattle.serde_json.specs.Data.{Data}
use Rattle.sab_plan.specs.Plan.{PlanParts, call_of}
use Rattle.sab_plan.specs.declared.entry.Entry.{Entry}
use Rattle.sab_judge.specs.declared.access.Access.{Access}
use Rattle.sab_judge.specs.declared.event.Event.{Event}
use Rattle.sab_judge.specs.declared.trace.TheConstants.Trace.{MAX_AGENTS}
use Rattle.sab_judge.specs.declared.race.Race.{Race}
use Rattle.sab_judge.specs.Event.{idle_event, event_at, agent_at}
use Rattle.sab_judge.specs.Trace.{HasBytes, IsWithinLimits, IsTrace}
use Rattle.sab_judge.specs.Verdict.{IsLastSeen, IsReported}
use Rattle.sab_judge.proofs.LastSteps.{before_earlier}
use Rattle.sab_report_text.specs.JsonLines.CallData.{natural, call_data}
use Rattle.sab_report_text.specs.JsonLines.SafeNumbers.{HasSafeNumbers}
use Rattle.sab_report_text.proofs.OfJsonLines.ShortNumbers.{HasShortNumbers, short_if}
use Rattle.sab_report_text.proofs.OfJsonLines.ShortCalls.{does_short}
use Rattle.sab_report_text.proofs.OfJsonLines.ReadingBack.{IsInOrder, reads_back}
use Rattle.sab_verdict.specs.declared.side.Side.{Side}
use Rattle.sab_verdict.specs.Events.{access_in, side_at, call_in, call_at, overlap_of, accesses_of, agents_of, has_access, is_accessing}
use Rattle.sab_verdict.specs.Json.{call_side, access_side, judged_calls, judged_trace, race_data, count_data}
use Rattle.sab_verdict.specs.ReadsBack.{RaceReadsBack, LinesReadBack}
use Rattle.sab_verdict.proofs.Racing.{first_within, second_within}
use Rattle.sab_verdict.proofs.TreesRead.{call_side_in_order, access_side_in_order, race_in_order, count_in_order}

-- ---- events

-- its agent is one of 16, and its access is of bytes that are there
record IsShortEvent (e : Event) : Type 0 where
  agent : e.agent < MAX_AGENTS
  bytes : HasBytes (access_in e.access).place (access_in e.access).len

access_short : (o : Option Access) → ForSome o (λ (a : Access). HasBytes a.place a.len)
    → HasBytes (access_in o).place (access_in o).len
access_short None h = (omega arith, omega arith)
access_short (Some a) h = h a refl

event_short : (trace : List Event) (k : ℕ) → IsTrace trace → IsShortEvent (event_at trace k)
event_short trace k is = elim (cases_lt k (length trace)) [
  | inl within ↦
      let e = All-get_or IsWithinLimits trace k idle_event within is.events in
      record { agent = e.agent; bytes = access_short (event_at trace k).access e.bytes.access }
  | inr past ↦
      subst IsShortEvent (sym (get_or_past trace k idle_event past))
      (record { agent = omega arith; bytes = (omega arith, omega arith) })
]

position_short : (trace : List Event) (k : ℕ) → IsTrace trace → k < length trace → k < 2 ^ 64
position_short trace k is within = omega (arith, is.short)

-- ---- the two ways to report an event

does_short_at : (names : List (List ℕ)) (plan : PlanParts) (o : Option Entry) → HasSafeNumbers plan
    → IfSome (option_map (call_data names) (call_in plan o)) HasShortNumbers
does_short_at names plan None safe = tt
does_short_at names plan (Some e) safe =
    does_short names plan e.agent e.call (call_of plan e.agent e.call) safe refl

-- each event of a trace is written with short numbers
abbrev HaveShortSides : (Side → Data) → List Event → Type 0
HaveShortSides side_data trace = (k : ℕ) → k < length trace → HasShortNumbers (side_data (side_at trace k))

call_side_short : (names : List (List ℕ)) (plan : PlanParts) (journal : List Entry) (trace : List Event)
    → HasSafeNumbers plan → IsTrace trace → HaveShortSides (call_side names plan journal) trace
unfolding call_side
call_side_short names plan journal trace safe is k within =
    let e = event_short trace k is in
    let agent : agent_at trace k < 2 ^ 64 = omega (arith, e.agent) in (
      agent,
      short_if (codes "does") (option_map (call_data names) (call_at plan journal k)) _
          (does_short_at names plan (slice_get journal k) safe) (position_short trace k is within, tt),
    )

access_side_short : (trace : List Event) → IsTrace trace → HaveShortSides access_side trace
unfolding access_side
access_side_short trace is k within =
    let e = event_short trace k is in
    let access = access_in (event_at trace k).access in
    let agent : agent_at trace k < 2 ^ 64 = omega (arith, e.agent) in
    let byte : access.place.byte < 2 ^ 64 = omega (arith, e.bytes.1) in
    let size : access.len < 2 ^ 64 = omega (arith, e.bytes.1) in
    (agent, (tt, (byte, (position_short trace k is within, (tt, (size, (tt, tt)))))))

-- ---- lines

seen_short : (trace : List Event) (agent j : ℕ) (o : Option ℕ) → IsTrace trace → j < length trace
    → IsLastSeen trace agent j o → IfSome (option_map natural o) HasShortNumbers
seen_short trace agent j None is within seen = tt
seen_short trace agent j (Some m) is within seen =
    let earlier = before_earlier seen.1 in
    omega (arith, earlier, is.short)

race_short : (side_data : Side → Data) (trace : List Event) (race : Race) → IsTrace trace → HaveShortSides side_data trace
    → IsReported trace race → HasShortNumbers (race_data side_data race (side_at trace race.first) (side_at trace race.second))
unfolding race_data
race_short side_data trace race is short_sides reported =
    let a = access_in (event_at trace race.first).access in
    let b = access_in (event_at trace race.second).access in
    let first = event_short trace race.first is in
    let second = event_short trace race.second is in
    let shared = overlap_of a b in
    let block : a.place.block < 2 ^ 64 = omega (arith, first.bytes.0) in
    let byte : shared.start < 2 ^ 64 = omega (arith, first.bytes.1, second.bytes.1) in
    let size : shared.end - shared.start < 2 ^ 64 = omega (arith, first.bytes.1) in
    let seen = seen_short trace (agent_at trace race.first) race.second race.seen is (second_within trace race reported)
    reported.seen in (
      block,
      (
        byte,
        (
          tt,
          (
            short_sides race.first (first_within trace race reported),
            (
              short_sides race.second (second_within trace race reported),
              short_if (codes "seen") (option_map natural race.seen) _ seen (size, tt),
            ),
          ),
        ),
      ),
    )

count_short : (judged : List ℕ) (trace : List Event) (reported rest data_races : ℕ) → IsTrace trace → reported < 2 ^ 64 → rest < 2 ^ 64
    → data_races < 2 ^ 64 → HasShortNumbers (count_data judged trace reported rest data_races)
unfolding count_data accesses_of agents_of
count_short judged trace reported rest data_races is few more some =
    let accesses : accesses_of trace < 2 ^ 64 = omega (arith, count_by-le-length has_access trace, is.short) in
    let agents : agents_of trace < 2 ^ 64 =
    omega (arith, count_by-le-length (is_accessing trace) (range_with_len 0 MAX_AGENTS), length-range_with_len 0 MAX_AGENTS) in
    (accesses, (agents, (some, (tt, (more, (few, tt))))))

lines_read_back : (side_data : Side → Data) (judged : List ℕ) (trace : List Event) (reported : List Race) (rest data_races : ℕ)
    → ((side : Side) → IsInOrder 126 (side_data side)) → HaveShortSides side_data trace → IsTrace trace → All (IsReported trace) reported
    → length reported < 2 ^ 64 → rest < 2 ^ 64 → data_races < 2 ^ 64 → LinesReadBack side_data judged trace reported rest data_races
lines_read_back side_data judged trace reported rest data_races order short is all few more some = record {
  races =
      All-weaker (IsReported trace) (RaceReadsBack side_data trace)
      (λ race is_reported. reads_back
      (race_data side_data race (side_at trace race.first) (side_at trace race.second))
      (race_in_order 126 side_data order race (side_at trace race.first) (side_at trace race.second))
      (race_short side_data trace race is short is_reported))
      reported all;
  count =
      reads_back (count_data judged trace (length reported) rest data_races)
      (count_in_order 126 judged trace (length reported) rest data_races)
      (count_short judged trace (length reported) rest data_races is few more some);
}

pub run_lines_read_back : (names : List (List ℕ)) (plan : PlanParts) (journal : List Entry) (trace : List Event)
    (reported : List Race) (rest data_races : ℕ) → IsTrace trace → All (IsReported trace) reported → length reported < 2 ^ 64
    → rest < 2 ^ 64 → data_races < 2 ^ 64 → HasSafeNumbers plan
    → LinesReadBack (call_side names plan journal) judged_calls trace reported rest data_races
run_lines_read_back names plan journal trace reported rest data_races is all few more some safe =
    lines_read_back (call_side names plan journal) judged_calls trace reported rest data_races
    (call_side_in_order 124 names plan journal) (call_side_short names plan journal trace safe is) is all few more some

pub trace_lines_read_back : (trace : List Event) (reported : List Race) (rest data_races : ℕ) → IsTrace trace
    → All (IsReported trace) reported → length reported < 2 ^ 64 → rest < 2 ^ 64 → data_races < 2 ^ 64
    → LinesReadBack access_side judged_trace trace reported rest data_races
trace_lines_read_back trace reported rest data_races is all few more some =
    lines_read_back access_side judged_trace trace reported rest data_races (access_side_in_order 125)
    (access_side_short trace is) is all few more some

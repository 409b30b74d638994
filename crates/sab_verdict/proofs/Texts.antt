-- The texts of trees, piece by piece.
use Rattle.std.proofs.Common.{◌≡◌, ℕ, ◌-◌, List, ◌++◌, refl, ap}
use Rattle.std.specs.Prelude.{codes, option_map}
use Rattle.std.specs.Fmt.{decimal}
use Rattle.json.specs.Print.{escape_byte}
use Rattle.serde_json.specs.Data.{Data, boolean, string, no_members, member}
use Rattle.serde_json.specs.Written.{compact_text}
use Rattle.sab_plan.specs.Plan.{PlanParts}
use Rattle.sab_plan.specs.declared.entry.Entry.{Entry}
use Rattle.sab_judge.specs.declared.event.Event.{Event}
use Rattle.sab_judge.specs.declared.race.Race.{Race}
use Rattle.sab_judge.specs.Order.{is_seq_cst}
use Rattle.sab_report_text.specs.JsonLines.Members.{member_text_if}
use Rattle.sab_report_text.specs.JsonLines.CallData.{natural, call_data}
use Rattle.sab_report_text.proofs.OfJsonLines.Texts.{member_before}
use Rattle.sab_verdict.specs.declared.side.Side.{Side}
use Rattle.sab_verdict.specs.Events.{call_at, overlap_of, accesses_of, agents_of}
use Rattle.sab_verdict.specs.Json.{call_side, access_side, race_data, count_data}

pub call_side_json : (names : List (List ℕ)) (plan : PlanParts) (journal : List Entry) (side : Side)
    → compact_text (call_side names plan journal side) ≡ codes "{\"agent\":" ++ (decimal side.agent
    ++ (member_text_if (codes "does") (option_map (call_data names) (call_at plan journal side.at))
    ++ (codes ",\"entry\":" ++ (decimal side.at ++ codes "}"))))
unfolding call_side escape_byte
call_side_json names plan journal side =
    ap (λ (s : List ℕ). codes "{\"agent\":" ++ (decimal side.agent ++ s))
    (member_before (codes "does") (option_map (call_data names) (call_at plan journal side.at))
    (member (codes "entry") (natural side.at) no_members) refl)

pub access_side_json : (side : Side)
    → compact_text (access_side side) ≡ codes "{\"agent\":" ++ (decimal side.agent
    ++ (codes ",\"atomic\":" ++ (compact_text (boolean (is_seq_cst side.access.order))
    ++ (codes ",\"byte\":" ++ (decimal side.access.place.byte ++ (codes ",\"event\":" ++ (decimal side.at
    ++ (codes ",\"read\":" ++ (compact_text (boolean side.access.reads)
    ++ (codes ",\"size\":" ++ (decimal side.access.len
    ++ (codes ",\"write\":" ++ (compact_text (boolean side.access.writes) ++ codes "}")))))))))))))
unfolding access_side escape_byte
access_side_json side = refl

pub race_json : (side_data : Side → Data) (race : Race) (first second : Side)
    → compact_text (race_data side_data race first second) ≡ codes "{\"block\":" ++ (decimal first.access.place.block
    ++ (codes ",\"byte\":" ++ (decimal (overlap_of first.access second.access).start
    ++ (codes ",\"data_race\":" ++ (compact_text (boolean race.is_data_race)
    ++ (codes ",\"first\":" ++ (compact_text (side_data first) ++ (codes ",\"second\":" ++ (compact_text (side_data second)
    ++ (member_text_if (codes "seen") (option_map natural race.seen)
    ++ (codes ",\"size\":" ++ (decimal
    ((overlap_of first.access second.access).end - (overlap_of first.access second.access).start)
    ++ codes "}"))))))))))))
unfolding race_data escape_byte
race_json side_data race first second =
    let shared = overlap_of first.access second.access in
    ap (λ (s : List ℕ). codes "{\"block\":" ++ (decimal first.access.place.block
    ++ (codes ",\"byte\":" ++ (decimal shared.start
    ++ (codes ",\"data_race\":" ++ (compact_text (boolean race.is_data_race)
    ++ (codes ",\"first\":" ++ (compact_text (side_data first) ++ (codes ",\"second\":" ++ (compact_text (side_data second)
    ++ s))))))))))
    (member_before (codes "seen") (option_map natural race.seen)
    (member (codes "size") (natural (shared.end - shared.start)) no_members) refl)

pub count_json : (judged : List ℕ) (trace : List Event) (reported rest data_races : ℕ)
    → compact_text (count_data judged trace reported rest data_races) ≡ codes "{\"accesses\":" ++ (decimal (accesses_of trace)
    ++ (codes ",\"agents\":" ++ (decimal (agents_of trace) ++ (codes ",\"data_races\":" ++ (decimal data_races
    ++ (codes ",\"judged\":" ++ (compact_text (string judged)
    ++ (codes ",\"more\":" ++ (decimal rest ++ (codes ",\"races\":" ++ (decimal reported ++ codes "}")))))))))))
unfolding count_data escape_byte
count_json judged trace reported rest data_races = refl

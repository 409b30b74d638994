-- The trees of the lines have each key once and in order.
use Rattle.std.proofs.Common.{ℕ, suc, List, refl}
use Rattle.std.specs.Prelude.{codes, option_map}
use Rattle.serde_json.specs.Data.{Data}
use Rattle.sab_plan.specs.Plan.{PlanParts}
use Rattle.sab_plan.specs.declared.entry.Entry.{Entry}
use Rattle.sab_judge.specs.declared.event.Event.{Event}
use Rattle.sab_judge.specs.declared.race.Race.{Race}
use Rattle.sab_report_text.specs.JsonLines.CallData.{natural, call_data}
use Rattle.sab_report_text.proofs.OfJsonLines.ReadingBack.{IsInOrder}
use Rattle.sab_report_text.proofs.OfJsonLines.TreesRead.{follow_if, does_in_order, since_in_order}
use Rattle.sab_verdict.specs.declared.side.Side.{Side}
use Rattle.sab_verdict.specs.Events.{call_at}
use Rattle.sab_verdict.specs.Json.{call_side, access_side, race_data, count_data}

pub call_side_in_order : (n : ℕ) (names : List (List ℕ)) (plan : PlanParts) (journal : List Entry) (side : Side)
    → IsInOrder (suc (suc n)) (call_side names plan journal side)
unfolding call_side
call_side_in_order n names plan journal side =
    let call = call_at plan journal side.at in (
      tt,
      follow_if (suc n) (codes "agent") (codes "does") (option_map (call_data names) call) _ refl
          (does_in_order n names call) (
            refl,
            (tt, tt),
          ),
    )

pub access_side_in_order : (n : ℕ) (side : Side) → IsInOrder (suc n) (access_side side)
unfolding access_side
access_side_in_order n side =
    (tt, (refl, (tt, (refl, (tt, (refl, (tt, (refl, (tt, (refl, (tt, (refl, (tt, tt)))))))))))))

pub race_in_order : (n : ℕ) (side_data : Side → Data) → ((side : Side) → IsInOrder n (side_data side)) → (race : Race)
    (first second : Side) → IsInOrder (suc n) (race_data side_data race first second)
unfolding race_data
race_in_order n side_data each race first second =
    let seen = follow_if n (codes "second") (codes "seen") (option_map natural race.seen) _ refl
    (since_in_order n race.seen) (refl, (tt, tt)) in
    (tt, (refl, (tt, (refl, (tt, (refl, (each first, (refl, (each second, seen)))))))))

pub count_in_order : (n : ℕ) (judged : List ℕ) (trace : List Event) (reported rest data_races : ℕ)
    → IsInOrder (suc n) (count_data judged trace reported rest data_races)
unfolding count_data
count_in_order n judged trace reported rest data_races =
    (tt, (refl, (tt, (refl, (tt, (refl, (tt, (refl, (tt, (refl, (tt, tt)))))))))))

-- Agents at the end, and where they stand, as JSON.
use Rattle.std.specs.Prelude.{ℕ, List, Option, Some, None, codes, option_map}
use Rattle.serde_json.specs.Data.{Data, boolean, string, object, no_members, member}
use Rattle.sab_plan.specs.declared.progress.Progress.{Progress}
use Rattle.sab_plan.specs.declared.standing.At.{At}
use Rattle.sab_plan.specs.declared.standing.At.TheVariants as S
use Rattle.sab_plan.specs.declared.standing.Standing.{Standing}
use Rattle.sab_report_text.specs.JsonLines.Members.{member_if}
use Rattle.sab_report_text.specs.JsonLines.CallData.{natural, call_data}
use Rattle.sab_report_text.specs.JsonLines.FactData.{place_data}

-- how far an agent is with a call
abbrev pub at_name : At → List ℕ
at_name S.Ready = codes "ready"
at_name S.Begun = codes "begun"
at_name (S.Waits notified) = codes "waits"
at_name (S.Woken k) = codes "woken"
at_name S.Answered = codes "answered"

-- of one that waits, whether its place was notified since
abbrev pub notified_in : At → Option Data
notified_in (S.Waits notified) = Some (boolean notified)
notified_in at = None

-- of one that was woken, the entry that woke it
abbrev pub waker_in : At → Option Data
waker_in (S.Woken k) = Some (natural k)
waker_in at = None

unfoldable pub standing_data : List (List ℕ) → Standing → Data
standing_data names s =
    object (member (codes "at") (string (at_name s.at)) (member (codes "does") (call_data names s.call)
    (member_if (codes "notified") (notified_in s.at) (member_if (codes "place") (option_map place_data s.place)
    (member_if (codes "since") (option_map natural s.since)
    (member_if (codes "woken_by") (waker_in s.at) no_members))))))

-- agent a, of which some calls may be left
unfoldable pub agent_data : List (List ℕ) → ℕ → Progress → Option Standing → Data
agent_data names a p s =
    object (member (codes "agent") (natural a) (member (codes "of") (natural p.total)
    (member (codes "returned") (natural p.returned)
    (member_if (codes "standing") (option_map (standing_data names) s) no_members))))

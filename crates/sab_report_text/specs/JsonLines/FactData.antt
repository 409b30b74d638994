-- Entries and their facts as JSON.
use Rattle.std.specs.Prelude.{ℕ, true, List, [], ◌∷◌, Option, Some, None, codes, option_map}
use Rattle.serde_json.specs.Data.{Data, boolean, string, array, object, Items, no_items, item, Members, no_members, member}
use Rattle.sab_block.specs.declared.check.Check.{Check}
use Rattle.sab_block.specs.declared.check.Check.TheVariants as X
use Rattle.sab_block.specs.Thrown.{name_of}
use Rattle.sab_plan.specs.declared.answer.Answer.{Answer}
use Rattle.sab_plan.specs.declared.answer.Answer.TheVariants as A
use Rattle.sab_plan.specs.declared.place.Place.{Place}
use Rattle.sab_plan.specs.declared.entry.What.{What}
use Rattle.sab_plan.specs.declared.entry.What.TheVariants.{Began, Acted, Enlisted, Left, Returned, Stuck}
use Rattle.sab_plan.specs.declared.entry.Entry.{Entry}
use Rattle.sab_plan.specs.declared.fact.Found.{Found}
use Rattle.sab_plan.specs.declared.fact.Found.TheVariants as F
use Rattle.sab_plan.specs.declared.fact.Fact.{Fact}
use Rattle.sab_report_text.specs.Text.Text.{why_text}
use Rattle.sab_report_text.specs.JsonLines.Members.{member_if}
use Rattle.sab_report_text.specs.JsonLines.CallData.{natural, operand_data, call_data}

unfoldable pub answer_data : Answer → Data
answer_data (A.Value x) = operand_data x
answer_data A.Woken = string (codes "ok")
answer_data A.NotEqual = string (codes "not-equal")
answer_data A.TimedOut = string (codes "timed-out")
answer_data (A.Count n) = natural n
answer_data (A.Threw thrown) = string (name_of thrown)

-- the answer of what a move did
abbrev pub answer_in : What → Option Data
answer_in Began = None
answer_in (Acted x) = Some (answer_data x)
answer_in Enlisted = None
answer_in (Left x) = Some (answer_data x)
answer_in (Returned x) = Some (answer_data x)
answer_in (Stuck why) = None

-- what a move did, by a word; and why it had no effect
abbrev pub what_name : What → List ℕ
what_name Began = codes "begin"
what_name (Acted x) = codes "act"
what_name Enlisted = codes "wait"
what_name (Left x) = codes "leave"
what_name (Returned x) = codes "return"
what_name (Stuck why) = codes "stuck"

abbrev pub why_in : What → Option Data
why_in (Stuck why) = Some (string (why_text why))
why_in what = None

unfoldable pub place_data : Place → Data
place_data p = object (member (codes "block") (natural p.block) (member (codes "byte") (natural p.byte) no_members))

abbrev pub check_name : Check → List ℕ
check_name X.AtomicKind = codes "kind"
check_name X.WaitableKind = codes "kind"
check_name X.Index = codes "index"
check_name X.Operand = codes "operand"
check_name X.CanBlock = codes "can-block"

-- agents in their order
abbrev pub agent_items : List ℕ → Items
agent_items [] = no_items
agent_items (a ∷ agents) = item (natural a) (agent_items agents)

-- what was found, where it was something
abbrev pub found_members : Found → Option Members
found_members F.Nothing = None
found_members (F.Read x) = Some (member (codes "element") (operand_data x) no_members)
found_members (F.Wrote x y) =
    Some (member (codes "after") (operand_data y) (member (codes "before") (operand_data x) no_members))
found_members (F.Compared x y exchanged) =
    Some (member (codes "after") (operand_data y) (member (codes "before") (operand_data x)
    (member (codes "exchanged") (boolean exchanged) no_members)))
found_members (F.Differs x) = Some (member (codes "element") (operand_data x) no_members)
found_members (F.Joined ahead) = Some (member (codes "ahead") (array (agent_items ahead)) no_members)
found_members (F.Notified woken waiting) =
    Some (member (codes "waited") (natural waiting) (member (codes "woken") (array (agent_items woken)) no_members))
found_members (F.WokenBy k) = Some (member (codes "woken_by") (natural k) no_members)
found_members (F.Failed check) = Some (member (codes "failed") (string (check_name check)) no_members)
found_members F.Waited = Some (member (codes "in_line") (boolean true) no_members)

unfoldable pub found_data : Found → Option Data
found_data found = option_map object (found_members found)

-- entry k and its fact
unfoldable pub entry_data : List (List ℕ) → ℕ → Entry → Fact → Data
entry_data names k e fact =
    object (member (codes "agent") (natural e.agent) (member_if (codes "answer") (answer_in e.what)
    (member (codes "call") (natural e.call) (member_if (codes "does") (option_map (call_data names) fact.call)
    (member (codes "entry") (natural k) (member_if (codes "found") (found_data fact.found)
    (member_if (codes "place") (option_map place_data fact.place)
    (member_if (codes "since") (option_map natural fact.since)
    (member (codes "what") (string (what_name e.what)) (member_if (codes "why") (why_in e.what) no_members))))))))))

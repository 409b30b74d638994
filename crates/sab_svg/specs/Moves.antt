-- What is drawn of an entry: at its row in the lane of its agent.
use Rattle.std.specs.Prelude.{ℕ, ◌+◌, ◌*◌, ◌-◌, nat_lt, if◌then◌else◌, List, [], ◌∷◌, ◌++◌, length, map, Option, Some, None, codes, decimal}
use Rattle.sab_block.specs.declared.operand.Operand.{Operand}
use Rattle.sab_plan.specs.declared.answer.Answer.{Answer}
use Rattle.sab_plan.specs.declared.answer.Answer.TheVariants.{Threw}
use Rattle.sab_plan.specs.declared.call.Call.{Call}
use Rattle.sab_plan.specs.declared.entry.Why.{Why}
use Rattle.sab_plan.specs.declared.entry.What.{What}
use Rattle.sab_plan.specs.declared.entry.What.TheVariants.{Began, Acted, Enlisted, Left, Returned, Stuck}
use Rattle.sab_plan.specs.declared.entry.Entry.{Entry}
use Rattle.sab_plan.specs.Plan.{PlanParts}
use Rattle.sab_plan.specs.declared.fact.Fact.{Fact}
use Rattle.sab_plan.specs.declared.fact.Found.{Found}
use Rattle.sab_plan.specs.declared.fact.Found.TheVariants as F
use Rattle.sab_plan.specs.Fact.{woken_in}
use Rattle.sab_report_text.specs.Text.Text.{operand_text, answer_text, why_text}
use Rattle.sab_report_text.specs.Words.CallText.{call_text, element_text}
use Rattle.sab_report_text.specs.Words.FactText.{is_same, fact_words}
use Rattle.sab_report_text.specs.Words.FactFormat.{noted}
use Rattle.sab_svg.specs.Xml.Xml.{Node}
use Rattle.sab_svg.specs.declared.shape.Shape.{Shape}
use Rattle.sab_svg.specs.Shape.{lane_x, label_x, change_x, row_top, row_middle, row_text}
use Rattle.sab_svg.specs.Pieces.{label, call_bar, wait_bar, across, agent_words, group, newline}

-- the time from the agent's last entry with an effect to the middle of row k, or to a height
abbrev pub call_since : Shape → ℕ → Option ℕ → ℕ → List Node
call_since shape a None end = []
call_since shape a (Some j) end = call_bar (lane_x shape a) (row_middle j) end ∷ []

abbrev pub wait_since : Shape → ℕ → Option ℕ → ℕ → List Node
wait_since shape a None end = []
wait_since shape a (Some j) end = wait_bar (lane_x shape a) (row_middle j) end ∷ []

-- the part of a call that ends with an entry: its time goes from the row where it begins to the row where it returns
abbrev pub bars_of : Shape → ℕ → ℕ → Option ℕ → What → List Node
bars_of shape k a since Began = call_bar (lane_x shape a) (row_top k + 3) (row_middle k) ∷ []
bars_of shape k a since (Acted x) = call_since shape a since (row_middle k)
bars_of shape k a since Enlisted = call_since shape a since (row_middle k)
bars_of shape k a since (Left x) = wait_since shape a since (row_middle k)
bars_of shape k a since (Returned x) = call_since shape a since (row_top k + 17)
bars_of shape k a since (Stuck why) = []

-- an answer as a text, and its class
abbrev pub answered_text : Answer → List ℕ
answered_text (Threw t) = codes "throws " ++ answer_text (Threw t)
answered_text x = codes "= " ++ answer_text x

abbrev pub answered_class : Answer → List ℕ
answered_class (Threw t) = codes "error"
answered_class x = codes "answer"

abbrev pub calls_text : List (List ℕ) → Option Call → List ℕ
calls_text names None = []
calls_text names (Some call) = call_text names call

abbrev pub stuck_text : Why → List ℕ
stuck_text why = codes "stuck: " ++ why_text why

-- what an entry did, as a text in the lane
abbrev pub done_label : List (List ℕ) → ℕ → ℕ → Option Call → What → List Node
done_label names x y call Began = label (codes "ink") x y (calls_text names call) ∷ []
done_label names x y call (Acted z) = label (answered_class z) x y (answered_text z) ∷ []
done_label names x y call Enlisted = label (codes "dim") x y (codes "waits") ∷ []
done_label names x y call (Left z) = label (answered_class z) x y (answered_text z) ∷ []
done_label names x y call (Returned z) = []
done_label names x y call (Stuck why) = label (codes "dim") x y (stuck_text why) ∷ []

-- how an element changed, as a text behind the lanes
abbrev pub changed_text : List (List ℕ) → Option Call → Operand → Operand → List ℕ
changed_text names None x y = []
changed_text names (Some call) x y =
    element_text names call ++ codes ": " ++ operand_text x ++ codes " → " ++ operand_text y

abbrev pub changed : List (List ℕ) → Shape → ℕ → Option Call → Operand → Operand → List Node
changed names shape k call x y =
    if is_same x y then [] else label (codes "ink") (change_x shape) (row_text k) (changed_text names call x y) ∷ []

abbrev pub change_of : List (List ℕ) → Shape → ℕ → Option Call → Found → List Node
change_of names shape k call (F.Wrote x y) = changed names shape k call x y
change_of names shape k call (F.Compared x y exchanged) = changed names shape k call x y
change_of names shape k call found = []

-- an arrow in row k from an agent's bar, or the end of a text of so many characters behind it, to the bar of an agent
abbrev pub arrow : Shape → ℕ → ℕ → ℕ → ℕ → Node
arrow shape k a chars b =
    if nat_lt a b
    then across (codes "wake") (label_x shape a + 8 * chars + 4) (row_middle k) (lane_x shape b - 10)
    else across (codes "wake") (lane_x shape a - 8) (row_middle k) (lane_x shape b + 10)

abbrev pub answer_chars : What → ℕ
answer_chars (Acted x) = length (answered_text x)
answer_chars what = 0

-- an arrow to each agent that an entry woke
abbrev pub arrows : Shape → ℕ → Entry → Found → List Node
arrows shape k e found = map (arrow shape k e.agent (answer_chars e.what)) (woken_in found)

-- the number of row k, what an entry did there, what it changed, and whom it woke
abbrev pub pieces_of : List (List ℕ) → Shape → ℕ → Entry → Fact → List Node
pieces_of names shape k e fact =
    label (codes "row") 48 (row_text k) (decimal k) ∷ []
    ++ bars_of shape k e.agent fact.since e.what
    ++ done_label names (label_x shape e.agent) (row_text k) fact.call e.what
    ++ change_of names shape k fact.call fact.found
    ++ arrows shape k e fact.found

-- entry k, with its fact in words for a pointer
abbrev pub drawn_entry : List (List ℕ) → PlanParts → Shape → List (Option ℕ) → ℕ → Entry → Fact → Node
drawn_entry names plan shape sinces k e fact =
    group (agent_words e.agent (fact_words names plan sinces e fact)) (pieces_of names shape k e fact)

-- all entries, of which the first is entry k
abbrev pub drawn_entries : List (List ℕ) → PlanParts → Shape → List (Option ℕ) → ℕ → List Entry → List Fact → List Node
drawn_entries names plan shape sinces k [] facts = []
drawn_entries names plan shape sinces k (e ∷ journal) [] = []
drawn_entries names plan shape sinces k (e ∷ journal) (fact ∷ facts) =
    drawn_entry names plan shape sinces k e fact ∷ newline
    ∷ drawn_entries names plan shape (noted sinces k e) (k + 1) journal facts

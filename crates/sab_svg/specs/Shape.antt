-- Where things stand in a picture, in pixels: time goes down, a lane for each agent, and what changes at the right.
use Rattle.std.specs.Prelude.{ℕ, ◌+◌, ◌*◌, ◌≤◌, max, Bool, if◌then◌else◌, List, [], ◌∷◌, length, map, All}
use Rattle.std.specs.List.{list_any}
use Rattle.sab_block.specs.Kind.{is_big}
use Rattle.sab_block.specs.View.{kind_of}
use Rattle.sab_plan.specs.declared.plan_view.PlanView.{PlanView}
use Rattle.sab_plan.specs.Script.{ScriptParts}
use Rattle.sab_plan.specs.Plan.{PlanParts}
use Rattle.sab_report_text.specs.Words.CallText.{call_text}
use Rattle.sab_svg.specs.declared.shape.Shape.{Shape}

-- the greatest of these numbers
abbrev pub greatest : List ℕ → ℕ
greatest [] = 0
greatest (n ∷ ns) = max n (greatest ns)

-- how many characters the longest call of a script, and that of a plan, has
abbrev pub longest_in : List (List ℕ) → ScriptParts → ℕ
longest_in names script = greatest (map (λ call. length (call_text names call)) script.calls)

abbrev pub longest_call : List (List ℕ) → PlanParts → ℕ
longest_call names plan = greatest (map (longest_in names) plan.scripts)

abbrev pub longest_name : List (List ℕ) → ℕ
longest_name names = greatest (map length names)

-- some view has elements of 64 bits
abbrev pub has_big : PlanParts → Bool
has_big plan = list_any (λ (v : PlanView). is_big (kind_of v.view)) plan.views

-- the most characters of a value
abbrev pub value_chars : PlanParts → ℕ
value_chars plan = if has_big plan then 21 else 11

-- a character is 8 wide; a lane has room for its longest text, and a change for a name, an index and two values
abbrev pub lane_width : List (List ℕ) → PlanParts → ℕ
lane_width names plan = 8 * max (longest_call names plan) (value_chars plan + 7) + 40

abbrev pub change_width : List (List ℕ) → PlanParts → ℕ
change_width names plan = 8 * (longest_name names + 2 * value_chars plan + 14)

-- the measures of the picture of so many moves
abbrev pub shape_of : List (List ℕ) → PlanParts → ℕ → Shape
shape_of names plan rows = record {
  lane = lane_width names plan;
  change = change_width names plan;
  agents = length plan.scripts;
  blocks = length plan.lens;
  rows = rows;
}

-- the middle of an agent's lane, and where the texts in it begin
abbrev pub lane_x : Shape → ℕ → ℕ
lane_x shape a = 68 + shape.lane * a

abbrev pub label_x : Shape → ℕ → ℕ
label_x shape a = lane_x shape a + 14

-- in whichever lane it stands, the text of each call ends before the bars of the next one, which go 8 at most to the left
-- of that lane's middle; behind the last lane stand the changes
abbrev pub HaveRoom : List (List ℕ) → PlanParts → Shape → Type 0
HaveRoom names plan shape = (a : ℕ) → All (λ (script : ScriptParts). All (λ call.
    label_x shape a + 8 * length (call_text names call) + 8 ≤ lane_x shape (a + 1)) script.calls) plan.scripts

-- where changes begin
abbrev pub change_x : Shape → ℕ
change_x shape = lane_x shape shape.agents

-- the upper edge of row k, its middle, and the line that its texts stand on
abbrev pub row_top : ℕ → ℕ
row_top k = 56 + 20 * k

abbrev pub row_middle : ℕ → ℕ
row_middle k = row_top k + 10

abbrev pub row_text : ℕ → ℕ
row_text k = row_top k + 15

-- the end of the last row; below it stand the agents with calls left, then the blocks, and what the colours mean
abbrev pub rows_end : Shape → ℕ
rows_end shape = row_top shape.rows

-- a block's line, of 93 characters at most, has room in it too
abbrev pub width : Shape → ℕ
width shape = max (change_x shape + shape.change) 800

abbrev pub height : Shape → ℕ
height shape = row_top (shape.rows + shape.blocks + 5)

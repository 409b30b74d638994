-- What is drawn below the last row: who isn't done, and the blocks.
use Rattle.std.specs.Prelude.{ℕ, zero, suc, ◌+◌, ◌-◌, nat_lt, if◌then◌else◌, List, [], ◌∷◌, ◌++◌, length, take, flat_map, Option, Some, None, codes, decimal, slice_index_or}
use Rattle.sab_plan.specs.declared.standing.At.{At}
use Rattle.sab_plan.specs.declared.standing.At.TheVariants as A
use Rattle.sab_plan.specs.declared.standing.Standing.{Standing}
use Rattle.sab_report_text.specs.Text.Text.{field, hex_byte}
use Rattle.sab_report_text.specs.Words.Explained.{standing_words}
use Rattle.sab_svg.specs.Xml.Xml.{Node}
use Rattle.sab_svg.specs.declared.shape.Shape.{Shape}
use Rattle.sab_svg.specs.Shape.{lane_x, label_x, row_middle, row_text, rows_end}
use Rattle.sab_svg.specs.Pieces.{label, open_call_bar, open_wait_bar, agent_words, group, newline}

-- the bar of a call that hasn't returned goes to the end of the last row
abbrev pub open_call : Shape → ℕ → Option ℕ → List Node
open_call shape a None = []
open_call shape a (Some j) = open_call_bar (lane_x shape a) (row_middle j) (rows_end shape) ∷ []

abbrev pub open_wait : Shape → ℕ → Option ℕ → List Node
open_wait shape a None = []
open_wait shape a (Some j) = open_wait_bar (lane_x shape a) (row_middle j) (rows_end shape) ∷ []

abbrev pub open_bar : Shape → ℕ → Option ℕ → At → List Node
open_bar shape a since A.Ready = []
open_bar shape a since A.Begun = open_call shape a since
open_bar shape a since (A.Waits notified) = open_wait shape a since
open_bar shape a since (A.Woken k) = open_wait shape a since
open_bar shape a since A.Answered = open_call shape a since

-- how far its agent came, as a text and its class
abbrev pub end_text : At → List ℕ
end_text A.Ready = codes "hasn't begun"
end_text A.Begun = codes "hasn't acted"
end_text (A.Waits notified) = codes "still waits"
end_text (A.Woken k) = codes "hasn't left"
end_text A.Answered = codes "hasn't returned"

abbrev pub end_class : At → List ℕ
end_class A.Ready = codes "dim"
end_class at = codes "error"

-- where an agent stands, with it in words for a pointer
abbrev pub drawn_standing : List (List ℕ) → Shape → ℕ → Standing → Node
drawn_standing names shape a s =
    group (agent_words a (standing_words names s))
    (open_bar shape a s.since s.at
    ++ label (end_class s.at) (label_x shape a) (row_text shape.rows) (end_text s.at) ∷ [])

abbrev pub drawn_end : List (List ℕ) → Shape → ℕ → Option Standing → List Node
drawn_end names shape a None = []
drawn_end names shape a (Some s) = drawn_standing names shape a s ∷ newline ∷ []

-- so many agents, of which the first is agent a
abbrev pub drawn_ends : List (List ℕ) → Shape → List (Option Standing) → ℕ → ℕ → List Node
drawn_ends names shape standings a zero = []
drawn_ends names shape standings a (suc n) =
    drawn_end names shape a (slice_index_or standings a None) ++ drawn_ends names shape standings (a + 1) n

-- the first bytes of a block, and how many more there are
abbrev pub more_text : ℕ → List ℕ
more_text n = if nat_lt 32 n then codes " and " ++ decimal (n - 32) ++ codes " bytes more" else []

abbrev pub block_text : ℕ → List ℕ → List ℕ
block_text b bytes = codes "block " ++ field b ++ flat_map hex_byte (take 32 bytes) ++ more_text (length bytes)

-- the line of block b
abbrev pub block_line : Shape → ℕ → List ℕ → List Node
block_line shape b bytes =
    label (codes "dim") 48 (row_text (shape.rows + b + 2)) (block_text b bytes) ∷ newline ∷ []

-- a line for each block, of which the first is block b
abbrev pub drawn_blocks : Shape → ℕ → List (List ℕ) → List Node
drawn_blocks shape b [] = []
drawn_blocks shape b (bytes ∷ blocks) = block_line shape b bytes ++ drawn_blocks shape (b + 1) blocks

-- The text of a report, line by line.
use Rattle.std.specs.Prelude.{ℕ, ◌+◌, ◌/◌, ◌%◌, List, [], ◌∷◌, ◌++◌, flat_map, codes, decimal, false, if◌then◌else◌}
use Rattle.std.specs.Fmt.{signed_decimal, digit_glyph}
use Rattle.sab_block.specs.declared.operand.Operand.{Operand}
use Rattle.sab_block.specs.Operand.{is_bigint, whole_of}
use Rattle.sab_block.specs.Thrown.{name_of}
use Rattle.sab_plan.specs.declared.answer.Answer.{Answer}
use Rattle.sab_plan.specs.declared.answer.Answer.TheVariants.{Value, Woken, NotEqual, TimedOut, Count, Threw}
use Rattle.sab_plan.specs.declared.entry.Why.{Why}
use Rattle.sab_plan.specs.declared.entry.Why.TheVariants.{Done, Waiting, NotWaiting, Endless}
use Rattle.sab_plan.specs.declared.entry.What.{What}
use Rattle.sab_plan.specs.declared.entry.What.TheVariants.{Began, Acted, Enlisted, Left, Returned, Stuck}
use Rattle.sab_plan.specs.declared.entry.Entry.{Entry}
use Rattle.sab_plan.specs.declared.progress.Progress.{Progress}
use Rattle.sab_plan.specs.Report.{ReportParts}
use Rattle.sab_report_text.specs.declared.text.lines.Lines.{Lines}
use Rattle.sab_report_text.specs.declared.text.lines.Lines.TheVariants.{All}
use Rattle.sab_report_text.specs.Text.Lines.{line_if}

-- the whole number, and behind it "n" where it is a BigInt
abbrev pub operand_text : Operand → List ℕ
operand_text x = signed_decimal (whole_of x) ++ (if is_bigint x then codes "n" else [])

abbrev pub answer_text : Answer → List ℕ
answer_text (Value x) = operand_text x
answer_text Woken = codes "ok"
answer_text NotEqual = codes "not-equal"
answer_text TimedOut = codes "timed-out"
answer_text (Count n) = decimal n
answer_text (Threw thrown) = name_of thrown

abbrev pub why_text : Why → List ℕ
why_text Done = codes "done"
why_text Waiting = codes "waiting"
why_text NotWaiting = codes "not-waiting"
why_text Endless = codes "endless"

abbrev pub what_text : What → List ℕ
what_text Began = codes "begin"
what_text (Acted x) = codes "act " ++ answer_text x
what_text Enlisted = codes "wait"
what_text (Left x) = codes "leave " ++ answer_text x
what_text (Returned x) = codes "return " ++ answer_text x
what_text (Stuck why) = codes "stuck " ++ why_text why

-- a number and a space
abbrev pub field : ℕ → List ℕ
field n = decimal n ++ codes " "

-- the line of entry k, without its line feed
abbrev pub entry_text : ℕ → Entry → List ℕ
entry_text k e = field k ++ field e.agent ++ field e.call ++ what_text e.what

abbrev pub entry_line : ℕ → Entry → List ℕ
entry_line k e = entry_text k e ++ codes "\n"

-- a line for each entry that has one, of which the first is entry k
abbrev pub journal_lines : Lines → ℕ → List Entry → List ℕ
journal_lines lines k [] = []
journal_lines lines k (e ∷ journal) = line_if lines e.what (entry_line k e) ++ journal_lines lines (k + 1) journal

-- a byte in two lower-case hexadecimal digits
abbrev pub hex_byte : ℕ → List ℕ
hex_byte b = digit_glyph false (b / 16) ∷ digit_glyph false (b % 16) ∷ []

-- the digits of each byte, or "-" where there is none
abbrev pub bytes_text : List ℕ → List ℕ
bytes_text [] = codes "-"
bytes_text (b ∷ bytes) = flat_map hex_byte (b ∷ bytes)

-- the line of block b
abbrev pub block_line : ℕ → List ℕ → List ℕ
block_line b bytes = codes "block " ++ field b ++ bytes_text bytes ++ codes "\n"

-- a line for each block, of which the first is block b
abbrev pub block_lines : ℕ → List (List ℕ) → List ℕ
block_lines b [] = []
block_lines b (bytes ∷ blocks) = block_line b bytes ++ block_lines (b + 1) blocks

-- the line of agent a, without its line feed
abbrev pub agent_text : ℕ → Progress → List ℕ
agent_text a p = codes "agent " ++ field a ++ field p.returned ++ codes "of " ++ decimal p.total

abbrev pub agent_line : ℕ → Progress → List ℕ
agent_line a p = agent_text a p ++ codes "\n"

-- a line for each agent, of which the first is agent a
abbrev pub agent_lines : ℕ → List Progress → List ℕ
agent_lines a [] = []
agent_lines a (p ∷ agents) = agent_line a p ++ agent_lines (a + 1) agents

-- the text of a report whose journal is written in these lines
abbrev pub text_by : Lines → ReportParts → List ℕ
text_by lines report =
    journal_lines lines 0 report.journal ++ block_lines 0 report.blocks ++ agent_lines 0 report.agents

-- the text of a report
abbrev pub text : ReportParts → List ℕ
text = text_by All

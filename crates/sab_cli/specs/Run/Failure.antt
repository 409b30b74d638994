-- Why a job isn't done.
use Rattle.std.specs.Prelude.{◌≡◌, ◌⊎◌, ◌≢◌, ◌==◌, ◌||◌, ℕ, Bool, List, [], Option, Some, None, true, false, string_bytes, ⊤}
use Rattle.std.specs.List.{list_any}
use Rattle.std.specs.Borrow.{Bor}
use Rattle.std.specs.Char.{is_control}
use Rattle.std.specs.Int.{is_in_range}
use Rattle.std.specs.Str.{chars}
use Rattle.sab_replay.specs.declared.faults.tool_fault.ToolFault.{ToolFault}
use Rattle.sab_replay.specs.declared.faults.tool_fault.ToolFault.TheVariants.{ReadFailed}
use Rattle.sab_cli.specs.declared.command.request.Source.{Source}
use Rattle.sab_cli.specs.declared.command.request.Source.TheVariants.{Standard, File}
use Rattle.sab_cli.specs.declared.run.failure.Explanation.{Explanation}
use Rattle.sab_cli.specs.declared.run.failure.Explanation.TheVariants.{Absent, NoMemory, CheckText, AtLine}
use Rattle.sab_cli.specs.declared.run.failure.Failure.{Failure}

-- a fault about which nothing else is reported
abbrev pub unexplained : ToolFault → Failure
unexplained fault = record { fault = fault; explanation = Absent }

-- what a check says, if that is reported
abbrev pub explanation_text : Explanation → List ℕ
explanation_text Absent = []
explanation_text NoMemory = []
explanation_text (CheckText text) = string_bytes text
explanation_text (AtLine line) = []

-- the line of a trace, if that is reported
abbrev pub line_of : Explanation → Option ℕ
line_of (AtLine line) = Some line
line_of _ = None

-- a character that separates lines, or that changes the direction in which text is shown (Unicode's Bidi_Control)
abbrev pub is_layout : ℕ → Bool
is_layout c =
    c == 0x61C || (is_in_range 0x200E 0x200F c || (is_in_range 0x2028 0x202E c || is_in_range 0x2066 0x2069 c))

-- a character that can change how its line is shown
abbrev pub changes_line : ℕ → Bool
changes_line c = is_control c || is_layout c

-- a file is named exactly if a read of it failed, and its name has no character that can change how its line is shown
abbrev pub NamesFile : Source → ToolFault → Option (Bor (List ℕ)) → Type 0
NamesFile Standard fault None = ⊤
NamesFile Standard fault (Some reported) = ⊥
NamesFile (File name) fault None = (fault ≢ ReadFailed) ⊎ (list_any changes_line (chars name.now) ≡ true)
NamesFile (File name) fault (Some reported) =
    (fault ≡ ReadFailed) × (reported.now ≡ name.now) × (list_any changes_line (chars name.now) ≡ false)

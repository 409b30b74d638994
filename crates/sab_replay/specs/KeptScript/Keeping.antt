-- What keeping a run as a script returns.
use Rattle.std.specs.Prelude.{◌≡◌, ◌⊎◌, ℕ, ◌<◌, ◌≤◌, List, length, Option}
use Rattle.std.specs.Io.KnownBytes.{Appends, Keeps}
use Rattle.serde_json.specs.Data.{Data}
use Rattle.sab_plan.specs.declared.schedule.Move.{Move}
use Rattle.sab_plan.specs.Report.{ReportParts}
use Rattle.sab_reader.specs.declared.script.schedule.TheConstants.{MAX_MOVES}
use Rattle.sab_reader.specs.Script.Setup.{SetupParts, Spells, IsOnlySetup}
use Rattle.sab_reader.specs.Script.Script.{ReadsAs, IsScriptOf}
use Rattle.sab_replay.specs.declared.script_runner.input.TheConstants.{MAX_INPUT}
use Rattle.sab_replay.specs.declared.faults.tool_fault.ToolFault.{ToolFault}
use Rattle.sab_replay.specs.declared.faults.tool_fault.ToolFault.TheVariants.{TooMany, OutOfMemory, WriteFailed}
use Rattle.sab_replay.specs.ScriptRunner.Racing.{IsRaceOf, IsScriptUnraced}
use Rattle.sab_replay.specs.ScriptRunner.Replay.{IsReportOf, IsRefused}
use Rattle.sab_replay.specs.KeptScript.Canonical.{canonical_text}
use Rattle.sab_replay.specs.KeptScript.Rescheduled.{rescheduled, with_schedule}
use Rattle.sab_replay.specs.KeptScript.RecordedMoves.{schedule_of}

-- the script reads as the tree, which spells the setup, and no other
pub record IsParsed (script : List ℕ) (tree : Data) (setup : SetupParts) : Type 0 where
  pub reading : ReadsAs script tree
  pub spelled : Spells tree setup
  pub only : IsOnlySetup tree setup

-- the text is the canonical one of the tree with these moves, reads as it, and is no longer than a script can be
pub record IsTextWith (tree : Data) (moves : List Move) (text : List ℕ) : Type 0 where
  pub few : length moves ≤ MAX_MOVES
  pub short : length text ≤ MAX_INPUT
  pub canonical : text ≡ canonical_text (rescheduled tree moves)
  pub reading : ReadsAs text (rescheduled tree moves)

-- the report is of a run of the script's setup, and the text is a script of that run: replayed, it gives the report
pub record IsKept (IsRun : SetupParts → ReportParts → Type 0) (script : List ℕ) (report : ReportParts) (text : List ℕ)
    : Type 0 where
  -- the script reads as a tree that spells the setup, and the report is of such a run of it
  pub setup : SetupParts
  pub spelled : IsScriptOf script setup
  pub run : IsRun setup report
  -- the text is the canonical one of that tree with the report's moves
  pub canonical : text ≡ canonical_text (rescheduled spelled.tree report.schedule)
  -- it is no longer than a script can be
  pub short : length text ≤ MAX_INPUT
  -- it reads as a tree that spells the setup's plan and views with exactly the report's moves
  pub reads_back : IsScriptOf text (with_schedule setup report.schedule)
  -- the one report that fits these is this one
  pub its : IsReportOf (with_schedule setup report.schedule) report
  -- its moves are those that its journal records
  pub recorded : report.schedule ≡ schedule_of report.journal

-- just such a text came behind what the writer held
abbrev pub KeepsRun : (SetupParts → ReportParts → Type 0) → Option (List ℕ) → Option (List ℕ) → List ℕ → ReportParts
    → Type 0
KeepsRun IsRun old new script report = (text : List ℕ) × IsKept IsRun script report text × Appends old new text

-- the run is a race of the setup's plan
abbrev pub IsRaceIn : ℕ → SetupParts → ReportParts → Type 0
IsRaceIn spins setup report = IsRaceOf setup.plan spins report

-- no script can have these moves: they are too many, or its text would be too long
abbrev pub HasNoScript : Data → List Move → Type 0
HasNoScript tree moves =
    (MAX_MOVES < length moves) ⊎ (MAX_INPUT < length (canonical_text (rescheduled tree moves)))

-- why there is no text of them: they have no script, or memory ran out
abbrev pub IsTextFault : Data → List Move → ToolFault → Type 0
IsTextFault tree moves TooMany = HasNoScript tree moves
IsTextFault tree moves OutOfMemory = Unit {0}
IsTextFault tree moves _ = ⊥

-- the script spells a setup, and there is no text of a run of it
pub record IsUnkept (IsRun : SetupParts → ReportParts → Type 0) (script : List ℕ) (fault : ToolFault) : Type 0 where
  pub setup : SetupParts
  pub spelled : IsScriptOf script setup
  pub report : ReportParts
  pub run : IsRun setup report
  pub no_text : IsTextFault spelled.tree report.schedule fault

-- why a replay isn't kept: the script is refused, or there is no text of the replay
abbrev pub IsReplayUnkept : List ℕ → ToolFault → Type 0
IsReplayUnkept script fault = IsRefused script fault ⊎ IsUnkept IsReportOf script fault

-- why a race isn't kept: the script is refused, or the race is, or there is no text of it
abbrev pub IsRaceUnkept : ℕ → List ℕ → ToolFault → Type 0
IsRaceUnkept spins script fault =
    IsRefused script fault ⊎ (IsScriptUnraced script spins fault ⊎ IsUnkept (IsRaceIn spins) script fault)

-- it is so and nothing was written, or the script spells a setup and a write failed
abbrev pub IsKeepFault : (List ℕ → ToolFault → Type 0) → Option (List ℕ) → Option (List ℕ) → List ℕ → ToolFault
    → Type 0
IsKeepFault Unkept old new script fault =
    (Keeps old new × Unkept script fault)
    ⊎ ((fault ≡ WriteFailed) × ((setup : SetupParts) × IsScriptOf script setup))

-- What replaying a script returns.
use Rattle.std.specs.Prelude.{◌≡◌, ◌⊎◌, ℕ, List, Option}
use Rattle.std.specs.Io.KnownBytes.{Appends, Keeps}
use Rattle.serde_json.specs.Data.{Data}
use Rattle.sab_plan.specs.declared.schedule.Move.{Move}
use Rattle.sab_plan.specs.Plan.{PlanParts}
use Rattle.sab_plan.specs.Report.{ReportParts}
use Rattle.sab_sim.specs.Fits.{Fits, IsOnly}
use Rattle.sab_refusal.specs.declared.read_fault.ReadFault.{ReadFault}
use Rattle.sab_refusal.specs.declared.read_fault.ReadFault.TheVariants as R
use Rattle.sab_replay.specs.declared.faults.tool_fault.ToolFault.{ToolFault}
use Rattle.sab_replay.specs.declared.faults.tool_fault.ToolFault.TheVariants.{TooMany, OutOfMemory, BadShape, BadName, BadNumber, BadCall, BadView, BadAgent, NoBlock, NotJson, WriteFailed}
use Rattle.sab_reader.specs.Script.Setup.{SetupParts, Spells}
use Rattle.sab_reader.specs.Script.Truth.{IsTrueFault}
-- scripts as bytes, for the crates above
pub use Rattle.sab_reader.specs.Script.Script.{ReadsAs, IsScriptOf}
use Rattle.sab_report_text.specs.Text.Text.{text}

-- the script reads as a tree that spells no setup, and the fault is that of a refusal which is true of the tree
pub record IsRefusedFor (fault : ReadFault) (script : List ℕ) : Type 0 where
  pub tree : Data
  pub reading : ReadsAs script tree
  pub unspelled : (setup : SetupParts) → Spells tree setup → ⊥
  pub is_true : IsTrueFault tree fault

-- what a script is refused for before anything is written
abbrev pub IsRefused : List ℕ → ToolFault → Type 0
IsRefused script OutOfMemory = Unit {0}
IsRefused script NotJson = (tree : Data) → ReadsAs script tree → ⊥
IsRefused script TooMany = IsRefusedFor R.TooMany script
IsRefused script BadShape = IsRefusedFor R.BadShape script
IsRefused script BadName = IsRefusedFor R.BadName script
IsRefused script BadNumber = IsRefusedFor R.BadNumber script
IsRefused script BadCall = IsRefusedFor R.BadCall script
IsRefused script BadView = IsRefusedFor R.BadView script
IsRefused script BadAgent = IsRefusedFor R.BadAgent script
IsRefused script NoBlock = IsRefusedFor R.NoBlock script
IsRefused script _ = ⊥

-- the one report that fits the plan and has these moves
pub record IsReplayOf (plan : PlanParts) (moves : List Move) (report : ReportParts) : Type 0 where
  pub fits : Fits plan report
  pub schedule : report.schedule ≡ moves
  pub one : IsOnly plan report

-- the one report that fits the setup's plan and has its schedule
abbrev pub IsReportOf : SetupParts → ReportParts → Type 0
IsReportOf setup report = IsReplayOf setup.plan setup.schedule report

-- the script spells a setup, and just the text of its report came behind what the writer held
pub record Replays (old new : Option (List ℕ)) (script : List ℕ) : Type 0 where
  pub setup : SetupParts
  pub spelled : IsScriptOf script setup
  pub report : ReportParts
  pub is_its : IsReportOf setup report
  pub written : Appends old new (text report)

-- the script is refused and nothing was written, or it spells a setup and a write failed
abbrev pub IsReplayFault : Option (List ℕ) → Option (List ℕ) → List ℕ → ToolFault → Type 0
IsReplayFault old new script fault =
    (Keeps old new × IsRefused script fault)
    ⊎ ((fault ≡ WriteFailed) × ((setup : SetupParts) × IsScriptOf script setup))

-- What running the agents of a script in threads returns.
use Rattle.std.specs.Prelude.{◌≡◌, ◌⊎◌, ℕ, ◌<◌, List, Option, ⊤}
use Rattle.std.specs.Io.KnownBytes.{Appends, Keeps}
use Rattle.sab_plan.specs.Plan.{PlanParts}
use Rattle.sab_plan.specs.Report.{ReportParts}
use Rattle.sab_sim.specs.Fits.{IsOnly}
use Rattle.sab_race.specs.Moves.{count_of}
use Rattle.sab_race.specs.Race.{IsRace}
use Rattle.sab_replay.specs.declared.faults.tool_fault.ToolFault.{ToolFault}
use Rattle.sab_replay.specs.declared.faults.tool_fault.ToolFault.TheVariants.{OutOfMemory, TooManyMoves, NoThread, WriteFailed}
use Rattle.sab_reader.specs.Script.Setup.{SetupParts}
use Rattle.sab_replay.specs.ScriptRunner.Replay.{IsScriptOf, IsRefused}
use Rattle.sab_report_text.specs.Text.Text.{text}
use Rattle.sab_sim.specs.declared.sim.TheConstants.Sim.{MAX_ENTRIES}
-- how many steps an agent can make at a wait, for the crates above
pub use Rattle.sab_race.specs.declared.script_moves.TheConstants.{MAX_SPINS}

-- the report fits the plan, each agent made its moves, and no other report of its schedule fits
pub record IsRaceOf (plan : PlanParts) (spins : ℕ) (report : ReportParts) : Type 0 where
  pub race : IsRace plan spins report
  pub only : IsOnly plan report

-- what a race of a plan is refused for
abbrev pub IsUnraced : PlanParts → ℕ → ToolFault → Type 0
IsUnraced plan spins TooManyMoves = MAX_ENTRIES < count_of plan.scripts spins
IsUnraced plan spins OutOfMemory = ⊤
IsUnraced plan spins NoThread = ⊤
IsUnraced plan spins _ = ⊥

-- the script spells a setup, and just the text of the report of a race came behind what the writer held
pub record Races (old new : Option (List ℕ)) (script : List ℕ) (spins : ℕ) : Type 0 where
  pub setup : SetupParts
  pub spelled : IsScriptOf script setup
  pub report : ReportParts
  pub is_its : IsRaceOf setup.plan spins report
  pub written : Appends old new (text report)

-- the script spells a setup, and a race of its plan is refused
pub record IsScriptUnraced (script : List ℕ) (spins : ℕ) (fault : ToolFault) : Type 0 where
  pub setup : SetupParts
  pub spelled : IsScriptOf script setup
  pub unraced : IsUnraced setup.plan spins fault

-- the script or the race is refused and nothing was written, or the script spells a setup and a write failed
abbrev pub IsRaceFault : Option (List ℕ) → Option (List ℕ) → List ℕ → ℕ → ToolFault → Type 0
IsRaceFault old new script spins fault =
    (Keeps old new × (IsRefused script fault ⊎ IsScriptUnraced script spins fault))
    ⊎ ((fault ≡ WriteFailed) × ((setup : SetupParts) × IsScriptOf script setup))

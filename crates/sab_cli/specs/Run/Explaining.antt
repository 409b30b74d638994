-- Why a script is refused, as a check reports it.
use Rattle.std.specs.Prelude.{◌≡◌, ℕ, ◌≤◌, List, length, Bool, true, Option, Some, None, String, string_bytes}
use Rattle.std.specs.declared.alloc.Global.{Global}
use Rattle.sab_replay.specs.declared.script_runner.input.TheConstants.{MAX_INPUT}
use Rattle.sab_replay.specs.declared.faults.tool_fault.ToolFault.{ToolFault}
use Rattle.sab_reader.specs.Check.Checked.{IsAccepted, IsRefused}
use Rattle.sab_cli.specs.Exit.Status.{status_after}
use Rattle.sab_cli.specs.declared.run.failure.Explanation.{Explanation}
use Rattle.sab_cli.specs.declared.run.failure.Explanation.TheVariants.{Absent, NoMemory, CheckText, AtLine}

-- what a check says about a script that it refuses, or none if it doesn't refuse the script
abbrev pub IsExplained : List ℕ → Option (String Global) → Type 0
IsExplained script None = (text : List ℕ) × IsAccepted script text
IsExplained script (Some text) = IsRefused script (string_bytes text)

-- it is reported why the script is refused exactly if that is asked for, the script itself is refused with the fault,
-- and there is memory: a script that is too long isn't checked; that there is none is said only if it is asked for too
abbrev pub IsExplanation : Bool → ToolFault → List ℕ → Explanation → Type 0
IsExplanation is_asked fault script Absent =
    is_asked ≡ true → status_after fault ≡ 1 → length script ≤ MAX_INPUT → (text : List ℕ) × IsAccepted script text
IsExplanation is_asked fault script NoMemory = (is_asked ≡ true) × (status_after fault ≡ 1)
IsExplanation is_asked fault script (CheckText text) =
    (is_asked ≡ true) × (status_after fault ≡ 1) × IsRefused script (string_bytes text)
IsExplanation is_asked fault script (AtLine line) = ⊥

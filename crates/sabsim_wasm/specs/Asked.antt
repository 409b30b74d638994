-- What a host asks for by numbers.
use Rattle.std.specs.Prelude.{◌==◌, ℕ, Bool, true, false, Option, Some, None, option_map, if◌then◌else◌}
use Rattle.sab_automata.specs.declared.program.Timeouts.{Timeouts}
use Rattle.sab_automata.specs.declared.program.Timeouts.TheVariants.{Early, Last, Never}
use Rattle.sab_report_text.specs.declared.text.format.Format.{Format}
use Rattle.sab_report_text.specs.declared.text.format.Format.TheVariants.{Plain, Explained, Json, Svg}
use Rattle.sab_report_text.specs.declared.text.format.VerdictFormat.{VerdictFormat}
use Rattle.sab_report_text.specs.declared.text.format.VerdictFormat.TheVariants as V
use Rattle.sab_report_text.specs.declared.text.lines.Lines.{Lines}
use Rattle.sab_report_text.specs.declared.text.lines.Lines.TheVariants.{All, Acts}
use Rattle.sab_cli.specs.declared.command.job.RunForm.{RunForm}
use Rattle.sab_cli.specs.declared.command.job.RunForm.TheVariants.{Report, Script}
use Rattle.sab_cli.specs.declared.command.job.Job.TheVariants.{Replay, Check, Judge}
use Rattle.sab_cli.specs.declared.command.job.SearchForm.TheVariants.{Findings}
use Rattle.sab_cli.specs.declared.command.job.SearchJob.{SearchJob}
use Rattle.sab_cli.specs.declared.command.request.Task.{Task}
use Rattle.sab_cli.specs.declared.command.request.Task.TheVariants.{OfScript, OfTrace}

abbrev pub format_at : ℕ → Option Format
format_at number =
    if number == 0 then Some Plain else if number == 1 then Some Explained
    else if number == 2 then Some Json else if number == 3 then Some Svg else None

abbrev pub verdict_format_at : ℕ → Option VerdictFormat
verdict_format_at number = if number == 0 then Some V.Plain else if number == 2 then Some V.Json else None

-- lines for the acts alone, or for all entries
abbrev pub lines_at : Bool → Lines
lines_at true = Acts
lines_at false = All

abbrev pub form_at : ℕ → Bool → Option RunForm
form_at number acts =
    if number == 4 then Some Script
    else option_map (λ format. Report (record { format = format; lines = lines_at acts })) (format_at number)

-- what is to be done with the input, if all numbers have a meaning
abbrev pub task_at : ℕ → ℕ → Bool → Bool → Option Task
task_at job format acts finish =
    if job == 0 then option_map (λ form. OfScript (Replay form finish)) (form_at format acts)
    else if job == 1 then Some (OfScript Check)
    else if job == 2 then option_map (λ format. OfScript (Judge format finish)) (verdict_format_at format)
    else if job == 3 then option_map (λ format. OfTrace format) (verdict_format_at format)
    else None

abbrev pub timeouts_at : ℕ → Option Timeouts
timeouts_at number =
    if number == 0 then Some Early else if number == 1 then Some Last else if number == 2 then Some Never else None

-- how the input is to be searched with these choices, if both numbers have a meaning
abbrev pub searched_with : ℕ → Bool → Option Timeouts → Option VerdictFormat → Option SearchJob
searched_with limit states (Some timeouts) (Some format) =
    Some (record { timeouts = timeouts; limit = limit; form = Findings format states })
searched_with limit states _ _ = None

-- and if there is room for a state
abbrev pub search_at : ℕ → ℕ → ℕ → Bool → Option SearchJob
search_at timeouts limit format states =
    if limit == 0 then None else searched_with limit states (timeouts_at timeouts) (verdict_format_at format)

-- How a run ended.
use Rattle.std.specs.Prelude.{◌==◌, Bool, if◌then◌else◌}
use Rattle.std.specs.List.{list_all}
use Rattle.sab_plan.specs.declared.progress.Progress.{Progress}
use Rattle.sab_plan.specs.Report.{ReportParts}
use Rattle.sab_replay.specs.declared.script_runner.ended.Ended.{Ended}
use Rattle.sab_replay.specs.declared.script_runner.ended.Ended.TheVariants.{Finished, Unfinished}

-- all calls of the agent have returned
abbrev pub has_returned : Progress → Bool
has_returned p = p.returned == p.total

-- all calls of all agents have returned, or some haven't
abbrev pub ended_of : ReportParts → Ended
ended_of report = if list_all has_returned report.agents then Finished else Unfinished

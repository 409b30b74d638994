-- What the program is asked for.
use Rattle.std.specs.Prelude.{◌<◌, ◌≤◌, ⊤}
use Rattle.sab_cli.specs.declared.command.job.RaceJob.{RaceJob}
use Rattle.sab_cli.specs.declared.command.job.SearchJob.{SearchJob}
use Rattle.sab_cli.specs.declared.command.request.Task.{Task}
use Rattle.sab_cli.specs.declared.command.request.Task.TheVariants.{OfScript, OfRace, OfTrace, OfSearch}
use Rattle.sab_race.specs.declared.script_moves.TheConstants.{MAX_SPINS}

-- a race is asked for with at most so many steps at a wait
abbrev pub IsWithinLimits : RaceJob → Type 0
IsWithinLimits race = race.spins ≤ MAX_SPINS

-- a search is asked for with at least one state
abbrev pub HasRoom : SearchJob → Type 0
HasRoom job = 0 < job.limit

-- a race is within its limits, and a search has room; a job without threads and a trace have no limits
abbrev pub IsTaskWithinLimits : Task → Type 0
IsTaskWithinLimits (OfScript job) = ⊤
IsTaskWithinLimits (OfRace race) = IsWithinLimits race
IsTaskWithinLimits (OfTrace format) = ⊤
IsTaskWithinLimits (OfSearch job) = HasRoom job

-- a trace is to be judged
abbrev pub IsOfTrace : Task → Type 0
IsOfTrace (OfScript job) = ⊥
IsOfTrace (OfRace race) = ⊥
IsOfTrace (OfTrace format) = ⊤
IsOfTrace (OfSearch job) = ⊥

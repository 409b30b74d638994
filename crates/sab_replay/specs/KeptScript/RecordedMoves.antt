-- The schedule that a journal records.
use Rattle.std.specs.Prelude.{◌≡◌, List, map, Bool, true, false, if◌then◌else◌}
use Rattle.sab_plan.specs.declared.answer.Answer.TheVariants.{TimedOut}
use Rattle.sab_plan.specs.declared.entry.Why.TheVariants.{NotWaiting, Endless}
use Rattle.sab_plan.specs.declared.entry.What.{What}
use Rattle.sab_plan.specs.declared.entry.What.TheVariants.{Left, Stuck}
use Rattle.sab_plan.specs.declared.entry.Entry.{Entry}
use Rattle.sab_plan.specs.declared.schedule.Move.{Move}
use Rattle.sab_plan.specs.declared.schedule.Move.TheVariants.{Step, TimeUp}
use Rattle.sab_plan.specs.Plan.{PlanParts}
use Rattle.sab_plan.specs.Report.{ReportParts}
use Rattle.sab_sim.specs.Fits.{Fits}

-- it is what the end of a wait's time does: it ends the wait, or finds none that it can end
abbrev pub is_time_up : What → Bool
is_time_up (Left TimedOut) = true
is_time_up (Stuck NotWaiting) = true
is_time_up (Stuck Endless) = true
is_time_up _ = false

-- the move that an entry records
abbrev pub move_of : Entry → Move
move_of e = if is_time_up e.what then TimeUp e.agent else Step e.agent

-- the moves that a journal records
abbrev pub schedule_of : List Entry → List Move
schedule_of journal = map move_of journal

-- the law: a report that fits a plan has the schedule that its journal records
abbrev pub JournalRecordsSchedule : Type 0
JournalRecordsSchedule =
    (plan : PlanParts) (report : ReportParts) → Fits plan report → report.schedule ≡ schedule_of report.journal

-- An event reports its call, case by case.
use Rattle.sab_replay.proofs.OfEvents.Reporting.{reports_its_call}
use Rattle.sab_replay.proofs.events.laws.an_event_reports_its_call.Goals as goal

pub returns : goal.returns
returns c = reports_its_call

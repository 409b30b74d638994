-- Each part that is spelled is the part that is written.
use Rattle.sab_replay.proofs.OfReport.SpelledCalls.{reported_as_spelled}
use Rattle.sab_replay.proofs.report.laws.calls_are_reported_as_spelled.Goals as goal

pub returns : goal.returns
returns c = reported_as_spelled

use Rattle.linearizability.specs.Rows.{AreWide}
use Rattle.linearizability.proofs.tests.follow.Given as goal

abbrev pub invariant-loop-event : goal.invariant-loop-event
invariant-loop-event l = AreWide l.monitor.agents l.monitor.rows

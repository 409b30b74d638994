use Rattle.std.proofs.Common.{◌≡◌, take}
use Rattle.sab_replay.specs.Events.Events.{events_of}
use Rattle.sab_replay.proofs.events.events.trace_of.Given as goal

abbrev pub invariant-loop-entry : goal.invariant-loop-entry
invariant-loop-entry l = l.trace ≡ events_of l.plan (take l.entry-index l.journal)

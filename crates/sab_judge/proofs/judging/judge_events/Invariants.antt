use Rattle.std.proofs.Common.{◌≤◌, length, vec_capacity}
use Rattle.sab_judge.specs.Clock.{AreClocks}
use Rattle.sab_judge.specs.Past.{IsPast}
use Rattle.sab_judge.specs.Race.{CountsDataRaces}
use Rattle.sab_judge.specs.Readers.{AreNoted}
use Rattle.sab_judge.specs.Seen.{IsSeen}
use Rattle.sab_judge.specs.RacesSoFar.{HasReported}
use Rattle.sab_judge.proofs.judging.judge_events.Given as goal

-- the clocks so far, what is kept of events and of accesses, the data races and the races so far
abbrev pub invariant-loop-j : goal.invariant-loop-j
invariant-loop-j l = record {
  room : length l.trace ≤ vec_capacity l.clocks;
  clocked : AreClocks l.trace l.j l.clocks.items;
  past : IsPast l.trace l.j l.past;
  seen : IsSeen l.trace l.j l.seen;
  readers : AreNoted (length l.trace) l.j l.readers;
  data_count : CountsDataRaces l.trace l.j l.data_races;
  reported : HasReported l.trace l.j 0 l.most l.verdict.races.items l.verdict.rest;
}

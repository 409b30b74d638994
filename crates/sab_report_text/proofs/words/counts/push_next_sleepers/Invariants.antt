use Rattle.std.proofs.Common.{◌≡◌, ◌+◌, ◌*◌, ◌≤◌, ◌++◌, length, drop}
use Rattle.std.specs.Prelude.{flat_map}
use Rattle.sab_report_text.specs.declared.words.counts.TheConstants.{NEXT_SLEEPER_LEN}
use Rattle.sab_report_text.specs.Words.FactText.{next_sleeper}
use Rattle.sab_report_text.proofs.words.counts.push_next_sleepers.Given as goal

abbrev pub invariant-loop-agent : goal.invariant-loop-agent
invariant-loop-agent l = record {
  bytes : l.chunk ++ flat_map (next_sleeper l.sinces) (drop l.agent-index l.agents) ≡ l.fn.chunk
      ++ flat_map (next_sleeper l.sinces) l.agents;
  room : length l.chunk ≤ length l.fn.chunk + NEXT_SLEEPER_LEN * l.agent-index;
}

use Rattle.std.proofs.Common.{◌≡◌, ◌≤◌, max, drop}
use Rattle.sab_report_text.specs.declared.text.line.TheConstants.Line.{ROOM}
use Rattle.sab_report_text.specs.Words.Column.{longest_agent}
use Rattle.sab_report_text.proofs.words.column.longest_agent.Given as goal

abbrev pub invariant-loop-a : goal.invariant-loop-a
invariant-loop-a l = record {
  longest : max l.longest (longest_agent l.a (drop l.a l.agents)) ≡ longest_agent 0 l.agents;
  few : l.longest ≤ ROOM;
}

use Rattle.std.proofs.Common.{◌≡◌, ◌≤◌, max, drop}
use Rattle.sab_report_text.specs.declared.text.line.TheConstants.Line.{ROOM}
use Rattle.sab_report_text.specs.Words.Column.{longest_entry}
use Rattle.sab_report_text.proofs.words.column.longest_entry.Given as goal

abbrev pub invariant-loop-k : goal.invariant-loop-k
invariant-loop-k l = record {
  longest : max l.longest (longest_entry l.k (drop l.k l.journal)) ≡ longest_entry 0 l.journal;
  few : l.longest ≤ ROOM;
}

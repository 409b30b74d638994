use Rattle.std.proofs.Common.{drop, ◌+◌, ◌≤◌, length}
use Rattle.std.specs.Io.KnownBytes.{Appends, append_known}
use Rattle.sab_report_text.specs.declared.text.chunk.TheConstants.Chunk.{ROOM, LINE_ROOM}
use Rattle.sab_report_text.specs.Text.Text.{journal_lines}
use Rattle.sab_report_text.proofs.text.report.write_journal.Given as goal

abbrev pub invariant-loop-k : goal.invariant-loop-k
invariant-loop-k g l = record {
  left : Appends (append_known (g.W.Write.contents l.fn.w) l.fn.chunk)
      (append_known (append_known (g.W.Write.contents l.w) l.chunk) (journal_lines l.lines l.k (drop l.k l.journal)))
      (journal_lines l.lines 0 l.journal);
  room : length l.chunk + LINE_ROOM ≤ ROOM;
}

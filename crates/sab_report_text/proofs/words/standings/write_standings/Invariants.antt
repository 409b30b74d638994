use Rattle.std.proofs.Common.{drop, ◌+◌, ◌≤◌, length}
use Rattle.std.specs.Io.KnownBytes.{Appends, append_known}
use Rattle.sab_report_text.specs.declared.text.chunk.TheConstants.Chunk.{ROOM, LINE_ROOM}
use Rattle.sab_report_text.specs.Words.Explained.{standing_lines}
use Rattle.sab_report_text.proofs.words.standings.write_standings.Given as goal

abbrev pub invariant-loop-a : goal.invariant-loop-a
invariant-loop-a g l = record {
  left : Appends (append_known (g.W.Write.contents l.fn.w) l.fn.chunk)
      (append_known (append_known (g.W.Write.contents l.w) l.chunk)
      (standing_lines l.column.at l.names l.standings l.a (drop l.a l.agents)))
      (standing_lines l.column.at l.names l.standings 0 l.agents);
  room : length l.chunk + LINE_ROOM ≤ ROOM;
}

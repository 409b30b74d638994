use Rattle.std.proofs.Common.{drop, ◌+◌, ◌≤◌, length}
use Rattle.std.specs.Io.KnownBytes.{Appends, append_known}
use Rattle.sab_plan.specs.Report.{items_of_each}
use Rattle.sab_report_text.specs.declared.text.chunk.TheConstants.Chunk.{ROOM, LINE_ROOM}
use Rattle.sab_report_text.specs.Text.Text.{block_lines}
use Rattle.sab_report_text.proofs.text.report.write_blocks.Given as goal

abbrev pub invariant-loop-b : goal.invariant-loop-b
invariant-loop-b g l = record {
  left : Appends (append_known (g.W.Write.contents l.fn.w) l.fn.chunk)
      (append_known (append_known (g.W.Write.contents l.w) l.chunk)
      (block_lines l.b (items_of_each (drop l.b l.blocks))))
      (block_lines 0 (items_of_each l.blocks));
  room : length l.chunk + LINE_ROOM ≤ ROOM;
}

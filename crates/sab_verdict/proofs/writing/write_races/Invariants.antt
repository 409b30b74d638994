use Rattle.std.proofs.Common.{◌≤◌, ◌+◌, length, drop, flat_map}
use Rattle.std.specs.Io.KnownBytes.{Appends, append_known}
use Rattle.sab_report_text.specs.declared.text.chunk.TheConstants.Chunk.{ROOM, LINE_ROOM}
use Rattle.sab_verdict.specs.Verdict.{line_of}
use Rattle.sab_verdict.specs.Sides.{words_of, data_of}
use Rattle.sab_verdict.proofs.writing.write_races.Given as goal

abbrev pub invariant-loop-race : goal.invariant-loop-race
invariant-loop-race g l = record {
  left : Appends (append_known (g.W.Write.contents l.fn.w) l.fn.chunk)
      (append_known (append_known (g.W.Write.contents l.w) l.chunk)
      (flat_map (line_of l.format (words_of l.sides) (data_of l.sides) l.events) (drop l.race-index l.races)))
      (flat_map (line_of l.format (words_of l.sides) (data_of l.sides) l.events) l.races);
  room : length l.chunk + LINE_ROOM ≤ ROOM;
}

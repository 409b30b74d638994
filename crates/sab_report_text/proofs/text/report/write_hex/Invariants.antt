use Rattle.std.proofs.Common.{◌≡◌, ◌+◌, ◌≤◌, length}
use Rattle.std.specs.Prelude.{flat_map}
use Rattle.std.specs.Io.KnownBytes.{Appends, append_known}
use Rattle.std.specs.Slice.Iter.{chunks_rest, chunks_size}
use Rattle.sab_report_text.specs.declared.text.chunk.TheConstants.Chunk.{ROOM, LINE_ROOM, HEX_PIECE}
use Rattle.sab_report_text.specs.Text.Text.{hex_byte}
use Rattle.sab_report_text.proofs.text.report.write_hex.Given as goal

abbrev pub invariant-loop-piece : goal.invariant-loop-piece
invariant-loop-piece g l = record {
  can_next : (goal.iterator-loop-piece g).can_next l.piece-iterator;
  is_finite : (goal.iterator-loop-piece g).is_finite l.piece-iterator;
  size : chunks_size l.piece-iterator ≡ HEX_PIECE;
  left : Appends (append_known (g.W.Write.contents l.fn.w) l.fn.chunk)
      (append_known (append_known (g.W.Write.contents l.w) l.chunk) (flat_map hex_byte (chunks_rest l.piece-iterator)))
      (flat_map hex_byte l.bytes);
  room : length l.chunk + LINE_ROOM ≤ ROOM;
}

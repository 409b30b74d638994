use Rattle.std.proofs.Common.{◌≡◌, ◌*◌, ◌++◌, take, drop}
use Rattle.std.specs.Prelude.{flat_map}
use Rattle.sab_report_text.specs.Text.Text.{hex_byte}
use Rattle.sab_report_text.proofs.text.chunk.spell_hex.Given as goal

abbrev pub invariant-loop-i : goal.invariant-loop-i
invariant-loop-i l = record {
  spelled : take (2 * l.i) l.digits ++ flat_map hex_byte (drop l.i l.bytes) ≡ flat_map hex_byte l.bytes;
}

use Rattle.std.proofs.Common.{take, flat_map}
use Rattle.std.specs.Fmt.{HasWritten, IsPlainFormatter}
use Rattle.sab_refusal.specs.Excerpt.{shown, bytes_of}
use Rattle.sab_refusal.proofs.excerpt.BareDisplay.fmt.Given as goal

abbrev pub invariant-loop-byte : goal.invariant-loop-byte
invariant-loop-byte g l =
    IsPlainFormatter l.fn.f → HasWritten g.W.Write.write_str_gives l.fn.f
    (flat_map shown (take l.byte-index (bytes_of l.self.0))) l.f

-- Two digits for each byte.
use Rattle.std.proofs.Common.{arith, length-append}
use Rattle.sab_svg.proofs.EndTexts.{hex_length}
use Rattle.sab_svg.proofs.blocks.push_shown.Goals as goal

pub returns-clause-len : goal.returns-clause-len
returns-clause-len c =
    rw (c.push_hex.ensures, length-append, hex_length c.first_of.result.now) (omega (arith, c.first_of.ensures.len))

use Rattle.std.proofs.lemmas.Grind.{common_steps}
use Rattle.std.proofs.Common.{arith}
use Rattle.std.specs.Int.{w64}
use Rattle.std.proofs.lemmas.Int.{to_z-of_z}
use Rattle.sab_trace.proofs.numbers.Numbers.are_safe.Goals as goal

pub returns-then-three_are_safe : goal.returns-then-three_are_safe
returns-then-three_are_safe c =
    grind (arith, common_steps, to_z-of_z, w64, c.three_are_safe.ensures, c.three_are_safe-then-three_are_safe.ensures)

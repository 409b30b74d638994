use Rattle.std.proofs.Common.{arith}
use Rattle.std.proofs.lemmas.Grind.{common_steps}
use Rattle.std.proofs.lemmas.List.{take_min}
use Rattle.sab_svg.proofs.blocks.first_of.Goals as goal

pub returns-clause-bytes : goal.returns-clause-bytes
returns-clause-bytes c = grind (arith, common_steps, take_min)

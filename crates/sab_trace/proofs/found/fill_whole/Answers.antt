use Rattle.std.proofs.lemmas.Grind.{common_steps}
use Rattle.std.proofs.Common.{arith}
use Rattle.std.specs.Int.{w64}
use Rattle.std.proofs.lemmas.Int.{to_z-of_z}
use Rattle.sab_trace.proofs.Takes.{on_some}
use Rattle.sab_trace.proofs.found.fill_whole.Goals as goal

pub returns : goal.returns
returns c = grind (arith, common_steps, on_some, to_z-of_z, w64, c.in_ok-whole.ensures, c.fill.ensures)

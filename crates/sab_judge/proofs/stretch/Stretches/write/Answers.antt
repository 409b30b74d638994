-- A write splits at both edges, and overwrites what lies between.
use Rattle.std.proofs.Common.{arith}
use Rattle.sab_judge.proofs.Stretching.{rewritten, split_apart}
use Rattle.sab_judge.proofs.stretch.Stretches.write.Goals as goal

pub overwrite-requires-clause-forward : goal.overwrite-requires-clause-forward
overwrite-requires-clause-forward c = omega (arith, split_apart c.requires.some c.in_ok-from.ensures c.in_ok-to.ensures)

pub returns : goal.returns
returns c = rewritten c.requires.some c.in_ok-from.ensures c.in_ok-to.ensures c.overwrite.ensures

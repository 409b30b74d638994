use Rattle.std.proofs.lemmas.Grind.{common_steps}
use Rattle.std.proofs.Common.{length, drop, arith}
use Rattle.sab_refusal.proofs.OfSyntax.Stacks.{length-stack, popped}
use Rattle.sab_refusal.proofs.syntax.brackets.Brackets.pop.Goals as goal

pub returns : goal.returns
returns c = grind (arith, common_steps, length, length-stack, popped, drop, c.self.invariant.0, c.self.invariant.1)

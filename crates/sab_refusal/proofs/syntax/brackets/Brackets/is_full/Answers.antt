use Rattle.std.proofs.lemmas.Grind.{common_steps}
use Rattle.std.proofs.Common.{◌==◌, length, ap, sym, ◌∙◌, arith}
use Rattle.sab_refusal.proofs.OfSyntax.Stacks.{length-stack}
use Rattle.sab_refusal.proofs.syntax.brackets.Brackets.is_full.Goals as goal

pub returns-clause-value : goal.returns-clause-value
returns-clause-value c =
    ap (λ n. n == 127) (sym (length-stack c.self.inside.len c.self.inside.brackets (omega
    (arith, c.self.invariant.0, c.self.invariant.1)))) ∙ ap (λ l. length l == 127) c.self.view_is

pub returns-clause-few : goal.returns-clause-few
returns-clause-few c = grind (arith, common_steps, length-stack, length, c.self.invariant.0, c.self.invariant.1)

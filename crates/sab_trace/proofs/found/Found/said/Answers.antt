use Rattle.sab_trace.proofs.Says.{says_all}
use Rattle.sab_trace.proofs.found.Found.said.Goals as goal

pub returns-then-can_have : goal.returns-then-can_have
returns-then-can_have c = λ source.
    says_all c.args.self.now source _ c.in_ok-numbers.ensures c.in_ok-self.was c.in_ok-self-2.was c.in_ok-self-3.was
    c.in_ok-self-4.was c.in_ok-does.was c.if-self.true (c.are_safe.ensures.0 c.if-are_safe.true)
    (c.can_have.ensures.0 c.if-can_have.true)

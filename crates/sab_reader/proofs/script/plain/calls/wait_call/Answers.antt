use Rattle.std.proofs.Common.{refl, rules}
use Rattle.sab_reader.proofs.OfScript.Tokens.{one_then}
use Rattle.sab_reader.proofs.script.plain.calls.wait_call.Goals as goal

pub returns : goal.returns
returns c =
    one_then c.args.rest.now c.next_operand.new.rest c.in_ok-value.ensures c.in_ok-timeout.ensures
    (λ d ds p q. record { name = refl; view = refl; index = search rules; arguments = (p, q) })

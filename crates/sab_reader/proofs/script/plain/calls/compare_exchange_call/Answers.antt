use Rattle.std.proofs.Common.{refl, rules}
use Rattle.sab_reader.proofs.OfScript.Tokens.{one_then}
use Rattle.sab_reader.proofs.script.plain.calls.compare_exchange_call.Goals as goal

pub returns : goal.returns
returns c =
    one_then c.args.rest.now c.next_operand.new.rest c.in_ok-expected.ensures c.in_ok-replacement.ensures
    (λ d ds p q. record { name = refl; view = refl; index = search rules; arguments = (p, q) })

use Rattle.std.proofs.Common.{refl, rules}
use Rattle.sab_reader.proofs.OfScript.Tokens.{items_by}
use Rattle.sab_reader.proofs.script.plain.calls.rmw_call.Goals as goal

pub returns : goal.returns
returns c =
    items_by c.args.rest.now (λ ds h. record { name = refl; view = refl; index = search rules; arguments = h })
    c.in_ok-value.ensures

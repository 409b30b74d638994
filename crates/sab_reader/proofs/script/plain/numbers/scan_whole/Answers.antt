use Rattle.sab_reader.proofs.OfScript.Tokens.{if_some, holds_whole}
use Rattle.sab_reader.proofs.script.plain.numbers.scan_whole.Goals as goal

pub returns : goal.returns
returns c =
    if_some c.safe_integer.result
    (λ z h. holds_whole c.args.element.now c.in_ok-as_number.field-0.now z c.in_ok-as_number.ensures h.0 h.1)
    c.safe_integer.ensures

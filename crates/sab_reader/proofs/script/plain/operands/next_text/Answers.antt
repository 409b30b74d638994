use Rattle.sab_reader.proofs.OfScript.Tokens.{if_reported, next_holds, holds_string}
use Rattle.sab_reader.proofs.script.plain.operands.next_text.Goals as goal

pub returns : goal.returns
returns c =
    if_reported c.in_ok-next.field-0 c.as_str.result
    (λ s is. next_holds c.args.rest.now c.in_ok-next.field-0 c.next.new.self c.in_ok-next.ensures.value
    (holds_string c.in_ok-next.field-0 s.now is)) c.as_str.ensures

use Rattle.sab_reader.proofs.OfScript.Tokens.{if_some, next_holds}
use Rattle.sab_reader.proofs.script.plain.operands.next_whole.Goals as goal

pub returns : goal.returns
returns c =
    if_some c.scan_whole.result (λ z h. next_holds c.args.rest.now c.in_ok-next.field-0 c.next.new.self c.in_ok-next.ensures.value h)
    c.scan_whole.ensures

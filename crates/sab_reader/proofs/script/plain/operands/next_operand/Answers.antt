use Rattle.sab_reader.proofs.OfScript.Tokens.{if_some, next_holds}
use Rattle.sab_reader.proofs.script.plain.operands.next_operand.Goals as goal

pub returns : goal.returns
returns c =
    if_some c.scan_operand.result (λ x h. next_holds c.args.rest.now c.in_ok-next.field-0 c.next.new.self c.in_ok-next.ensures.value h)
    c.scan_operand.ensures

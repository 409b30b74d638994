use Rattle.sab_reader.proofs.OfScript.Tokens.{one_then}
use Rattle.sab_reader.proofs.script.plain.operands.last_operand.Goals as goal

pub returns : goal.returns
returns c =
    one_then c.args.rest.now c.next_operand.new.rest c.in_ok-value.ensures c.in_ok-no_more_items.ensures
    (λ d ds h none. (h, rw none tt))

use Rattle.sab_reader.proofs.OfScript.Tokens.{none_left}
use Rattle.sab_reader.proofs.script.plain.operands.no_more_items.Goals as goal

pub returns-in-None : goal.returns-in-None
returns-in-None c = none_left c.args.rest.now c.next.new.self c.in-None.ensures.value

use Rattle.sab_reader.proofs.OfScript.Ordered.{are_in_order}
use Rattle.sab_reader.proofs.script.tree.members.Goals as goal

pub returns-in-Some-clause-order : goal.returns-in-Some-clause-order
returns-in-Some-clause-order c = are_in_order c.iter.result (rw c.iter.ensures.rest c.iter.ensures.ordered)

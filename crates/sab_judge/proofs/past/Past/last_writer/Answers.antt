-- What is kept of the block gives the writer.
use Rattle.std.proofs.lemmas.Grind.{common_steps}
use Rattle.std.proofs.Common.{sym, arith}
use Rattle.sab_judge.proofs.Written.{given_writer}
use Rattle.sab_judge.proofs.past.Past.last_writer.Goals as goal

pub find-requires-clause-order : goal.find-requires-clause-order
find-requires-clause-order c = c.requires.order c.args.block c.in-Some.stretches.now (sym c.in-Some.ensures.value)

pub returns-in-Some-clause-writer : goal.returns-in-Some-clause-writer
returns-in-Some-clause-writer c trace n past = grind (arith, common_steps, given_writer)

pub returns-in-None-clause-writer : goal.returns-in-None-clause-writer
returns-in-None-clause-writer c trace n past = grind (arith, common_steps)

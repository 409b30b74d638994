use Rattle.sab_trace.proofs.spelling.tree_says.Goals as goal

pub returns-in_default-clause-err : goal.returns-in_default-clause-err
returns-in_default-clause-err c = λ position values shaped. c.in_default.ensures.none values shaped.members

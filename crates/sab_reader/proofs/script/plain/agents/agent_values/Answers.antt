use Rattle.sab_reader.proofs.script.plain.agents.agent_values.Goals as goal

pub returns : goal.returns
returns c = λ j begins.
    let n = c.in_ok-are_named.ensures j begins in
    let object_begins = rw n.1 at begins in
    let b = c.in_ok-block.ensures n.0 object_begins in
    let k = c.in_ok-calls.ensures n.0 object_begins in (b.0, k.0, (n.0, n.1, n.2, (b.1, (k.1, tt))), b.2, k.2)

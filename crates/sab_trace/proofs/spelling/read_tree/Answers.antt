use Rattle.std.proofs.Common.{rules}
use Rattle.serde_json.specs.View.{view}
use Rattle.sab_trace.specs.Spelling.{ReadsAs}
use Rattle.sab_trace.proofs.Outcomes.{if_err}
use Rattle.sab_trace.proofs.Says.{reading_fault}
use Rattle.sab_trace.proofs.spelling.read_tree.Goals as goal

pub returns-in-Ok-tree_says-clause-err : goal.returns-in-Ok-tree_says-clause-err
returns-in-Ok-tree_says-clause-err c =
    let reading : ReadsAs c.args.line.now (view c.in-Ok.tree) = search rules in
    if_err c.event_of.result
    (λ fault h. reading_fault c.args.position c.args.line.now (view c.in-Ok.tree) fault reading
    (h (view c.in-Ok.tree) c.in-Ok-tree_says.ensures.ok)) c.event_of.ensures.err

pub returns-clause-err : goal.returns-clause-err
returns-clause-err c =
    let reading : ReadsAs c.args.line.now (view c.in-Ok.tree) = search rules in
    reading_fault c.args.position c.args.line.now (view c.in-Ok.tree) c.in-Err-tree_says.fault reading
    (c.in-Err-tree_says.ensures.err c.args.position)

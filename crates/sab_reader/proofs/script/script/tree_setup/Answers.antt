use Rattle.serde_json.specs.View.{view}
use Rattle.sab_reader.proofs.OfScript.Scripts.{reported_tree}
use Rattle.sab_reader.proofs.script.script.tree_setup.Goals as goal

pub returns-clause-reported : goal.returns-clause-reported
returns-clause-reported c =
    reported_tree c.args.script.now (view c.in_ok-tree.tree) c.in-Err.refusal c.in_ok-tree.ensures.ok.1
    c.in-Err.ensures.reported

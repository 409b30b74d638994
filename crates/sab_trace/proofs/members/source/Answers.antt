use Rattle.std.proofs.Common.{sym, ◌∙◌}
use Rattle.serde_json.specs.View.{view, members_view}
use Rattle.sab_trace.proofs.Shapes.{null_source, text_source, source_in}
use Rattle.sab_trace.proofs.members.source.Goals as goal
use Rattle.sab_trace.proofs.members.source.Goals.{then-is_null-via-then-is_null, then-is_null-via-else-is_null+then-is_string}

pub returns-then-is_null-clause-some : goal.returns-then-is_null-clause-some
returns-then-is_null-clause-some c =
    let d = view c.in_ok-tree.tree.now in
    source_in _ (members_view c.args.rest.now) (members_view c.member.new.rest) d c.in_ok-tree.ensures.some
    (elim c.then-is_null.branch [
      | then-is_null-via-then-is_null w ↦ null_source d (sym c.is_null.ensures ∙ w.if-is_null.true)
      | then-is_null-via-else-is_null+then-is_string w ↦ text_source d (sym w.is_string.ensures ∙ w.if-is_string.true)
    ])

use Rattle.serde_json.specs.View.{view, members_view}
use Rattle.sab_trace.proofs.Shapes.{no_value, size_missing}
use Rattle.sab_trace.proofs.members.read_members.Goals as goal

pub returns-in_err-size-clause-none : goal.returns-in_err-size-clause-none
returns-in_err-size-clause-none c =
    no_value c.from_residual-in_err-size.result c.from_residual-in_err-size.ensures
    (size_missing (view c.args.tree.now) (members_view c.in_ok-rest.rest) (members_view c.agent_to_byte.new.rest)
    (members_view c.call_to_read.new.rest) _ _ _ _ _ _ _ _ c.in_ok-rest.ensures.some c.in_ok-agent.ensures.some
    c.in_ok-call.ensures.some c.in_err-size.ensures.none)

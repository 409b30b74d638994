use Rattle.std.proofs.lemmas.Grind.{common_steps}
use Rattle.std.proofs.Common.{◌≡◌, ℕ, arith}
use Rattle.serde_json.specs.Data.{Data}
use Rattle.serde_json.specs.View.{view, members_view}
use Rattle.sab_refusal.specs.declared.location.Location.{Location}
use Rattle.sab_refusal.specs.declared.location.Location.TheVariants as at
use Rattle.sab_refusal.specs.declared.member.Member.TheVariants as M
use Rattle.sab_reader.specs.Script.Truth.{IsTrueWhere}
use Rattle.sab_reader.proofs.OfScript.Exits.{exit_reported}
use Rattle.sab_reader.proofs.OfScript.AgentReasons.{block_missing_reported, calls_missing_reported, agent_end_reported}
use Rattle.sab_reader.proofs.script.agents.agent_members.Goals as goal

abbrev Known : Location → Data → Type 0
Known place root = (i : ℕ) × (place ≡ at.Item M.Agents i)

pub returns-in_err-rest-clause-reported : goal.returns-in_err-rest-clause-reported
returns-in_err-rest-clause-reported c =
    grind (arith, common_steps, exit_reported, view, c.from_residual.ensures.1, c.in_err-rest.ensures.reported)

pub returns-in_err-block-clause-reported : goal.returns-in_err-block-clause-reported
returns-in_err-block-clause-reported c =
    let d = view c.args.tree.now in
    let ms = members_view c.in_ok-rest.rest in
    let e = c.in_err-block.field-0.0 in
    exit_reported (IsTrueWhere c.args.at d (Known c.args.at)) c.from_residual-in_err-block.result e
    c.from_residual-in_err-block.ensures.1
    (λ root stands known. rw c.in_err-block.ensures.place
    (block_missing_reported root known.0 c.args.at d ms e.why known.1 stands c.in_ok-rest.ensures.ok
    c.in_ok-rest.ensures.order (c.in_err-block.ensures.lacks c.in_ok-rest.ensures.order)))

pub returns-in_err-calls-clause-reported : goal.returns-in_err-calls-clause-reported
returns-in_err-calls-clause-reported c =
    let d = view c.args.tree.now in
    let ms = members_view c.in_ok-rest.rest in
    let rest = members_view c.member.new.members in
    let e = c.in_err-calls.field-0.0 in
    exit_reported (IsTrueWhere c.args.at d (Known c.args.at)) c.from_residual-in_err-calls.result e
    c.from_residual-in_err-calls.ensures.1
    (λ root stands known. rw c.in_err-calls.ensures.place
    (calls_missing_reported root known.0 c.args.at d (view c.in_ok-block.block.now) ms rest e.why known.1 stands
    c.in_ok-rest.ensures.ok c.in_ok-rest.ensures.order c.in_ok-block.ensures.ok c.in_err-calls.ensures.lacks))

pub returns-in_err-end-clause-reported : goal.returns-in_err-end-clause-reported
returns-in_err-end-clause-reported c =
    let d = view c.args.tree.now in
    let ms = members_view c.in_ok-rest.rest in
    let e = c.in_err-end.field-0.0 in
    exit_reported (IsTrueWhere c.args.at d (Known c.args.at)) c.from_residual-in_err-end.result e
    c.from_residual-in_err-end.ensures.1
    (λ root stands known. rw c.in_err-end.ensures.place
    (agent_end_reported root known.0 c.args.at d (view c.in_ok-block.block.now) (view c.in_ok-calls.calls.now) ms
    (members_view c.member.new.members) (members_view c.member-2.new.members) e.why known.1 stands
    c.in_ok-rest.ensures.ok c.in_ok-rest.ensures.order c.in_ok-block.ensures.ok c.in_ok-calls.ensures.ok
    c.in_err-end.ensures.first))

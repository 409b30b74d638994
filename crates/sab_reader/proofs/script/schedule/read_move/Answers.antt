use Rattle.std.proofs.Common.{◌≡◌, ℕ, ap, ◌∙◌, rules}
use Rattle.serde_json.specs.Data.{Data, Members, object}
use Rattle.serde_json.specs.declared.value.Value.{the_lemmas}
use Rattle.serde_json.specs.View.{view, members_view}
use Rattle.sab_plan.specs.declared.schedule.Move.{Move}
use Rattle.sab_reader.specs.Script.Numbers.{SpellsPosition}
use Rattle.sab_reader.specs.Script.Schedule.{SpellsMove}
use Rattle.sab_reader.proofs.OfScript.Parts.{timeout_part}
use Rattle.sab_reader.proofs.OfScript.Refusing.{exit_refuses}
use Rattle.sab_refusal.specs.declared.location.Location.{Location}
use Rattle.sab_refusal.specs.declared.location.Location.TheVariants as at
use Rattle.sab_refusal.specs.declared.member.Member.TheVariants as M
use Rattle.sab_refusal.specs.Location.{member_at}
use Rattle.sab_reader.specs.Script.Truth.{IsTrueWhere, HasItems}
use Rattle.sab_reader.proofs.OfScript.Standing.{part_of_item}
use Rattle.sab_reader.proofs.OfScript.Exits.{exit_reported}
use Rattle.sab_reader.proofs.OfScript.MoveReasons.{timeout_missing_reported, move_end_reported, timeout_known, step_known}
use Rattle.sab_reader.proofs.OfScript.Unread.{none_read, next_there}
use Rattle.sab_reader.proofs.script.schedule.read_move.Goals as goal

abbrev Known : Location → ℕ → Data → Type 0
Known place agents root = ((k : ℕ) × (place ≡ at.Item M.Schedule k)) × HasItems root (at.Member M.Agents) agents

pub returns-in_err-agent-clause-found : goal.returns-in_err-agent-clause-found
returns-in_err-agent-clause-found c =
    let d = view c.args.tree.now in
    let x = view c.in_ok-timeout.timeout.now in
    exit_refuses (λ (m : Move). m) (SpellsPosition c.args.agents x) (SpellsMove c.args.agents d)
    c.from_residual-in_err-agent.result c.in_err-agent.field-0.0 c.from_residual-in_err-agent.ensures.1
    c.in_err-agent.ensures.reads
    (timeout_part c.args.agents d x (members_view c.member.new.members)
    (c.in_ok-rest.ensures.ok ∙ ap object c.in_ok-timeout.ensures.ok))

pub returns-in_err-timeout-clause-reported : goal.returns-in_err-timeout-clause-reported
returns-in_err-timeout-clause-reported c =
    let d = view c.args.tree.now in
    let ms = members_view c.in_ok-rest.rest in
    let e = c.in_err-timeout.field-0.0 in
    exit_reported (IsTrueWhere c.args.at d (Known c.args.at c.args.agents)) c.from_residual-in_err-timeout.result e
    c.from_residual-in_err-timeout.ensures.1
    (λ root stands known. rw c.in_err-timeout.ensures.place
    (timeout_missing_reported root known.0.0 c.args.at d ms e.why known.0.1 stands c.in_ok-rest.ensures.ok
    c.in_ok-rest.ensures.order (c.in_err-timeout.ensures.lacks c.in_ok-rest.ensures.order)))

pub returns-in_err-agent-clause-reported : goal.returns-in_err-agent-clause-reported
returns-in_err-agent-clause-reported c =
    let d = view c.args.tree.now in
    let x = view c.in_ok-timeout.timeout.now in
    let ms = members_view c.in_ok-rest.rest in
    let e = c.in_err-agent.field-0.0 in
    let below = c.member-at_timeout.ensures in
    exit_reported (IsTrueWhere c.args.at d (Known c.args.at c.args.agents)) c.from_residual-in_err-agent.result e
    c.from_residual-in_err-agent.ensures.1
    (λ root stands known.
    let there = next_there ms _ ms _ x _ c.in_ok-timeout.ensures.ok (none_read ms c.in_ok-rest.ensures.order) in
    let place = below ∙ ap (λ p. member_at p M.Timeout) known.0.1 in
    c.in_err-agent.ensures.reported root
    (rw below (part_of_item M.Schedule M.Timeout known.0.0 root c.args.at d x ms known.0.1 stands
    c.in_ok-rest.ensures.ok there))
    (timeout_known root known.0.0 c.args.agents _ x place known.1))

pub returns-in_err-end-clause-reported : goal.returns-in_err-end-clause-reported
returns-in_err-end-clause-reported c =
    let d = view c.args.tree.now in
    let ms = members_view c.in_ok-rest.rest in
    let e = c.in_err-end.field-0.0 in
    exit_reported (IsTrueWhere c.args.at d (Known c.args.at c.args.agents)) c.from_residual-in_err-end.result e
    c.from_residual-in_err-end.ensures.1
    (λ root stands known. rw c.in_err-end.ensures.place
    (move_end_reported root known.0.0 c.args.at d _ ms _ e.why known.0.1 stands c.in_ok-rest.ensures.ok
    c.in_ok-rest.ensures.order c.in_ok-timeout.ensures.ok c.in_err-end.ensures.first))

pub returns-in_err-agent-2-clause-reported : goal.returns-in_err-agent-2-clause-reported
returns-in_err-agent-2-clause-reported c =
    let d = view c.args.tree.now in
    let none : (ms : Members) → view c.args.tree.now ≡ object ms → ⊥ = search (rules, the_lemmas) in
    exit_reported (IsTrueWhere c.args.at d (Known c.args.at c.args.agents)) c.from_residual-in_err-agent-2.result
    c.in_err-agent-2.field-0.0 c.from_residual-in_err-agent-2.ensures.1
    (λ root stands known. c.in_err-agent-2.ensures.reported root stands
    (step_known root known.0.0 c.args.agents c.args.at d known.0.1 none known.1))

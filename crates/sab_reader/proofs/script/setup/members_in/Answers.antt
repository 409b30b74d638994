use Rattle.std.proofs.Common.{◌≡◌, refl}
use Rattle.serde_json.specs.Data.{Data}
use Rattle.serde_json.specs.View.{view, members_view}
use Rattle.sab_refusal.specs.declared.located.Located.{Located}
use Rattle.sab_reader.specs.declared.script.form.Form.{Form}
use Rattle.sab_reader.specs.Script.Places.{form_of}
use Rattle.sab_reader.specs.Script.Truth.{IsTrueOf}
use Rattle.sab_reader.proofs.OfScript.Exits.{exit_reported}
use Rattle.sab_reader.proofs.OfScript.ScriptReasons.{agents_missing_reported, lens_missing_reported, schedule_missing_reported, views_missing_reported, script_end_reported, lacks_lens}
use Rattle.sab_reader.proofs.OfScript.Parts.{on_err, agents_missing, lens_missing, schedule_missing, views_missing, no_script, whole_script, named, none_named}
use Rattle.sab_reader.proofs.script.setup.members_in.Goals as goal

abbrev Reported : Form → Data → Located → Type 0
Reported form root e = form_of root ≡ form → IsTrueOf root e

pub returns-in_err-rest-clause-err : goal.returns-in_err-rest-clause-err
returns-in_err-rest-clause-err c =
    on_err c.from_residual.result (λ agents lens schedule views e. c.in_err-rest.ensures.err _ e)

pub returns-in_err-agents-clause-err : goal.returns-in_err-agents-clause-err
returns-in_err-agents-clause-err c =
    on_err c.from_residual-in_err-agents.result
    (agents_missing c.args.form (view c.args.tree.now) (members_view c.in_ok-rest.rest) c.in_ok-rest.ensures.ok
    c.in_err-agents.ensures.err)

pub returns-in_err-lens-clause-err : goal.returns-in_err-lens-clause-err
returns-in_err-lens-clause-err c =
    on_err c.from_residual-in_err-lens.result
    (lens_missing c.args.form (view c.args.tree.now) (members_view c.in_ok-rest.rest) (members_view c.member.new.members)
    _ c.in_ok-rest.ensures.ok c.in_ok-agents.ensures.ok
    (none_named _ _ _ c.lens_member.ensures.name c.in_err-lens.ensures.err))

pub returns-in_err-schedule-clause-err : goal.returns-in_err-schedule-clause-err
returns-in_err-schedule-clause-err c =
    on_err c.from_residual-in_err-schedule.result
    (schedule_missing c.args.form (view c.args.tree.now) (members_view c.in_ok-rest.rest)
    (members_view c.member.new.members) (members_view c.member-2.new.members) _ _
    c.in_ok-rest.ensures.ok c.in_ok-agents.ensures.ok
    (named _ _ _ _ _ c.lens_member.ensures.name c.in_ok-lens.ensures.ok) c.in_err-schedule.ensures.err)

pub returns-in_err-views-clause-err : goal.returns-in_err-views-clause-err
returns-in_err-views-clause-err c =
    on_err c.from_residual-in_err-views.result
    (views_missing c.args.form (view c.args.tree.now) (members_view c.in_ok-rest.rest)
    (members_view c.member.new.members) (members_view c.member-2.new.members) (members_view c.member-3.new.members)
    _ _ _ c.in_ok-rest.ensures.ok c.in_ok-agents.ensures.ok
    (named _ _ _ _ _ c.lens_member.ensures.name c.in_ok-lens.ensures.ok) c.in_ok-schedule.ensures.ok
    c.in_err-views.ensures.err)

pub returns-in_err-end-clause-err : goal.returns-in_err-end-clause-err
returns-in_err-end-clause-err c =
    on_err c.from_residual-in_err-end.result
    (no_script c.args.form (view c.args.tree.now) (members_view c.in_ok-rest.rest)
    (members_view c.member.new.members) (members_view c.member-2.new.members) (members_view c.member-3.new.members)
    (members_view c.member-4.new.members) _ _ _ _ c.in_ok-rest.ensures.ok c.in_ok-agents.ensures.ok
    (named _ _ _ _ _ c.lens_member.ensures.name c.in_ok-lens.ensures.ok) c.in_ok-schedule.ensures.ok
    c.in_ok-views.ensures.ok c.in_err-end.ensures.err)

pub returns-clause-ok : goal.returns-clause-ok
returns-clause-ok c =
    whole_script c.args.form (view c.args.tree.now) (members_view c.in_ok-rest.rest)
    (members_view c.member.new.members) (members_view c.member-2.new.members) (members_view c.member-3.new.members)
    (members_view c.member-4.new.members) _ _ _ _ c.in_ok-rest.ensures.ok c.in_ok-agents.ensures.ok
    (named _ _ _ _ _ c.lens_member.ensures.name c.in_ok-lens.ensures.ok) c.in_ok-schedule.ensures.ok
    c.in_ok-views.ensures.ok c.in_ok-end.ensures.ok

pub returns-in_err-rest-clause-reported : goal.returns-in_err-rest-clause-reported
returns-in_err-rest-clause-reported c =
    let root = view c.args.tree.now in
    exit_reported (Reported c.args.form root) c.from_residual.result c.in_err-rest.field-0.0 c.from_residual.ensures.1
    (λ is. c.in_err-rest.ensures.reported root refl refl)

pub returns-in_err-agents-clause-reported : goal.returns-in_err-agents-clause-reported
returns-in_err-agents-clause-reported c =
    let root = view c.args.tree.now in
    let e = c.in_err-agents.field-0.0 in
    exit_reported (Reported c.args.form root) c.from_residual-in_err-agents.result e c.from_residual-in_err-agents.ensures.1
    (λ is. rw c.in_err-agents.ensures.place (agents_missing_reported c.args.form root (members_view c.in_ok-rest.rest) e.why
    (c.in_ok-rest.ensures.ok, is, c.in_ok-rest.ensures.order) c.in_err-agents.ensures.lacks))

pub returns-in_err-lens-clause-reported : goal.returns-in_err-lens-clause-reported
returns-in_err-lens-clause-reported c =
    let root = view c.args.tree.now in
    let e = c.in_err-lens.field-0.0 in
    let m1 = members_view c.member.new.members in
    exit_reported (Reported c.args.form root) c.from_residual-in_err-lens.result e c.from_residual-in_err-lens.ensures.1
    (λ is. rw c.in_err-lens.ensures.place (lens_missing_reported c.args.form root _ (members_view c.in_ok-rest.rest) m1 e.why
    (c.in_ok-rest.ensures.ok, is, c.in_ok-rest.ensures.order) c.in_ok-agents.ensures.ok
    (lacks_lens c.args.form c.lens_member.result m1 e.why c.lens_member.ensures.member c.in_err-lens.ensures.lacks)))

pub returns-in_err-schedule-clause-reported : goal.returns-in_err-schedule-clause-reported
returns-in_err-schedule-clause-reported c =
    let root = view c.args.tree.now in
    let e = c.in_err-schedule.field-0.0 in
    exit_reported (Reported c.args.form root) c.from_residual-in_err-schedule.result e
    c.from_residual-in_err-schedule.ensures.1
    (λ is. rw c.in_err-schedule.ensures.place (schedule_missing_reported c.args.form root _ _
    (members_view c.in_ok-rest.rest) (members_view c.member.new.members) (members_view c.member-2.new.members) e.why
    (c.in_ok-rest.ensures.ok, is, c.in_ok-rest.ensures.order) c.in_ok-agents.ensures.ok
    (named _ _ _ _ _ c.lens_member.ensures.name c.in_ok-lens.ensures.ok) c.in_err-schedule.ensures.lacks))

pub returns-in_err-views-clause-reported : goal.returns-in_err-views-clause-reported
returns-in_err-views-clause-reported c =
    let root = view c.args.tree.now in
    let e = c.in_err-views.field-0.0 in
    exit_reported (Reported c.args.form root) c.from_residual-in_err-views.result e c.from_residual-in_err-views.ensures.1
    (λ is. rw c.in_err-views.ensures.place (views_missing_reported c.args.form root _ _ _
    (members_view c.in_ok-rest.rest) (members_view c.member.new.members) (members_view c.member-2.new.members)
    (members_view c.member-3.new.members) e.why
    (c.in_ok-rest.ensures.ok, is, c.in_ok-rest.ensures.order) c.in_ok-agents.ensures.ok
    (named _ _ _ _ _ c.lens_member.ensures.name c.in_ok-lens.ensures.ok) c.in_ok-schedule.ensures.ok
    c.in_err-views.ensures.lacks))

pub returns-in_err-end-clause-reported : goal.returns-in_err-end-clause-reported
returns-in_err-end-clause-reported c =
    let root = view c.args.tree.now in
    let e = c.in_err-end.field-0.0 in
    exit_reported (Reported c.args.form root) c.from_residual-in_err-end.result e c.from_residual-in_err-end.ensures.1
    (λ is. rw c.in_err-end.ensures.place (script_end_reported c.args.form root _ _ _ _
    (members_view c.in_ok-rest.rest) (members_view c.member.new.members) (members_view c.member-2.new.members)
    (members_view c.member-3.new.members) (members_view c.member-4.new.members) e.why
    (c.in_ok-rest.ensures.ok, is, c.in_ok-rest.ensures.order) c.in_ok-agents.ensures.ok
    (named _ _ _ _ _ c.lens_member.ensures.name c.in_ok-lens.ensures.ok) c.in_ok-schedule.ensures.ok
    c.in_ok-views.ensures.ok c.in_err-end.ensures.first))

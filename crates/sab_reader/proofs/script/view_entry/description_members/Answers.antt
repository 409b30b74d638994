use Rattle.std.proofs.Common.{◌≡◌, ℕ}
use Rattle.serde_json.specs.Data.{Members}
use Rattle.sab_refusal.specs.declared.located.Located.{Located}
use Rattle.sab_refusal.specs.declared.location.Location.{Location}
use Rattle.sab_reader.specs.declared.script.form.Form.{Form}
use Rattle.sab_reader.specs.Script.Blocks.{with_block}
use Rattle.sab_reader.specs.Script.Places.{form_of}
use Rattle.sab_reader.specs.Script.ViewPlaces.{IsTrueOfView}
use Rattle.serde_json.specs.View.{members_view}
use Rattle.sab_reader.proofs.OfScript.Parts.{on_err, length_missing, name_missing, offset_missing, not_described, described}
use Rattle.sab_reader.proofs.OfScript.Exits.{exit_reported}
use Rattle.sab_reader.proofs.OfScript.ViewParts.{kind_reported, length_reported, name_reported, offset_reported, further_reported}
use Rattle.sab_reader.proofs.script.view_entry.description_members.Goals as goal

abbrev Reported : Location → Members → Located → Type 0
Reported place rest e =
    (form : Form) (block : ℕ) → IsTrueOfView place (with_block form block rest) (λ root. form_of root ≡ form) e

pub returns-in_err-kind-clause-err : goal.returns-in_err-kind-clause-err
returns-in_err-kind-clause-err c =
    on_err c.from_residual.result (λ kind length name offset e. c.in_err-kind.ensures.err kind _ e)

pub returns-in_err-length-clause-err : goal.returns-in_err-length-clause-err
returns-in_err-length-clause-err c =
    on_err c.from_residual-in_err-length.result
    (length_missing (members_view c.args.rest) (members_view c.member.new.members) _ c.in_ok-kind.ensures.ok
    c.in_err-length.ensures.err)

pub returns-in_err-name-clause-err : goal.returns-in_err-name-clause-err
returns-in_err-name-clause-err c =
    on_err c.from_residual-in_err-name.result
    (name_missing (members_view c.args.rest) (members_view c.member.new.members) (members_view c.member-2.new.members)
    _ _ c.in_ok-kind.ensures.ok c.in_ok-length.ensures.ok c.in_err-name.ensures.err)

pub returns-in_err-offset-clause-err : goal.returns-in_err-offset-clause-err
returns-in_err-offset-clause-err c =
    on_err c.from_residual-in_err-offset.result
    (offset_missing (members_view c.args.rest) (members_view c.member.new.members) (members_view c.member-2.new.members)
    (members_view c.member-3.new.members) _ _ _
    c.in_ok-kind.ensures.ok c.in_ok-length.ensures.ok c.in_ok-name.ensures.ok c.in_err-offset.ensures.err)

pub returns-in_err-end-clause-err : goal.returns-in_err-end-clause-err
returns-in_err-end-clause-err c =
    on_err c.from_residual-in_err-end.result
    (not_described (members_view c.args.rest) (members_view c.member.new.members) (members_view c.member-2.new.members)
    (members_view c.member-3.new.members) (members_view c.member-4.new.members) _ _ _ _
    c.in_ok-kind.ensures.ok c.in_ok-length.ensures.ok c.in_ok-name.ensures.ok c.in_ok-offset.ensures.ok
    c.in_err-end.ensures.err)

pub returns-clause-ok : goal.returns-clause-ok
returns-clause-ok c =
    described (members_view c.args.rest) (members_view c.member.new.members) (members_view c.member-2.new.members)
    (members_view c.member-3.new.members) (members_view c.member-4.new.members) _ _ _ _
    c.in_ok-kind.ensures.ok c.in_ok-length.ensures.ok c.in_ok-name.ensures.ok c.in_ok-offset.ensures.ok
    c.in_ok-end.ensures.ok

pub returns-in_err-kind-clause-reported : goal.returns-in_err-kind-clause-reported
returns-in_err-kind-clause-reported c =
    exit_reported (Reported c.args.at (members_view c.args.rest)) c.from_residual.result c.in_err-kind.field-0.0
    c.from_residual.ensures.1
    (λ form block. kind_reported form block c.args.at (members_view c.args.rest) c.in_err-kind.field-0.0
    c.in_err-kind.ensures.place c.in_err-kind.ensures.lacks)

pub returns-in_err-length-clause-reported : goal.returns-in_err-length-clause-reported
returns-in_err-length-clause-reported c =
    exit_reported (Reported c.args.at (members_view c.args.rest)) c.from_residual-in_err-length.result
    c.in_err-length.field-0.0 c.from_residual-in_err-length.ensures.1
    (λ form block. length_reported form block c.args.at (members_view c.args.rest) (members_view c.member.new.members) _ _
    c.in_ok-kind.ensures.ok c.in_err-length.ensures.place c.in_err-length.ensures.lacks)

pub returns-in_err-name-clause-reported : goal.returns-in_err-name-clause-reported
returns-in_err-name-clause-reported c =
    exit_reported (Reported c.args.at (members_view c.args.rest)) c.from_residual-in_err-name.result
    c.in_err-name.field-0.0 c.from_residual-in_err-name.ensures.1
    (λ form block. name_reported form block c.args.at (members_view c.args.rest) (members_view c.member.new.members)
    (members_view c.member-2.new.members) _ _ _ c.in_ok-kind.ensures.ok c.in_ok-length.ensures.ok
    c.in_err-name.ensures.place c.in_err-name.ensures.lacks)

pub returns-in_err-offset-clause-reported : goal.returns-in_err-offset-clause-reported
returns-in_err-offset-clause-reported c =
    exit_reported (Reported c.args.at (members_view c.args.rest)) c.from_residual-in_err-offset.result
    c.in_err-offset.field-0.0 c.from_residual-in_err-offset.ensures.1
    (λ form block. offset_reported form block c.args.at (members_view c.args.rest) (members_view c.member.new.members)
    (members_view c.member-2.new.members) (members_view c.member-3.new.members) _ _ _ _
    c.in_ok-kind.ensures.ok c.in_ok-length.ensures.ok c.in_ok-name.ensures.ok c.in_err-offset.ensures.place
    c.in_err-offset.ensures.lacks)

pub returns-in_err-end-clause-reported : goal.returns-in_err-end-clause-reported
returns-in_err-end-clause-reported c =
    exit_reported (Reported c.args.at (members_view c.args.rest)) c.from_residual-in_err-end.result
    c.in_err-end.field-0.0 c.from_residual-in_err-end.ensures.1
    (λ form block. further_reported form block c.args.at (members_view c.args.rest) (members_view c.member.new.members)
    (members_view c.member-2.new.members) (members_view c.member-3.new.members) (members_view c.member-4.new.members)
    _ _ _ _ _ c.in_ok-kind.ensures.ok c.in_ok-length.ensures.ok c.in_ok-name.ensures.ok c.in_ok-offset.ensures.ok
    c.in_err-end.ensures.place c.in_err-end.ensures.first)

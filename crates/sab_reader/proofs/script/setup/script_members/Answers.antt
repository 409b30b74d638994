use Rattle.std.proofs.Common.{Bor, codes, sym, ◌∙◌}
use Rattle.serde_json.specs.Find.{get}
use Rattle.serde_json.specs.View.{view}
use Rattle.serde_json.specs.declared.value.Value.{Value}
use Rattle.sab_reader.proofs.OfScript.ScriptReasons.{form_bytes, form_blocks}
use Rattle.sab_reader.proofs.script.setup.script_members.Goals as goal
use Rattle.sab_reader.proofs.script.setup.script_members.Goals.{then-is_some, else-is_some}

pub returns-after-is_some-clause-reported : goal.returns-after-is_some-clause-reported
returns-after-is_some-clause-reported c =
    let bytes = get (codes "bytes") (view c.args.tree.now) in
    elim c.if-is_some.branch [
      | then-is_some w ↦
          rw w.result-is (c.in-Err-members_in.ensures.reported
          (form_bytes (λ (v : Bor Value). view v.now) c.get.result bytes c.get.ensures
          (sym c.is_some.ensures ∙ w.if-is_some.true)))
      | else-is_some w ↦
          rw w.result-is (c.in-Err.ensures.reported
          (form_blocks (λ (v : Bor Value). view v.now) c.get.result bytes c.get.ensures
          (sym c.is_some.ensures ∙ w.if-is_some.false)))
    ]

use Rattle.std.proofs.Common.{rules}
use Rattle.std.specs.Int.{w64}
use Rattle.std.proofs.lemmas.Int.{to_z-of_z}
use Rattle.sab_reader.specs.Script.Views.{view_names}
use Rattle.sab_reader.proofs.OfScript.Tokens.{if_some}
use Rattle.sab_reader.proofs.OfScript.CallTokens.{call_reported}
use Rattle.sab_reader.proofs.script.plain.calls.scan_call.Goals as goal

pub returns : goal.returns
returns c =
    let same = to_z-of_z w64 c.in_ok-index.index (search rules) in
    let reported = rw same at c.named_call.ensures in
    if_some c.named_call.result
    (λ x h. call_reported (view_names c.args.views.now) c.args.element.now c.in_ok-rest.rest c.next_text.new.rest
    c.next_text-2.new.rest c.next_whole.new.rest c.in_ok-name.name.now c.in_ok-next_text.field-0.now c.in_ok-view.view
    c.in_ok-index.index x c.in_ok-rest.ensures c.in_ok-name.ensures c.in_ok-next_text.ensures c.in_ok-index.ensures
    c.in_ok-view.ensures.some h) reported

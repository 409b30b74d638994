-- The pieces, one behind the other.
use Rattle.std.proofs.Common.{rules, ◌∙◌, sym, ap}
use Rattle.std.proofs.lemmas.Int.{to_z-of_z}
use Rattle.std.specs.Prelude.{FitsSigned}
use Rattle.std.specs.Int.{w64, w128}
use Rattle.std.specs.Fmt.{signed_decimal}
use Rattle.sab_report_text.specs.Words.CallText.{name_of}
use Rattle.sab_report_text.proofs.OfJsonLines.Pieces.{behind, behind_as}
use Rattle.sab_report_text.proofs.OfJsonLines.Texts.{call_json}
use Rattle.sab_report_text.proofs.json_lines.call.push_call_data.Goals as goal

pub returns-clause-bytes : goal.returns-clause-bytes
returns-clause-bytes c =
    let narrow : FitsSigned w64 c.index.result = search rules in
    let wide : FitsSigned w128 c.from.result = search rules in
    rw (call_json c.args.names.now c.args.call c.requires.names, sym c.arguments.ensures, sym c.as_slice.ensures.items)
    (behind _ _ _ _ _ c.push_function.ensures.bytes
    (behind_as _ _ _ _ _ _ (ap (name_of c.args.names.now) c.view.ensures) c.push_name.ensures.bytes
    (behind _ _ _ _ _ c.push.ensures
    (behind_as _ _ _ _ _ _ (ap signed_decimal (to_z-of_z w128 c.from.result wide
    ∙ (c.from.ensures ∙ (to_z-of_z w64 c.index.result narrow ∙ c.index.ensures)))) c.push_whole.ensures.bytes
    c.push_more.ensures.bytes))))

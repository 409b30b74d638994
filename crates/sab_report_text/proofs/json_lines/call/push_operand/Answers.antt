-- The pieces, one behind the other.
use Rattle.std.proofs.Common.{rules, sym, ap, ◌∙◌}
use Rattle.std.proofs.lemmas.Int.{to_z-of_z}
use Rattle.std.specs.Prelude.{FitsSigned}
use Rattle.std.specs.Int.{w128}
use Rattle.std.specs.Fmt.{signed_decimal}
use Rattle.sab_report_text.proofs.OfJsonLines.Pieces.{behind, behind_as}
use Rattle.sab_report_text.proofs.OfJsonLines.Texts.{bigint_operand}
use Rattle.sab_report_text.proofs.json_lines.call.push_operand.Goals as goal

pub returns-then-is_big-clause-bytes : goal.returns-then-is_big-clause-bytes
returns-then-is_big-clause-bytes c =
    let fits : FitsSigned w128 c.whole.result = search rules in
    rw (bigint_operand c.args.operand (sym c.is_big.ensures ∙ c.if-is_big.true))
    (behind _ _ _ _ _ c.push.ensures
    (behind_as _ _ _ _ _ _ (ap signed_decimal (to_z-of_z w128 c.whole.result fits ∙ c.whole.ensures))
    c.push_whole.ensures.bytes c.push-then-is_big.ensures))

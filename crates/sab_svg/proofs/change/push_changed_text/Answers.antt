-- The element, and the operands before and after, one behind the other.
use Rattle.std.proofs.Common.{ℕ, List, ◌++◌, ap, ◌∙◌}
use Rattle.sab_report_text.specs.Words.CallText.{element_text}
use Rattle.sab_svg.specs.Xml.Xml.{text_of}
use Rattle.sab_svg.proofs.Behind.{behind, behind_as}
use Rattle.sab_svg.proofs.Drawn.{change_text}
use Rattle.sab_svg.proofs.change.push_changed_text.Goals as goal

pub returns-clause-bytes : goal.returns-clause-bytes
returns-clause-bytes c =
    let element = element_text c.args.names.now c.in-Some.call in
    rw (c.in-Some.is, change_text element c.args.before c.args.after)
    (behind_as c.args.chunk.now _ _ _ _ _
    (ap text_of (c.bytes.ensures.bytes
    ∙ (c.push_element.ensures.bytes ∙ ap (λ (s : List ℕ). s ++ element) c.clear.ensures))) c.push_escaped.ensures.bytes
    (behind c.push_escaped.new.chunk _ _ _ _ c.push.ensures
    (behind c.push.new.self _ _ _ _ c.push_operand.ensures.bytes
    (behind c.push_operand.new.self _ _ _ _ c.push-2.ensures c.push_operand-2.ensures.bytes))))

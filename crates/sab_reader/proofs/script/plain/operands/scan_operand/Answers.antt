use Rattle.std.proofs.Common.{refl, rules}
use Rattle.std.specs.Int.{w64}
use Rattle.std.proofs.lemmas.Int.{to_z-of_z}
use Rattle.sab_reader.proofs.OfScript.Tokens.{if_some, holds_by, holds_string}
use Rattle.sab_reader.proofs.script.plain.operands.scan_operand.Goals as goal

pub returns-in-Some : goal.returns-in-Some
returns-in-Some c =
    if_some c.big_operand.result (λ x h. holds_by c.args.element.now (λ d is. rw is h)
    (holds_string c.args.element.now c.in-Some.digits.now c.in-Some.ensures)) c.big_operand.ensures

pub returns-in_ok-scan_whole-in-None : goal.returns-in_ok-scan_whole-in-None
returns-in_ok-scan_whole-in-None c =
    let same = to_z-of_z w64 c.in_ok-scan_whole-in-None.field-0 (search rules) in
    if_some c.number_operand.result
    (λ x h. holds_by c.args.element.now (λ d is. let by_whole = rw same at h in rw is.0 (by_whole (refl, is.1)))
    c.in_ok-scan_whole-in-None.ensures)
    c.number_operand.ensures

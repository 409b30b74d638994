use Rattle.std.proofs.Common.{codes}
use Rattle.sab_reader.proofs.OfScript.MemberTokens.{member_reported}
use Rattle.sab_reader.proofs.OfScript.Tokens.{if_some, holds_by}
use Rattle.sab_reader.proofs.script.plain.views.scan_block.Goals as goal

pub returns-in_ok-only_member-in-Blocks-clause-reported : goal.returns-in_ok-only_member-in-Blocks-clause-reported
returns-in_ok-only_member-in-Blocks-clause-reported c =
    let value = c.in_ok-only_member-in-Blocks.field-0 in
    rw c.in-Blocks.is (if_some c.scan_position.result
    (λ block reported. member_reported (codes "block") c.args.element.now value c.in_ok-only_member-in-Blocks.ensures
    (holds_by value (λ d h. h.0) reported)) c.scan_position.ensures.reported)

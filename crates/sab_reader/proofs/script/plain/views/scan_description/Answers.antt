use Rattle.std.proofs.Common.{codes, rules}
use Rattle.std.specs.Int.{w64}
use Rattle.std.proofs.lemmas.Int.{to_z-of_z}
use Rattle.sab_reader.proofs.OfScript.MemberTokens.{member_reported}
use Rattle.sab_reader.proofs.OfScript.Tokens.{holds_by}
use Rattle.sab_reader.proofs.script.plain.views.scan_description.Goals as goal

pub returns-clause-reported : goal.returns-clause-reported
returns-clause-reported c =
    let ts = c.args.element.now in
    let same = to_z-of_z w64 c.in_ok-offset.offset (search rules) in
    record {
      kind =
          member_reported (codes "kind") ts c.in_ok-only_member.field-0 c.in_ok-only_member.ensures c.in_ok-kind.ensures;
      length =
          member_reported (codes "length") ts c.in_ok-only_member-2.field-0 c.in_ok-only_member-2.ensures
          c.in_ok-length.ensures;
      name =
          member_reported (codes "name") ts c.in_ok-only_member-3.field-0 c.in_ok-only_member-3.ensures
          c.in_ok-name.ensures.0;
      is_name = c.in_ok-name.ensures.1;
      offset =
          member_reported (codes "offset") ts c.in_ok-only_member-4.field-0 c.in_ok-only_member-4.ensures
          (holds_by c.in_ok-only_member-4.field-0 (λ d h. rw same h) c.in_ok-offset.ensures);
    }

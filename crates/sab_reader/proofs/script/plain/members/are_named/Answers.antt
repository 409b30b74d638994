use Rattle.std.proofs.Common.{map}
use Rattle.sab_refusal.specs.Location.{member_name}
use Rattle.sab_reader.proofs.OfScript.MemberTokens.{none_named, more_named, all_named}
use Rattle.sab_reader.proofs.script.plain.members.are_named.Goals as goal

pub loop-name-init : goal.loop-name-init
loop-name-init c = none_named (map member_name c.args.names.now) c.args.element.now c.in_ok-rest.rest c.in_ok-rest.ensures

pub loop-name-preserved : goal.loop-name-preserved
loop-name-preserved c =
    more_named (map member_name c.args.names.now) c.args.element.now c.loop-name.rest c.in-Some.field-0-1 c.next.new.self
    c.in-Some.name.now c.in-Some.ensures.value (c.is_among.ensures c.if-not-is_among.false) c.loop-name.invariant

pub returns : goal.returns
returns c =
    all_named (map member_name c.args.names.now) c.args.element.now c.loop-name.rest c.next.new.self
    c.in_default.ensures.value c.loop-name.invariant

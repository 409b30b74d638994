use Rattle.sab_refusal.specs.Location.{member_name}
use Rattle.sab_reader.proofs.OfScript.MemberTokens.{none_found, one_found, other_passed, only_found, alike, differ}
use Rattle.sab_reader.proofs.script.plain.members.only_member.Goals as goal

pub loop-found-init : goal.loop-found-init
loop-found-init c = none_found (member_name c.args.name) c.args.element.now c.in_ok-rest.rest c.in_ok-rest.ensures

pub loop-found-preserved-then-eq : goal.loop-found-preserved-then-eq
loop-found-preserved-then-eq c =
    one_found (member_name c.args.name) c.args.element.now c.loop-found.rest c.in-Some.value c.next.new.self
    c.in-Some.found.now c.loop-found.only c.in-Some.ensures.value
    (alike c.in-Some.found.now c.name.result.now (member_name c.args.name) c.if-eq.ensures c.name.ensures)
    c.if-is_some.ensures c.loop-found.invariant

pub loop-found-preserved : goal.loop-found-preserved
loop-found-preserved c =
    other_passed (member_name c.args.name) c.args.element.now c.loop-found.rest c.in-Some.value c.next.new.self
    c.in-Some.found.now c.loop-found.only c.in-Some.ensures.value
    (differ c.in-Some.found.now c.name.result.now (member_name c.args.name) c.if-eq.ensures c.name.ensures)
    c.loop-found.invariant

pub returns : goal.returns
returns c =
    only_found (member_name c.args.name) c.args.element.now c.loop-found.rest c.next.new.self c.loop-found.only
    c.in_default.ensures.value c.loop-found.invariant

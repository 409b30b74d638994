use Rattle.std.proofs.Common.{length}
use Rattle.sab_refusal.specs.Location.{member_name}
use Rattle.sab_reader.proofs.OfScript.MemberTokens.{OnlySoFar}
use Rattle.sab_reader.proofs.script.plain.members.only_member.Given as goal

abbrev pub invariant-loop-found : goal.invariant-loop-found
invariant-loop-found l = OnlySoFar (member_name l.name) l.element l.rest l.only

abbrev pub decreases-loop-found : goal.decreases-loop-found
decreases-loop-found l = length l.rest

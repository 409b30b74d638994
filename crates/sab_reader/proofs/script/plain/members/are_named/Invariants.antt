use Rattle.std.proofs.Common.{map, length}
use Rattle.sab_refusal.specs.Location.{member_name}
use Rattle.sab_reader.proofs.OfScript.MemberTokens.{NamedSoFar}
use Rattle.sab_reader.proofs.script.plain.members.are_named.Given as goal

abbrev pub invariant-loop-name : goal.invariant-loop-name
invariant-loop-name l = NamedSoFar (map member_name l.names) l.element l.rest

abbrev pub decreases-loop-name : goal.decreases-loop-name
decreases-loop-name l = length l.rest

-- None before is like it.
use Rattle.std.proofs.Common.{arith}
use Rattle.sab_judge.proofs.Linking.{access_of_like, earliest_first, linked_at}
use Rattle.sab_judge.proofs.link.earliest_from.Goals as goal

pub returns-then-link-eq0 : goal.returns-then-link-eq0
returns-then-link-eq0 c = earliest_first c.loop-link.invariant.within c.loop-link.invariant.like c.loop-link.invariant.from
    (linked_at c.requires.links c.loop-link.at (omega (arith, c.loop-link.invariant.within, c.requires.within))
    (access_of_like c.requires.access c.loop-link.invariant.like)) c.if-link-eq0.true

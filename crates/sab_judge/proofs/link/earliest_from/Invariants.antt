use Rattle.std.proofs.Common.{◌≤◌}
use Rattle.sab_judge.specs.Link.{IsLike}
use Rattle.sab_judge.proofs.link.earliest_from.Given as goal

-- the event so far is like the one at the position, and neither behind it nor below the bound
abbrev pub invariant-loop-link : goal.invariant-loop-link
invariant-loop-link l = record {
  within : l.at ≤ l.position;
  like : IsLike l.trace l.position l.at;
  from : l.bound ≤ l.at;
}

abbrev pub decreases-loop-link : goal.decreases-loop-link
decreases-loop-link l = l.at

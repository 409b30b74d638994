-- One more bound is joined.
use Rattle.std.proofs.Common.{◌≢◌, ◌<◌, length, arith, get_or-set_other, get_or-set_same, below_more}
use Rattle.std.proofs.Math.ListN.{length-set}
use Rattle.sab_judge.proofs.clock.Clock.joined.Goals as goal

pub loop-b-preserved : goal.loop-b-preserved
loop-b-preserved c = record {
  done = below_more _ _
      (λ k h. let ne : k ≢ c.loop-b.b = omega arith in rw get_or-set_other (c.loop-b.invariant.done k h))
      (let lt : c.loop-b.b < length c.loop-b.both.bounds = omega arith in rw get_or-set_same c.max.ensures);
  ahead = λ k h. let ne : k ≢ c.loop-b.b = omega arith in
      rw get_or-set_other (c.loop-b.invariant.ahead k (omega arith));
  len = simp length-set c.loop-b.invariant.len;
}

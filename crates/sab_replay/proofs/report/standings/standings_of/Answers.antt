-- One agent more.
use Rattle.std.proofs.Common.{◌<◌, ◌≢◌, length, arith, length-set, get_or-set_other, get_or-set_same, below_more, ◌∙◌}
use Rattle.sab_replay.proofs.OfReport.Driving.{standing_is}
use Rattle.sab_replay.proofs.report.standings.standings_of.Goals as goal

pub loop-a-preserved : goal.loop-a-preserved
loop-a-preserved c =
    let lt : c.loop-a.a < length c.loop-a.standings = omega (arith, c.loop-a.invariant.len) in
    record {
      len = length-set c.loop-a.standings c.loop-a.a c.standing.result ∙ c.loop-a.invariant.len;
      each = below_more _ _
          (λ k h. let ne : k ≢ c.loop-a.a = omega arith in rw get_or-set_other (c.loop-a.invariant.each k h))
          (rw get_or-set_same (standing_is c.args.explainer.now.plan c.args.explainer.now.journal c.loop-a.a
          c.standing.result c.standing.ensures.none c.standing.ensures.standing c.standing.ensures.only));
    }

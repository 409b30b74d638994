-- One race more is listed, or left.
use Rattle.std.proofs.Common.{◌<◌, ◌≤◌, length, refl, arith}
use Rattle.sab_judge.proofs.RacesSoFar.{reported_one, left_one}
use Rattle.sab_judge.proofs.judging.report_race.Goals as goal

pub returns-in_ok-push : goal.returns-in_ok-push
returns-in_ok-push c =
    let fewer : length c.args.verdict.now.races.items < c.args.most = omega (arith, c.if-len-most.true, c.len.ensures) in
    rw c.in_ok-push.ensures.items
    (reported_one (record {
      first = c.args.i;
      second = c.args.j;
      is_data_race = c.is_data_race-is_data_race.result;
      seen = c.last_seen-seen.result;
    }) c.requires.reported fewer
    (record {
      is_race = c.requires.race;
      data_race = c.is_data_race-is_data_race.ensures;
      seen = c.last_seen-seen.ensures;
    }) refl refl)

pub returns-else-len-most : goal.returns-else-len-most
returns-else-len-most c =
    let enough : c.args.most ≤ length c.args.verdict.now.races.items = omega (arith, c.if-len-most.false, c.len.ensures) in
    left_one c.requires.reported enough c.requires.race

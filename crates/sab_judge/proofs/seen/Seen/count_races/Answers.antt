-- An event that makes no access races with none.
use Rattle.sab_judge.proofs.Racing.{no_access_races}
use Rattle.sab_judge.proofs.seen.Seen.count_races.Goals as goal

pub returns-in-None : goal.returns-in-None
returns-in-None c = no_access_races c.in-None.is

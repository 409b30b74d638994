-- Each is a race.
use Rattle.sab_judge.proofs.DataRaces.{data_race_races}
use Rattle.sab_judge.proofs.laws.data_races_are_races.Goals as goal

pub returns : goal.returns
returns c = data_race_races

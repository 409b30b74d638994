-- Where no event races, no data race is there.
use Rattle.std.proofs.Common.{ℕ, subst}
use Rattle.sab_judge.specs.Race.{Counts}
use Rattle.sab_judge.specs.RaceKind.{IsRaceOf}
use Rattle.sab_judge.specs.declared.race_kind.RaceKind.TheVariants.{Any}
use Rattle.sab_judge.proofs.DataRaces.{no_race_no_data_race}
use Rattle.sab_judge.proofs.judging.data_races_of.Goals as goal

pub returns-then-count-eq0-clause-counted : goal.returns-then-count-eq0-clause-counted
returns-then-count-eq0-clause-counted c = no_race_no_data_race
    (subst (λ (n : ℕ). Counts (λ i. IsRaceOf Any c.args.trace.now i c.args.j) c.args.j n)
    c.if-count-eq0.true c.requires.count)

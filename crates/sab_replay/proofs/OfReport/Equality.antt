-- Ways to race that the derived `==` finds equal are the same.
use Rattle.std.proofs.Common.{◌≡◌, true}
use borrow.Author.Tests.{eqb-true}
use Rattle.std.proofs.lemmas.Bool.{and_parts}
use Rattle.sab_race.proofs.Equality.{same_share}
use Rattle.sab_replay.specs.declared.report.racing.RaceOptions.{RaceOptions}
use Rattle.sab_replay.specs.contracts.report.racing.RaceOptionsPartialEq.TheImpl as race

pub same_race : (x y : RaceOptions) → (race.ghosts).eq x y ≡ true → x ≡ y
same_race x y e =
    let shares = and_parts _ _ e in
    let counts = and_parts _ _ shares.1 in
    let share = same_share x.share y.share shares.0 in
    let spins = eqb-true x.spins y.spins counts.0 in
    let seed = eqb-true x.seed y.seed counts.1 in
    λ i. record { share = share i; spins = spins i; seed = seed i }

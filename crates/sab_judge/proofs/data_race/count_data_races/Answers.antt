-- An access that writes is in data races with those that write, and one that only reads with those it reads from.
use Rattle.std.proofs.Common.{◌≡◌, ◌∙◌, false, sym, subst}
use Rattle.sab_judge.specs.declared.access.Access.{Access}
use Rattle.sab_judge.proofs.DataRaces.{data_races_of_write, no_data_races}
use Rattle.sab_judge.proofs.Lists.{some_is_some, none_is_some}
use Rattle.sab_judge.proofs.data_race.count_data_races.Goals as goal

pub returns-in-Some-clause-counted : goal.returns-in-Some-clause-counted
returns-in-Some-clause-counted c =
    data_races_of_write c.in-Some.access c.in-Some.is c.if-access.true c.count_races.ensures

pub returns-in_default-clause-counted : goal.returns-in_default-clause-counted
returns-in_default-clause-counted c = no_data_races (λ b makes. (
  subst (λ (a : Access). a.writes ≡ false) (some_is_some c.in-Some.access b (sym c.in-Some.is ∙ makes))
      c.if-access.false,
  subst (λ (a : Access). a.reads ≡ false) (some_is_some c.in-Some-2.access b (sym c.in-Some-2.is ∙ makes))
      c.if-access-2.false,
))

pub returns-in_default-2-clause-counted : goal.returns-in_default-2-clause-counted
returns-in_default-2-clause-counted c =
    no_data_races (λ b makes. absurd (none_is_some b (sym c.in_default.is ∙ makes)))

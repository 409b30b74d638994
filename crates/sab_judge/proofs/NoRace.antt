-- A verdict that lists no race, and leaves none.
use Rattle.std.proofs.Common.{◌≡◌, ℕ, ◌+◌, List, length, refl, arith}
use Rattle.std.proofs.lemmas.Grind.{common_steps}
use Rattle.sab_judge.specs.declared.event.Event.{Event}
use Rattle.sab_judge.specs.declared.race.Race.{Race}
use Rattle.sab_judge.specs.Race.{HaveNoRace, Counts, below_none, one_more, no_more, CountsRaces, of_none, and_of}
use Rattle.sab_judge.specs.Verdict.{IsVerdict}

none_counted : {P : ℕ → Type 0} {n count : ℕ} → Counts P n count → ((i : ℕ) → ¬ P i) → count ≡ 0
none_counted below_none apart = refl
none_counted (one_more counted p) apart = absurd (apart _ p)
none_counted (no_more counted q) apart = none_counted counted apart

no_races_counted : {trace : List Event} {n total : ℕ} → CountsRaces trace n total → HaveNoRace trace → total ≡ 0
no_races_counted of_none apart = refl
no_races_counted (and_of counted here) apart =
    omega (arith, no_races_counted counted apart, none_counted here (λ i. apart i _))

-- if there is no race, none is listed, and none is left
pub none_left : (trace : List Event) (most : ℕ) (reported : List Race) (rest data_races : ℕ)
    → IsVerdict trace most reported rest data_races
    → HaveNoRace trace → length reported + rest ≡ 0
none_left trace most reported rest data_races v apart = no_races_counted v.count apart

-- if none is listed, and none is left, there is no race
pub no_race : (trace : List Event) (most : ℕ) (reported : List Race) (rest data_races : ℕ)
    → IsVerdict trace most reported rest data_races
    → length reported + rest ≡ 0 → HaveNoRace trace
no_race trace most reported rest data_races v clean i j race = grind (arith, common_steps)

-- No race is listed, and none is left, exactly if there is none.
use Rattle.std.proofs.Common.{◌≡◌, vec_len, sym, ◌∙◌, arith}
use Rattle.std.proofs.lemmas.Bool.{false≢true, eq-eqb, eqb-true}
use Rattle.sab_judge.proofs.NoRace.{none_left, no_race}
use Rattle.sab_judge.proofs.verdict.Verdict.has_no_race.Goals as goal

pub returns-then-is_empty : goal.returns-then-is_empty
returns-then-is_empty c = λ trace most v. (
  λ clean. (let none_reported : vec_len c.args.self.now.races ≡ 0 =
      eqb-true _ _ (sym c.is_empty.ensures ∙ c.if-is_empty.true) in
      no_race trace most _ _ _ v (omega (arith, none_reported, eqb-true c.args.self.now.rest 0 clean))),
  λ apart. eq-eqb c.args.self.now.rest 0 (omega (arith, none_left trace most _ _ _ v apart)),
)

pub returns-else-is_empty : goal.returns-else-is_empty
returns-else-is_empty c = λ trace most v. (
  λ clean. absurd (false≢true (sym c.if-is_empty.false ∙ clean)),
  λ apart. (let none_reported : vec_len c.args.self.now.races ≡ 0 = omega (arith, none_left trace most _ _ _ v apart) in
      c.is_empty.ensures ∙ eq-eqb _ _ none_reported),
)

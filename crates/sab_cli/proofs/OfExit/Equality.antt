-- Equality of endings, fault lines and outcomes: values that a derived `==` finds equal are the same.
use Rattle.std.proofs.Common.{◌≡◌, true, refl, ap, rules}
use denote.Enum.Bare.{same_true}
use Rattle.std.proofs.lemmas.Bool.{false≢true}
use Rattle.sab_replay.proofs.OfFaults.Equality.{same_tool_fault}
use Rattle.sab_cli.specs.declared.exit.ending.Ending.{Ending}
use Rattle.sab_cli.specs.declared.exit.ending.Ending.TheVariants.{Done, Refused, ScriptRefused, Unfinished, Racy, Flawed, Open, Failed}
use Rattle.sab_cli.specs.declared.exit.fault_line.FaultLine.{FaultLine}
use Rattle.sab_cli.specs.contracts.exit.ending.EndingPartialEq.TheImpl as ending
use Rattle.sab_cli.specs.declared.exit.outcome.Outcome.{Outcome}
use Rattle.sab_cli.specs.contracts.exit.outcome.Outcome.{the_type as outcome_type}
use Rattle.sab_cli.specs.contracts.exit.outcome.OutcomePartialEq.TheImpl as outcome
use Rattle.sab_cli.specs.contracts.exit.fault_line.FaultLinePartialEq.TheImpl as fault_line

same_ending : (x y : Ending) → (ending.ghosts).eq x y ≡ true → x ≡ y
same_ending Done Done e = refl
same_ending Refused Refused e = refl
same_ending ScriptRefused ScriptRefused e = refl
same_ending Unfinished Unfinished e = refl
same_ending Racy Racy e = refl
same_ending Flawed Flawed e = refl
same_ending Open Open e = refl
same_ending (Failed f) (Failed g) e = ap Failed (same_tool_fault f g e)
same_ending _ _ e = absurd (false≢true e)

same_fault_line : (x y : FaultLine) → (fault_line.ghosts).eq x y ≡ true → x ≡ y
same_fault_line x y e = let fault = same_tool_fault (x.0) (y.0) e in λ i. record { 0 = fault i }

same_outcome : (x y : Outcome) → (outcome.ghosts).eq x y ≡ true → x ≡ y
same_outcome = same_true outcome_type (search rules)

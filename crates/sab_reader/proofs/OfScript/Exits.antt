-- What is reported at the exits of the readers.
use Rattle.std.proofs.Common.{◌≡◌, Option, Some, None, Result, Ok, Err, refl, arith}
use Rattle.std.proofs.lemmas.Grind.{common_steps}
use Rattle.std.specs.Prelude.{IsErrAnd, IfErr}
use Rattle.std.specs.Option.{ok_or}
use Rattle.std.proofs.lemmas.Result.{err_from_is_err_and}
use Rattle.serde_json.specs.Data.{Data, null}
use Rattle.sab_refusal.specs.declared.located.Located.{Located}
use Rattle.sab_refusal.specs.declared.location.Location.{Location}
use Rattle.sab_refusal.specs.declared.reason.Reason.TheVariants.{Memory}
use Rattle.sab_refusal.specs.declared.reason.Wanted.TheVariants as wanted
use Rattle.sab_reader.specs.Script.Truth.{IsTrueWhere}
use Rattle.sab_reader.specs.Script.Known.{IsNumberAs}

-- at the exit of a `?`
pub exit_reported : {X : Type 0} (P : Located → Type 0) (r : Result X Located) (e : Located) → IsErrAnd r (λ y. y ≡ e)
    → P e → IfErr r P
exit_reported P r e h reported = let p = err_from_is_err_and r h in rw (p.1, p.2) reported

-- at the exit of a `?` on a growth that was refused: about memory nothing is reported
pub exit_reported_memory : {X : Type 0} (place : Location) (d : Data) (Known : Data → Type 0) (r : Result X Located)
    → IsErrAnd r (λ e. e.why ≡ Memory) → IfErr r (IsTrueWhere place d Known)
exit_reported_memory place d Known (Ok x) h = absurd h
exit_reported_memory place d Known (Err e) h = λ root stands known. rw h tt

-- where there is none, an error is reported
pub none_reported : {T : Type 0} (P : Located → Type 0) (o : Option T) (e : Located) → (o ≡ None → P e)
    → IfErr (ok_or o e) P
none_reported P (Some x) e reported = tt
none_reported P None e reported = reported refl

-- a value that isn't null is a whole number or null just where it is a number
pub number_as_optional : (d : Data) → (d ≡ null → ⊥) → IsNumberAs wanted.WholeOrNull d
number_as_optional d some = grind (arith, common_steps)

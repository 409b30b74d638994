-- A part that spells nothing makes the whole spell nothing.
use Rattle.std.proofs.Common.{◌≡◌, Result, Ok, Err}
use Rattle.std.specs.Prelude.{IsErrAnd, IfErr}
use Rattle.std.proofs.lemmas.Result.{err_from_is_err_and}
use Rattle.sab_refusal.specs.declared.read_fault.ReadFault.{ReadFault}
use Rattle.sab_refusal.specs.declared.read_fault.ReadFault.TheVariants.{TooMany, OutOfMemory, BadShape, BadName, BadNumber, BadCall, BadView, BadAgent, NoBlock}
use Rattle.sab_reader.specs.Script.Reading.{Refuses, Finds}
use Rattle.sab_refusal.specs.declared.located.Located.{Located}
use Rattle.sab_refusal.specs.declared.reason.Reason.TheVariants.{Memory}
use Rattle.sab_refusal.specs.Reason.{fault_of}

pub refuses_more : {Y Z : Type 0} (P : Y → Type 0) (Q : Z → Type 0) (e : ReadFault) → ((z : Z) → Q z → (y : Y) × P y)
    → Refuses P e → Refuses Q e
refuses_more P Q OutOfMemory part h = tt
refuses_more P Q TooMany part h = λ z q. h (part z q).0 (part z q).1
refuses_more P Q BadShape part h = λ z q. h (part z q).0 (part z q).1
refuses_more P Q BadName part h = λ z q. h (part z q).0 (part z q).1
refuses_more P Q BadNumber part h = λ z q. h (part z q).0 (part z q).1
refuses_more P Q BadCall part h = λ z q. h (part z q).0 (part z q).1
refuses_more P Q BadView part h = λ z q. h (part z q).0 (part z q).1
refuses_more P Q BadAgent part h = λ z q. h (part z q).0 (part z q).1
refuses_more P Q NoBlock part h = λ z q. h (part z q).0 (part z q).1

-- at the exit of a `?`
pub exit_refuses : {X Y Z : Type 0} (view : X → Z) (P : Y → Type 0) (Q : Z → Type 0) (r : Result X Located)
    (e : Located)
    → IsErrAnd r (λ y. y ≡ e) → Refuses P (fault_of e.why) → ((z : Z) → Q z → (y : Y) × P y) → Finds view Q r
exit_refuses view P Q r e h refused part =
    let p = err_from_is_err_and r h in rw (p.1, p.2) (refuses_more P Q (fault_of e.why) part refused)

pub refuses_all : {Z : Type 0} (Q : Z → Type 0) (e : ReadFault) → ((z : Z) → Q z → ⊥) → Refuses Q e
refuses_all Q OutOfMemory h = tt
refuses_all Q TooMany h = h
refuses_all Q BadShape h = h
refuses_all Q BadName h = h
refuses_all Q BadNumber h = h
refuses_all Q BadCall h = h
refuses_all Q BadView h = h
refuses_all Q BadAgent h = h
refuses_all Q NoBlock h = h

-- at the exit of a `?`, where nothing is spelled
pub exit_none : {X Z : Type 0} (view : X → Z) (Q : Z → Type 0) (r : Result X Located) (e : Located)
    → IsErrAnd r (λ y. y ≡ e) → ((z : Z) → Q z → ⊥) → Finds view Q r
exit_none view Q r e h none = let p = err_from_is_err_and r h in rw (p.1, p.2) (refuses_all Q (fault_of e.why) none)

pub exit_spells_none : {X Z : Type 0} (Q : Z → Type 0) (r : Result X Located) (e : Located)
    → IsErrAnd r (λ y. y ≡ e) → ((z : Z) → Q z → ⊥) → IfErr r (λ y. Refuses Q (fault_of y.why))
exit_spells_none Q r e h none =
    let p = err_from_is_err_and r h in rw (p.1, p.2) (refuses_all Q (fault_of e.why) none)

-- at the exit of a `?` on a growth that was refused
pub exit_memory : {X Z : Type 0} (view : X → Z) (Q : Z → Type 0) (r : Result X Located)
    → IsErrAnd r (λ e. e.why ≡ Memory) → Finds view Q r
exit_memory view Q (Ok x) h = absurd h
exit_memory view Q (Err e) h = rw h tt

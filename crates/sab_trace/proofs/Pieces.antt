-- Reading a piece, and all pieces.
use Rattle.std.proofs.Common.{◌≡◌, ℕ, ◌+◌, ◌<◌, ◌≤◌, ◌==◌, true, false, List, [], ◌∷◌, ◌++◌, length, Option, Some, None, IfSome, Result, IfErr, refl, ap, sym, subst, ◌∙◌, arith, append_assoc, length-append}
use Rattle.std.proofs.lemmas.Grind.{common_steps}
use Rattle.std.specs.Prelude.{IsErrAnd}
use Rattle.std.specs.Io.KnownBytes.{Consumes}
use Rattle.std.proofs.lemmas.Bool.{eqb-true}
use Rattle.std.proofs.lemmas.Result.{err_from_is_err_and}
use Rattle.sab_judge.specs.declared.event.Event.{Event}
use Rattle.sab_trace.specs.declared.line_fault.LineFault.TheVariants.{TooLong, ReadFailed}
use Rattle.sab_trace.specs.declared.refusal.Refusal.{Refusal}
use Rattle.sab_trace.specs.Reading.{IsRefusedBy}
use Rattle.sab_trace.specs.Lines.{HasNoLineFeed}
use Rattle.sab_trace.specs.Progress.{SpellsNext, RefusesNext, IsReadTo, ReadsOn, RefusesWithin, most_read}
use Rattle.sab_trace.proofs.Steps.{line_more, line_ended, ended_refused, long_refused, read_failed}

-- of a piece all but the rest is read
pub record HasReadPiece (piece rest : List ℕ) (old : List Event) (begun_old : List ℕ) (new : List Event)
    (begun_new : List ℕ)
    : Type 0 where
  pub front : List ℕ
  pub is : front ++ rest ≡ piece
  pub on : ReadsOn front old begun_old new begun_new
  pub grown : most_read old begun_old + length front ≤ most_read new begun_new

-- what a reader had is read up to there, and what it has left isn't
pub record HasRead (had left : Option (List ℕ)) (events : List Event) (begun : List ℕ) : Type 0 where
  pub read : List ℕ
  pub consumed : Consumes had left read
  pub to : IsReadTo read events begun

-- a piece that was read, and one behind it that is refused
within : (front behind piece before more : List ℕ) (refusal : Refusal) → front ++ behind ≡ piece
    → IsRefusedBy (((before ++ front) ++ behind) ++ more) refusal → IsRefusedBy ((before ++ piece) ++ more) refusal
within front behind piece before more refusal e h = grind (arith, common_steps, append_assoc)

-- a line that the rest ends, or begins, is too long
pub piece_long : (piece rest part behind : List ℕ) (old : List Event) (begun_old : List ℕ) (new : List Event)
    (begun_new : List ℕ) (refusal : Refusal)
    → HasReadPiece piece rest old begun_old new begun_new → rest ≡ part ++ behind → HasNoLineFeed part
    → 1024 < length begun_new + length part → refusal.line ≡ length new + 1 → refusal.fault ≡ TooLong
    → RefusesWithin piece old begun_old refusal
piece_long piece rest part behind old begun_old new begun_new refusal h cut in_line long number fault =
    λ before more to.
    let on = h.on before to in
    let r = long_refused (before ++ h.front) part (behind ++ more) new begun_new refusal on in_line long number fault in
    let same : ((before ++ h.front) ++ part) ++ (behind ++ more) ≡ ((before ++ h.front) ++ rest) ++ more =
    rw cut (simp append_assoc) in
    within h.front rest piece before more refusal h.is (subst (λ (l : List ℕ). IsRefusedBy l refusal) same r)

-- a line that the rest ends is refused
pub piece_refused : (piece rest part behind : List ℕ) (old : List Event) (begun_old : List ℕ) (new : List Event)
    (begun_new : List ℕ) (line : List ℕ) (refusal : Refusal)
    → HasReadPiece piece rest old begun_old new begun_new → rest ≡ part ++ 10 ∷ behind → HasNoLineFeed part
    → line ≡ begun_new ++ part → length line ≤ 1024 → RefusesNext new line refusal
    → RefusesWithin piece old begun_old refusal
piece_refused piece rest part behind old begun_old new begun_new line refusal h cut in_line is short refused =
    λ before more to.
    let on = h.on before to in
    let further = line_more (before ++ h.front) new begun_new part on in_line (rw is at short) in
    let r = ended_refused ((before ++ h.front) ++ part) (behind ++ more) new (begun_new ++ part) refusal further
    (rw is at refused) in
    let same : ((before ++ h.front) ++ part) ++ 10 ∷ (behind ++ more) ≡ ((before ++ h.front) ++ rest) ++ more =
    rw cut (simp append_assoc) in
    within h.front rest piece before more refusal h.is (subst (λ (l : List ℕ). IsRefusedBy l refusal) same r)

-- a line that the rest ends is read
pub piece_read : (piece rest part behind : List ℕ) (old : List Event) (begun_old : List ℕ) (new : List Event)
    (begun_new line : List ℕ) (further : List Event) (begun_then : List ℕ)
    → HasReadPiece piece rest old begun_old new begun_new → rest ≡ part ++ 10 ∷ behind → HasNoLineFeed part
    → line ≡ begun_new ++ part → length line ≤ 1024 → SpellsNext new line further → begun_then ≡ []
    → HasReadPiece piece behind old begun_old further begun_then
piece_read piece rest part behind old begun_old new begun_new line further begun_then h cut in_line is short next
    empty = record {
      front = (h.front ++ part) ++ 10 ∷ [];
      is =
          let same : ((h.front ++ part) ++ 10 ∷ []) ++ behind ≡ h.front ++ (part ++ 10 ∷ behind) = simp append_assoc in
          same ∙ ap (λ (l : List ℕ). h.front ++ l) (sym cut) ∙ h.is;
      on = λ before to.
          let on = h.on before to in
          let begun = line_more (before ++ h.front) new begun_new part on in_line (rw is at short) in
          let ended = line_ended ((before ++ h.front) ++ part) new (begun_new ++ part) further begun (rw is at next) in
          let same : ((before ++ h.front) ++ part) ++ 10 ∷ [] ≡ before ++ ((h.front ++ part) ++ 10 ∷ []) =
          simp append_assoc in
          rw empty (subst (λ (l : List ℕ). IsReadTo l further []) same ended);
      grown =
          let more = next.is in
          let one : length further ≡ length new + 1 = rw more (length-append new (next.event ∷ [])) in
          let short_line = rw is at short in
          let whole : length begun_new + length part ≤ 1024 = omega (arith, length-append begun_new part) in
          let none : length begun_then ≡ 0 = rw empty refl in
          let grown = h.grown in
          omega (arith, length-append (h.front ++ part) (10 ∷ []), length-append h.front part);
    }

-- pieces of what a reader had

pub read_on : (had left after : Option (List ℕ)) (piece : List ℕ) (events : List Event) (begun : List ℕ)
    (further : List Event) (begun_then : List ℕ)
    → HasRead had left events begun → Consumes left after piece → ReadsOn piece events begun further begun_then
    → HasRead had after further begun_then
read_on None left after piece events begun further begun_then h consumed on =
    record { read = h.read ++ piece; consumed = tt; to = on h.read h.to }
read_on (Some xs) None after piece events begun further begun_then h consumed on = absurd h.consumed
read_on (Some xs) (Some ys) None piece events begun further begun_then h consumed on = absurd consumed
read_on (Some xs) (Some ys) (Some zs) piece events begun further begun_then h consumed on = record {
  read = h.read ++ piece;
  consumed = h.consumed ∙ ap (λ (l : List ℕ). h.read ++ l) consumed ∙ sym (append_assoc h.read piece zs);
  to = on h.read h.to;
}

pub refused_on : (had left after : Option (List ℕ)) (piece : List ℕ) (events : List Event) (begun : List ℕ)
    (refusal : Refusal)
    → HasRead had left events begun → Consumes left after piece → RefusesWithin piece events begun refusal
    → IfSome had (λ bytes. IsRefusedBy bytes refusal)
refused_on None left after piece events begun refusal h consumed r = tt
refused_on (Some xs) None after piece events begun refusal h consumed r = absurd h.consumed
refused_on (Some xs) (Some ys) None piece events begun refusal h consumed r = absurd consumed
refused_on (Some xs) (Some ys) (Some zs) piece events begun refusal h consumed r =
    let same : (h.read ++ piece) ++ zs ≡ xs =
    append_assoc h.read piece zs ∙ ap (λ (l : List ℕ). h.read ++ l) (sym consumed) ∙ sym h.consumed in
    subst (λ (l : List ℕ). IsRefusedBy l refusal) same (r h.read zs h.to)

pub failed_on : (had left : Option (List ℕ)) (events : List Event) (begun : List ℕ) (refusal : Refusal)
    → HasRead had left events begun → refusal.line ≡ length events + 1 → refusal.fault ≡ ReadFailed
    → IfSome had (λ bytes. IsRefusedBy bytes refusal)
failed_on None left events begun refusal h number fault = tt
failed_on (Some xs) None events begun refusal h number fault = absurd h.consumed
failed_on (Some xs) (Some ys) events begun refusal h number fault =
    subst (λ (l : List ℕ). IsRefusedBy l refusal) (sym h.consumed)
    (read_failed h.read ys events begun refusal h.to number fault)

-- at the exit of a `?`
pub exit_with : {X E : Type 0} (P : E → Type 0) (r : Result X E) (e : E) → IsErrAnd r (λ y. y ≡ e) → P e → IfErr r P
exit_with P r e h p = let q = err_from_is_err_and r h in rw (q.1, q.2) p

pub empty_text : (bytes : List ℕ) → true ≡ (length bytes == 0) → bytes ≡ []
empty_text [] e = refl
empty_text (b ∷ bs) e =
    let none : length (b ∷ bs) ≡ 0 = eqb-true (length (b ∷ bs)) 0 (sym e) in absurd (omega arith)

pub some_text : (bytes : List ℕ) → false ≡ (length bytes == 0) → 0 < length bytes
some_text [] e = cc
some_text (b ∷ bs) e = omega arith

-- Reading on.
use Rattle.std.proofs.Common.{◌≡◌, ℕ, suc, ◌+◌, ◌<◌, ◌≤◌, List, [], ◌∷◌, ◌++◌, length, Option, Some, ap, sym, ◌∙◌, arith, append_assoc, append-nil, length-append}
use Rattle.std.proofs.lemmas.Grind.{common_steps}
use Rattle.std.specs.Prelude.{slice_get, take}
use Rattle.std.proofs.lemmas.List.Elements.{All-append, All-nil}
use Rattle.sab_judge.specs.declared.event.Event.{Event}
use Rattle.sab_trace.specs.declared.line_fault.LineFault.{LineFault}
use Rattle.sab_trace.specs.declared.line_fault.LineFault.TheVariants.{TooMany, OutOfMemory, BadShape, BadNumber, BadAgent, NotJson, TooLong, ReadFailed, BadBytes}
use Rattle.sab_trace.specs.declared.refusal.Refusal.{Refusal}
use Rattle.sab_trace.specs.Lines.{HasNoLineFeed, lines_of}
use Rattle.sab_trace.specs.LineFault.{IsLineFault}
use Rattle.sab_trace.specs.Reading.{SpellsEach, SpellsTrace, IsFaultAt, IsRefusedBy}
use Rattle.sab_trace.specs.Spelling.{SpellsLine}
use Rattle.sab_trace.specs.Progress.{SpellsNext, RefusesNext, IsReadTo}
use Rattle.sab_trace.proofs.LineCuts.{none_of_none, ended_line, last_line, IsFirstLong, begun_line}
use Rattle.sab_trace.proofs.Spellings.{as_many, one_more, front_of, next_of}

-- more of a line
pub line_more : (before : List ℕ) (events : List Event) (begun piece : List ℕ) → IsReadTo before events begun
    → HasNoLineFeed piece → length (begun ++ piece) ≤ 1024 → IsReadTo (before ++ piece) events (begun ++ piece)
line_more before events begun piece h in_line short = grind (arith, common_steps, append_assoc)

next_spelled : (lines : List (List ℕ)) (events : List Event) (line : List ℕ) (event : Event)
    → SpellsEach 0 lines events → SpellsLine (length events) line event
    → SpellsEach 0 (lines ++ line ∷ []) (events ++ event ∷ [])
next_spelled lines events line event h s =
    let here : 0 + length events ≡ length events = omega arith in
    one_more 0 lines events line event h (rw here s)

-- the end of a line
pub line_ended : (before : List ℕ) (old : List Event) (line : List ℕ) (new : List Event) → IsReadTo before old line
    → SpellsNext old line new → IsReadTo (before ++ 10 ∷ []) new []
line_ended before old line new h next = record {
  lines = h.lines ++ line ∷ [];
  split = λ more.
      let s = h.split (10 ∷ more) in
      let cut = ended_line line more h.in_line in
      rw (append_assoc before (10 ∷ []) more, append_assoc h.lines (line ∷ []) (lines_of more))
      (s ∙ ap (λ (ls : List (List ℕ)). h.lines ++ ls) cut);
  spelled = rw next.is (next_spelled h.lines old line next.event h.spelled next.spelled);
  in_line = All-nil (λ (byte : ℕ). byte ≡ 10 → ⊥);
  short = omega arith;
}

-- a fault of the line behind those of the events
fault_at : (position : ℕ) (found : Option (List ℕ)) (line : List ℕ) (fault : LineFault) → found ≡ Some line
    → IsLineFault position line fault → IsFaultAt position found fault
fault_at position found line OutOfMemory e h = tt
fault_at position found line ReadFailed e h = tt
fault_at position found line TooMany e h = rw e h
fault_at position found line BadShape e h = rw e h
fault_at position found line BadNumber e h = rw e h
fault_at position found line BadAgent e h = rw e h
fault_at position found line NotJson e h = rw e h
fault_at position found line TooLong e h = rw e h
fault_at position found line BadBytes e h = rw e h

pub line_refused : (bytes : List ℕ) (lines rest : List (List ℕ)) (events : List Event) (line : List ℕ)
    (refusal : Refusal)
    → lines_of bytes ≡ lines ++ line ∷ rest → SpellsEach 0 lines events → RefusesNext events line refusal
    → IsRefusedBy bytes refusal
line_refused bytes lines rest events line refusal cut spelled h = grind (
  arith,
  common_steps,
  length,
  as_many,
  take,
  lines_of,
  front_of,
  slice_get,
  next_of,
  fault_at,
)

-- a line that ended is refused
pub ended_refused : (before more : List ℕ) (events : List Event) (line : List ℕ) (refusal : Refusal)
    → IsReadTo before events line → RefusesNext events line refusal
    → IsRefusedBy (before ++ 10 ∷ more) refusal
ended_refused before more events line refusal h r =
    line_refused (before ++ 10 ∷ more) h.lines (lines_of more) events line refusal
    (h.split (10 ∷ more) ∙ ap (λ (ls : List (List ℕ)). h.lines ++ ls) (ended_line line more h.in_line)) h.spelled r

-- a line that has begun is too long
too_long : (n : ℕ) (lines : List (List ℕ)) (begun more : List ℕ) → HasNoLineFeed begun → n < length begun
    → IsFirstLong (suc n) (lines_of (begun ++ more))
too_long n lines [] more h long = absurd (omega arith)
too_long n lines (b ∷ bs) more h long =
    let first = begun_line b bs more h in
    record { line = first.line; rest = first.rest; is = first.is; long = let l = first.long in omega arith }

pub long_refused : (before piece more : List ℕ) (events : List Event) (begun : List ℕ) (refusal : Refusal)
    → IsReadTo before events begun → HasNoLineFeed piece → 1024 < length begun + length piece
    → refusal.line ≡ length events + 1 → refusal.fault ≡ TooLong
    → IsRefusedBy ((before ++ piece) ++ more) refusal
long_refused before piece more events begun refusal h in_line long number fault =
    let inside = All-append (λ (byte : ℕ). byte ≡ 10 → ⊥) begun piece h.in_line in_line in
    let first = too_long 1024 [] (begun ++ piece) more inside (omega (arith, length-append begun piece)) in
    let s = h.split (piece ++ more) in
    let cut : lines_of ((before ++ piece) ++ more) ≡ h.lines ++ first.line ∷ first.rest =
    rw (append_assoc before piece more)
    (s ∙ ap (λ (bytes : List ℕ). h.lines ++ lines_of bytes) (sym (append_assoc begun piece more))
    ∙ ap (λ (ls : List (List ℕ)). h.lines ++ ls) first.is) in
    line_refused ((before ++ piece) ++ more) h.lines first.rest events first.line refusal cut h.spelled
    (record { number = number; fault = rw fault (let l = first.long in omega arith) })

-- there is no more
pub all_read : (bytes : List ℕ) (events : List Event) → IsReadTo bytes events [] → SpellsTrace bytes events
all_read bytes events h = grind (arith, common_steps, lines_of, append-nil, none_of_none)

cut_last : (bytes : List ℕ) (events : List Event) (line : List ℕ) (h : IsReadTo bytes events line) → 0 < length line
    → lines_of bytes ≡ h.lines ++ line ∷ []
cut_last bytes events [] h some = absurd (omega arith)
cut_last bytes events (b ∷ bs) h some =
    let s = h.split [] in
    ap lines_of (sym (append-nil bytes)) ∙ s
    ∙ ap (λ (rest : List ℕ). h.lines ++ lines_of rest) (append-nil (b ∷ bs))
    ∙ ap (λ (ls : List (List ℕ)). h.lines ++ ls) (last_line b bs h.in_line)

-- the last line ended with the input
pub last_read : (bytes : List ℕ) (old : List Event) (line : List ℕ) (new : List Event) → IsReadTo bytes old line
    → 0 < length line → SpellsNext old line new → SpellsTrace bytes new
last_read bytes old line new h some next =
    rw (cut_last bytes old line h some, next.is) (next_spelled h.lines old line next.event h.spelled next.spelled)

pub last_refused : (bytes : List ℕ) (events : List Event) (line : List ℕ) (refusal : Refusal)
    → IsReadTo bytes events line → 0 < length line → RefusesNext events line refusal → IsRefusedBy bytes refusal
last_refused bytes events line refusal h some r =
    line_refused bytes h.lines [] events line refusal (cut_last bytes events line h some) h.spelled r

-- a read failed, whatever would have followed
pub read_failed : (before more : List ℕ) (events : List Event) (begun : List ℕ) (refusal : Refusal)
    → IsReadTo before events begun → refusal.line ≡ length events + 1 → refusal.fault ≡ ReadFailed
    → IsRefusedBy (before ++ more) refusal
read_failed before more events begun refusal h number fault = grind (arith, common_steps, length, as_many, front_of)

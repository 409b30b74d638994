-- How far a trace is read.
use Rattle.std.specs.Prelude.{◌≡◌, ℕ, ◌+◌, ◌*◌, ◌≤◌, List, [], ◌∷◌, ◌++◌, length}
use Rattle.sab_judge.specs.declared.event.Event.{Event}
use Rattle.sab_trace.specs.declared.refusal.Refusal.{Refusal}
use Rattle.sab_trace.specs.Lines.{HasNoLineFeed, lines_of}
use Rattle.sab_trace.specs.LineFault.{IsLineFault}
use Rattle.sab_trace.specs.Reading.{SpellsEach, IsRefusedBy}
use Rattle.sab_trace.specs.Spelling.{SpellsLine}

-- the line behind those of the old events spells one more
pub record SpellsNext (old : List Event) (line : List ℕ) (new : List Event) : Type 0 where
  pub event : Event
  pub spelled : SpellsLine (length old) line event
  pub is : new ≡ old ++ event ∷ []

-- the line behind those of the events is refused
pub record RefusesNext (events : List Event) (line : List ℕ) (refusal : Refusal) : Type 0 where
  pub number : refusal.line ≡ length events + 1
  pub fault : IsLineFault (length events) line refusal.fault

-- the bytes are lines that spell the events, and then what begins a line; whatever more follows
pub record IsReadTo (bytes : List ℕ) (events : List Event) (begun : List ℕ) : Type 0 where
  pub lines : List (List ℕ)
  pub split : (more : List ℕ) → lines_of (bytes ++ more) ≡ lines ++ lines_of (begun ++ more)
  pub spelled : SpellsEach 0 lines events
  pub in_line : HasNoLineFeed begun
  pub short : length begun ≤ 1024

-- the piece takes the one to the other
abbrev pub ReadsOn : List ℕ → List Event → List ℕ → List Event → List ℕ → Type 0
ReadsOn piece events begun further begun_then =
    (before : List ℕ) → IsReadTo before events begun → IsReadTo (before ++ piece) further begun_then

-- the piece has a line that is refused, or begins it
abbrev pub RefusesWithin : List ℕ → List Event → List ℕ → Refusal → Type 0
RefusesWithin piece events begun refusal =
    (before more : List ℕ) → IsReadTo before events begun → IsRefusedBy ((before ++ piece) ++ more) refusal

-- at least as many bytes as were read: each line has 1,024 at most, and a line feed
abbrev pub most_read : List Event → List ℕ → ℕ
most_read events begun = length events * 1025 + length begun

-- Which events the bytes of a trace spell, and when they are refused.
use Rattle.std.specs.Prelude.{◌≡◌, ℕ, ◌+◌, List, [], ◌∷◌, length, take, slice_get, Option, IsSomeAnd, ⊤}
use Rattle.sab_judge.specs.declared.event.Event.{Event}
use Rattle.sab_trace.specs.declared.line_fault.LineFault.{LineFault}
use Rattle.sab_trace.specs.declared.line_fault.LineFault.TheVariants.{OutOfMemory, ReadFailed}
use Rattle.sab_trace.specs.declared.refusal.Refusal.{Refusal}
use Rattle.sab_trace.specs.Lines.{lines_of}
use Rattle.sab_trace.specs.LineFault.{IsLineFault}
use Rattle.sab_trace.specs.Spelling.{SpellsLine}

-- the lines spell the events, one event a line, from this position on
abbrev pub SpellsEach : ℕ → List (List ℕ) → List Event → Type 0
SpellsEach position [] [] = ⊤
SpellsEach position [] (event ∷ events) = ⊥
SpellsEach position (line ∷ lines) [] = ⊥
SpellsEach position (line ∷ lines) (event ∷ events) =
    SpellsLine position line event × SpellsEach (position + 1) lines events

-- the bytes are a trace of these events
abbrev pub SpellsTrace : List ℕ → List Event → Type 0
SpellsTrace bytes events = SpellsEach 0 (lines_of bytes) events

-- the line at a position, if there is one, has the fault; or it is none of a line
abbrev pub IsFaultAt : ℕ → Option (List ℕ) → LineFault → Type 0
IsFaultAt position line OutOfMemory = ⊤
IsFaultAt position line ReadFailed = ⊤
IsFaultAt position line fault = IsSomeAnd line (λ bytes. IsLineFault position bytes fault)

-- the lines before the one that is reported spell events, and that one has the fault
pub record IsRefusedBy (bytes : List ℕ) (refusal : Refusal) : Type 0 where
  pub events : List Event
  pub number : refusal.line ≡ length events + 1
  pub before : SpellsEach 0 (take (length events) (lines_of bytes)) events
  pub fault : IsFaultAt (length events) (slice_get (lines_of bytes) (length events)) refusal.fault

-- the fault is one of a line, and not of memory or of a reader
abbrev pub IsOfLine : LineFault → Type 0
IsOfLine OutOfMemory = ⊥
IsOfLine ReadFailed = ⊥
IsOfLine fault = ⊤

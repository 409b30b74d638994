-- Bytes are a trace of one list of events at most, and where they are refused of none.
use Rattle.std.proofs.Common.{◌≡◌, ℕ, ◌+◌, List, [], ◌∷◌, length, Option, Some, None, refl, arith}
use Rattle.std.specs.Prelude.{slice_get}
use Rattle.sab_judge.specs.declared.event.Event.{Event}
use Rattle.sab_trace.specs.declared.line_fault.LineFault.{LineFault}
use Rattle.sab_trace.specs.declared.line_fault.LineFault.TheVariants.{TooMany, OutOfMemory, BadShape, BadNumber, BadAgent, NotJson, TooLong, ReadFailed, BadBytes}
use Rattle.sab_trace.specs.declared.refusal.Refusal.{Refusal}
use Rattle.sab_trace.specs.Lines.{lines_of}
use Rattle.sab_trace.specs.LineFault.{IsLineFault}
use Rattle.sab_trace.specs.Reading.{SpellsEach, SpellsTrace, IsFaultAt, IsRefusedBy, IsOfLine}
use Rattle.sab_trace.proofs.OneEvent.{one_line, fault_spells_none}
use Rattle.sab_trace.proofs.Spellings.{line_at}

one_list : (position : ℕ) (lines : List (List ℕ)) (events others : List Event) → SpellsEach position lines events
    → SpellsEach position lines others → events ≡ others
one_list position [] [] [] p q = refl
one_list position [] [] (f ∷ fs) p q = absurd q
one_list position [] (e ∷ es) others p q = absurd p
one_list position (l ∷ ls) [] others p q = absurd p
one_list position (l ∷ ls) (e ∷ es) [] p q = absurd q
one_list position (l ∷ ls) (e ∷ es) (f ∷ fs) p q =
    let first = one_line position l e f p.0 q.0 in
    let rest = one_list (position + 1) ls es fs p.1 q.1 in
    λ i. first i ∷ rest i

-- bytes are a trace of one list of events at most
pub one_trace : (bytes : List ℕ) (events others : List Event) → SpellsTrace bytes events → SpellsTrace bytes others
    → events ≡ others
one_trace bytes events others p q = one_list 0 (lines_of bytes) events others p q

-- the line that has the fault
faulty_line : (position : ℕ) (found : Option (List ℕ)) (fault : LineFault) → IsFaultAt position found fault
    → IsOfLine fault → (line : List ℕ) × (found ≡ Some line) × IsLineFault position line fault
faulty_line position None OutOfMemory h of = absurd of
faulty_line position None ReadFailed h of = absurd of
faulty_line position None TooMany h of = absurd h
faulty_line position None BadShape h of = absurd h
faulty_line position None BadNumber h of = absurd h
faulty_line position None BadAgent h of = absurd h
faulty_line position None NotJson h of = absurd h
faulty_line position None TooLong h of = absurd h
faulty_line position None BadBytes h of = absurd h
faulty_line position (Some line) OutOfMemory h of = absurd of
faulty_line position (Some line) ReadFailed h of = absurd of
faulty_line position (Some line) TooMany h of = (line, refl, h)
faulty_line position (Some line) BadShape h of = (line, refl, h)
faulty_line position (Some line) BadNumber h of = (line, refl, h)
faulty_line position (Some line) BadAgent h of = (line, refl, h)
faulty_line position (Some line) NotJson h of = (line, refl, h)
faulty_line position (Some line) TooLong h of = (line, refl, h)
faulty_line position (Some line) BadBytes h of = (line, refl, h)

-- bytes that are refused for a line are no trace
pub refused_spell_none : (bytes : List ℕ) (refusal : Refusal) → IsRefusedBy bytes refusal → IsOfLine refusal.fault
    → (events : List Event) → SpellsTrace bytes events → ⊥
refused_spell_none bytes refusal h of events s =
    let line = faulty_line (length h.events) (slice_get (lines_of bytes) (length h.events)) refusal.fault h.fault of in
    let spelled = line_at 0 (length h.events) (lines_of bytes) events line.0 s line.1 in
    let here : 0 + (length h.events) ≡ (length h.events) = omega arith in
    fault_spells_none (length h.events) line.0 refusal.fault spelled.0 line.2 of (rw here at spelled.1)

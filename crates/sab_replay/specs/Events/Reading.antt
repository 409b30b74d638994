-- What the events of a run read, in the terms of the sequential object.
use Rattle.std.specs.Prelude.{◌≡◌, ℕ, suc, ◌<◌, false, List, map, length, take, slice_index}
use Rattle.sab_plan.specs.Plan.{PlanParts}
use Rattle.sab_plan.specs.declared.entry.Entry.{Entry}
use Rattle.sab_object.specs.Object.{State, bytes_of, Does}
use Rattle.sab_sim.specs.Run.{Reaches}
use Rattle.sab_judge.specs.Event.{event_at, writes_byte}
use Rattle.sab_judge.specs.HappensBefore.{ReadsByteFrom}
use Rattle.sab_replay.specs.Events.Events.{event_of, events_of}

-- a byte of a block, in a state of the object
abbrev pub byte_in : State → ℕ → ℕ → ℕ
byte_in S block byte = slice_index (bytes_of S.mem block) byte

-- from a state whose blocks have the plan's lengths, an act changes no byte but those that its event writes
abbrev pub ChangesWhatItWrites : PlanParts → Entry → Type 0
ChangesWhatItWrites plan e =
    (S T : State) (block byte : ℕ)
    → map length S.mem ≡ plan.lens
    → Does plan S e T
    → writes_byte (event_of plan e) block byte ≡ false
    → byte_in T block byte ≡ byte_in S block byte

-- before the j-th entry a byte that its event reads is as the i-th entry, from whose event it reads it, left it
abbrev pub ReadsWhatWasLeft : PlanParts → List Entry → Type 0
ReadsWhatWasLeft plan journal =
    (j i block byte : ℕ) (S T : State)
    → ReadsByteFrom (events_of plan journal) j i block byte
    → Reaches plan (take (suc i) journal) S
    → Reaches plan (take j journal) T
    → byte_in T block byte ≡ byte_in S block byte

-- before the j-th entry a byte that no event before it writes is zero
abbrev pub ReadsZeros : PlanParts → List Entry → Type 0
ReadsZeros plan journal =
    (j block byte : ℕ) (T : State)
    → ((i : ℕ) → i < j → writes_byte (event_at (events_of plan journal) i) block byte ≡ false)
    → Reaches plan (take j journal) T
    → byte_in T block byte ≡ 0

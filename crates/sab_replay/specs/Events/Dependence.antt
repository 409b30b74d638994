-- What an entry depends on, in the terms of the sequential object.
use Rattle.std.specs.Prelude.{◌≡◌, ℕ, Bool, IsTrue, map, length}
use Rattle.sab_plan.specs.Plan.{PlanParts}
use Rattle.sab_plan.specs.declared.entry.Entry.{Entry}
use Rattle.sab_object.specs.Object.{State, Does}
use Rattle.sab_judge.specs.Event.{writes_byte, reads_byte}
use Rattle.sab_replay.specs.Events.Events.{event_of}
use Rattle.sab_replay.specs.Events.Reading.{byte_in}

-- the two states agree on the bytes that meet the test, on the line of waiters and on who was notified
pub record AgreeOn (meets : ℕ → ℕ → Bool) (S S' : State) : Type 0 where
  pub bytes : (block byte : ℕ) → IsTrue (meets block byte) → byte_in S' block byte ≡ byte_in S block byte
  pub line : S'.line ≡ S.line
  pub notified : (a : ℕ) → S'.notified a ≡ S.notified a

-- what an entry does and returns depends on no byte except those that its event reads: where it acts from one state, it
-- acts from each that agrees with it on them, and the states after it agree on the bytes that the event writes
abbrev pub DependsOnWhatItReads : PlanParts → Entry → Type 0
DependsOnWhatItReads plan e =
    (S S' T : State)
    → map length S.mem ≡ plan.lens
    → map length S'.mem ≡ plan.lens
    → AgreeOn (reads_byte (event_of plan e)) S S'
    → Does plan S e T
    → (T' : State) × Does plan S' e T' × AgreeOn (writes_byte (event_of plan e)) T T'

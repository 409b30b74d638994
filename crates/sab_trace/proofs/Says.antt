-- What a line says, and the event or the fault that follows.
use Rattle.std.proofs.Common.{◌≡◌, ℕ, List, true, false, Option, Some, None, refl, arith}
use Rattle.std.proofs.lemmas.Grind.{common_steps}
use Rattle.std.specs.Prelude.{IsTrue}
use Rattle.serde_json.specs.Data.{Data, object}
use Rattle.sab_judge.specs.declared.event.Event.{Event}
use Rattle.sab_judge.specs.declared.place.Place.{Place}
use Rattle.sab_trace.specs.declared.flags.Flags.{Flags}
use Rattle.sab_trace.specs.declared.found.Found.{Found}
use Rattle.sab_trace.specs.declared.line_fault.LineFault.{LineFault}
use Rattle.sab_trace.specs.declared.line_fault.LineFault.TheVariants.{TooMany, OutOfMemory, BadShape, BadNumber, BadAgent, NotJson, TooLong, ReadFailed, BadBytes}
use Rattle.sab_trace.specs.declared.said.Said.{Said}
use Rattle.sab_trace.specs.Deeds.{acts, CanHave}
use Rattle.sab_trace.specs.Numbers.{AreNumbers, Fit, IsAgent, AreBytes}
use Rattle.sab_trace.specs.Seen.{said_values, AreSafe, Says}
use Rattle.sab_trace.specs.Tokens.{slots_of, members_of, HasNumbersOf}
use Rattle.sab_trace.specs.Spelling.{event_of, SpellsEvent, ReadsAs}
use Rattle.sab_trace.specs.LineFault.{HasNumbers, IsTreeFault, IsReadingFault}

-- a member is there for each slot
pub says_all : (f : Found) (source : Option (List ℕ)) (said : Said) → HasNumbersOf f said.numbers
    → f.read ≡ Some said.flags.read → f.write ≡ Some said.flags.write → f.atomic ≡ Some said.flags.atomic
    → f.waiters ≡ Some said.flags.waiters → f.does ≡ Some said.does → f.has_source ≡ true → AreSafe said.numbers
    → CanHave said.does said.flags → Says (object (members_of (slots_of f source))) said
says_all f source said numbers read write atomic waiters does has_source safe can = record {
  shaped = record {
    members = record {
      source = source;
      is =
          rw (numbers.agent, numbers.block, numbers.byte, numbers.call, numbers.event, numbers.size)
          (rw (read, write, atomic, waiters, does, has_source) refl);
    };
    can = can;
  };
  safe = safe;
}

pub own_numbers : (said : Said) → AreSafe said.numbers → AreNumbers (said_values said) said.numbers
own_numbers said safe = grind (arith, common_steps)

abbrev pub has_numbers : (position : ℕ) (tree : Data) (said : Said) → Says tree said
    → Fit position said.does said.flags said.numbers → HasNumbers position tree
has_numbers position tree said says fit = record {
  values = said_values said;
  shaped = says.shaped;
  numbers = said.numbers;
  whole = record { are = own_numbers said says.safe; fit = fit };
}

-- the event
pub spelled : (position : ℕ) (tree : Data) (said : Said) (agent : ℕ) (place : Place) (len : ℕ) (event : Event)
    → Says tree said → Fit position said.does said.flags said.numbers → IsAgent said.numbers agent
    → (IsTrue (acts said.flags) → AreBytes said.numbers place len) → event ≡ event_of said.flags agent place len
    → SpellsEvent position tree event
spelled position tree said agent place len event says fit by bytes is = grind (arith, common_steps, own_numbers)

-- an event that does nothing to bytes
pub idle_event : (flags : Flags) (agent : ℕ) (place : Place) (len : ℕ) → acts flags ≡ false
    → record { agent = agent; access = None; waiters = None } ≡ event_of flags agent place len
idle_event flags agent place len e = grind (arith, common_steps, event_of)

-- a fault of the tree that a line reads as
pub reading_fault : (position : ℕ) (line : List ℕ) (tree : Data) (fault : LineFault) → ReadsAs line tree
    → IsTreeFault position tree fault → IsReadingFault position line fault
reading_fault position line tree TooMany reading h = absurd h
reading_fault position line tree OutOfMemory reading h = absurd h
reading_fault position line tree BadShape reading h = (tree, reading, h)
reading_fault position line tree BadNumber reading h = (tree, reading, h)
reading_fault position line tree BadAgent reading h = (tree, reading, h)
reading_fault position line tree NotJson reading h = absurd h
reading_fault position line tree TooLong reading h = absurd h
reading_fault position line tree ReadFailed reading h = absurd h
reading_fault position line tree BadBytes reading h = (tree, reading, h)

-- Which event a line of a trace spells.
use Rattle.std.specs.Prelude.{◌≡◌, ℕ, ◌<◌, ◌≤◌, List, length, Bool, IsTrue, IsUtf8, Option, Some, None, if◌then◌else◌}
use Rattle.serde_json.specs.Data.{Data}
use Rattle.serde_json.specs.Read.{read}
use Rattle.sab_judge.specs.declared.access.Access.{Access}
use Rattle.sab_judge.specs.declared.event.Event.{Event}
use Rattle.sab_judge.specs.declared.order.Order.{Order}
use Rattle.sab_judge.specs.declared.order.Order.TheVariants.{Unordered, SeqCst}
use Rattle.sab_judge.specs.declared.place.Place.{Place}
use Rattle.sab_trace.specs.declared.flags.Flags.{Flags}
use Rattle.sab_trace.specs.declared.numbers.Numbers.{Numbers}
use Rattle.sab_trace.specs.Deeds.{accesses, acts}
use Rattle.sab_trace.specs.Members.{Values, IsShaped}
use Rattle.sab_trace.specs.Numbers.{AreWhole, IsAgent, AreBytes}
use Rattle.sab_judge.specs.declared.trace.TheConstants.Trace.{MAX_EVENTS}

abbrev pub order_of : Bool → Order
order_of atomic = if atomic then SeqCst else Unordered

abbrev pub access_of : Flags → Place → ℕ → Option Access
access_of flags place len =
    if accesses flags then Some (record {
      place = place;
      len = len;
      reads = flags.read;
      writes = flags.write;
      order = order_of flags.atomic;
    }) else None

abbrev pub waiters_of : Flags → Place → Option Place
waiters_of flags place = if flags.waiters then Some place else None

-- the event of an agent, at so many bytes from a place on
abbrev pub event_of : Flags → ℕ → Place → ℕ → Event
event_of flags agent place len = record {
  agent = agent;
  access = access_of flags place len;
  waiters = waiters_of flags place;
}

-- the tree spells the event, which stands at this position
pub record SpellsEvent (position : ℕ) (tree : Data) (event : Event) : Type 0 where
  pub values : Values
  pub shaped : IsShaped tree values
  pub numbers : Numbers
  pub whole : AreWhole position values numbers
  pub agent : ℕ
  pub by : IsAgent numbers agent
  pub place : Place
  pub len : ℕ
  pub bytes : IsTrue (acts values.flags) → AreBytes numbers place len
  pub is : event ≡ event_of values.flags agent place len

-- the bytes are a JSON text in UTF-8, which reads as the tree
pub record ReadsAs (line : List ℕ) (tree : Data) : Type 0 where
  pub utf8 : IsUtf8 line
  pub is : read line ≡ Some tree

-- the line spells the event at this position
pub record SpellsLine (position : ℕ) (line : List ℕ) (event : Event) : Type 0 where
  pub few : position < MAX_EVENTS
  pub short : length line ≤ 1024
  pub tree : Data
  pub reading : ReadsAs line tree
  pub spelled : SpellsEvent position tree event

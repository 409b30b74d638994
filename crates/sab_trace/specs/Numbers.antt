-- The numbers of an event's object.
use Rattle.std.specs.Prelude.{◌≡◌, ℕ, ◌<◌, ◌^◌, ◌-◌, IsTrue, ℤ, pos, neg_ℤ, ◌≤ℤ◌}
use Rattle.serde_json.specs.Data.{Num}
use Rattle.serde_json.specs.Find.{of_integer}
use Rattle.sab_judge.specs.declared.place.Place.{Place}
use Rattle.sab_judge.specs.declared.trace.TheConstants.Trace.{MAX_AGENTS}
use Rattle.sab_judge.specs.Trace.{HasBytes}
use Rattle.sab_trace.specs.declared.deed.Deed.{Deed}
use Rattle.sab_trace.specs.declared.flags.Flags.{Flags}
use Rattle.sab_trace.specs.declared.numbers.Numbers.{Numbers}
use Rattle.sab_trace.specs.Deeds.{acts, IsSizeOf}
use Rattle.sab_trace.specs.Members.{Values}

-- it lies within ±(2^53 - 1)
pub record IsSafe (z : ℤ) : Type 0 where
  pub above : neg_ℤ (pos (2 ^ 53 - 1)) ≤ℤ z
  pub below : z ≤ℤ pos (2 ^ 53 - 1)

-- the number is this whole number, and safe
pub record IsWhole (n : Num) (z : ℤ) : Type 0 where
  pub is : n ≡ of_integer z
  pub safe : IsSafe z

-- the numbers of the members are these whole ones
pub record AreNumbers (values : Values) (numbers : Numbers) : Type 0 where
  pub agent : IsWhole values.agent numbers.agent
  pub block : IsWhole values.block numbers.block
  pub byte : IsWhole values.byte numbers.byte
  pub call : IsWhole values.call numbers.call
  pub event : IsWhole values.event numbers.event
  pub size : IsWhole values.size numbers.size

-- they give this position, a call, and if the event acts, a size that goes with what it does
pub record Fit (position : ℕ) (does : Deed) (flags : Flags) (numbers : Numbers) : Type 0 where
  pub at_position : numbers.event ≡ pos position
  pub from_zero : pos 0 ≤ℤ numbers.call
  pub size_fits : IsTrue (acts flags) → IsSizeOf does numbers.size

-- the event at this position has these numbers, which are right
pub record AreWhole (position : ℕ) (values : Values) (numbers : Numbers) : Type 0 where
  pub are : AreNumbers values numbers
  pub fit : Fit position values.does values.flags numbers

-- the agent is one of 16
pub record IsAgent (numbers : Numbers) (agent : ℕ) : Type 0 where
  pub is : numbers.agent ≡ pos agent
  pub below : agent < MAX_AGENTS

-- they give so many bytes from the place on, one at least, which are there
pub record AreBytes (numbers : Numbers) (place : Place) (len : ℕ) : Type 0 where
  pub block : numbers.block ≡ pos place.block
  pub byte : numbers.byte ≡ pos place.byte
  pub size : numbers.size ≡ pos len
  pub some : 0 < len
  pub there : HasBytes place len

-- What the members that were read stand for.
use Rattle.serde_json.specs.Data.{Data}
use Rattle.serde_json.specs.View.{number_view}
use Rattle.serde_json.specs.Find.{of_integer}
use Rattle.sab_trace.specs.declared.members.Members.{Members}
use Rattle.sab_trace.specs.declared.numbers.Numbers.{Numbers}
use Rattle.sab_trace.specs.declared.said.Said.{Said}
use Rattle.sab_trace.specs.Members.{Values, IsShaped}
use Rattle.sab_trace.specs.Numbers.{IsSafe}

-- the values of a tree's members
abbrev pub values_of : Members → Values
values_of m = record {
  does = m.does;
  flags = m.flags;
  agent = number_view m.agent.now;
  block = number_view m.block.now;
  byte = number_view m.byte.now;
  call = number_view m.call.now;
  event = number_view m.event.now;
  size = number_view m.size.now;
}

-- the values of members whose numbers are these whole ones
abbrev pub said_values : Said → Values
said_values said = record {
  does = said.does;
  flags = said.flags;
  agent = of_integer said.numbers.agent;
  block = of_integer said.numbers.block;
  byte = of_integer said.numbers.byte;
  call = of_integer said.numbers.call;
  event = of_integer said.numbers.event;
  size = of_integer said.numbers.size;
}

-- all are within ±(2^53 - 1)
pub record AreSafe (numbers : Numbers) : Type 0 where
  pub agent : IsSafe numbers.agent
  pub block : IsSafe numbers.block
  pub byte : IsSafe numbers.byte
  pub call : IsSafe numbers.call
  pub event : IsSafe numbers.event
  pub size : IsSafe numbers.size

-- the tree is the object of an event, and says this
pub record Says (tree : Data) (said : Said) : Type 0 where
  pub shaped : IsShaped tree (said_values said)
  pub safe : AreSafe said.numbers

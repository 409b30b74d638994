use Rattle.std.proofs.Common.{ap}
use Rattle.std.specs.Prelude.{string_bytes}
use Rattle.serde_json.specs.View.{view, members_view}
use Rattle.sab_reader.proofs.script.tree.end.Goals as goal

pub returns-in-Some-clause-first : goal.returns-in-Some-clause-first
returns-in-Some-clause-first c = (
  string_bytes c.in-Some.found.now,
  view c.in-Some.field-0-1.now,
  members_view c.next.new.self,
  ap members_view c.in-Some.ensures.steps,
  rw (← c.as_str.ensures.value) (record { bytes = c.of.ensures.bytes; cut = c.of.ensures.cut }),
)

use Rattle.std.proofs.Common.{◌≡◌, ◌+◌, drop}
use Rattle.sab_reader.specs.Check.Text.{count_calls}
use Rattle.sab_reader.proofs.check.ok_line.call_count.Given as goal

abbrev pub invariant-loop-script : goal.invariant-loop-script
invariant-loop-script l = l.count + count_calls (drop l.script-index l.scripts) ≡ count_calls l.scripts

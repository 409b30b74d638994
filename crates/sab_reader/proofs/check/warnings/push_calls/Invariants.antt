use Rattle.std.proofs.Common.{◌≡◌, ◌++◌, drop}
use Rattle.std.specs.Prelude.{string_bytes}
use Rattle.sab_reader.specs.Check.Text.{calls_lines}
use Rattle.sab_reader.proofs.check.warnings.push_calls.Given as goal

abbrev pub invariant-loop-call : goal.invariant-loop-call
invariant-loop-call l =
    string_bytes l.text ++ calls_lines l.setup l.script.can_block l.agent l.call (drop l.call l.script.calls)
    ≡ string_bytes l.fn.text ++ calls_lines l.setup l.script.can_block l.agent 0 l.script.calls

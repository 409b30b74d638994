use Rattle.std.proofs.Common.{◌≡◌, ◌++◌, drop}
use Rattle.std.specs.Prelude.{string_bytes}
use Rattle.sab_reader.specs.Check.Text.{agents_lines}
use Rattle.sab_reader.proofs.check.warnings.push_warnings.Given as goal

abbrev pub invariant-loop-agent : goal.invariant-loop-agent
invariant-loop-agent l =
    string_bytes l.text ++ agents_lines l.setup l.agent (drop l.agent l.setup.plan.scripts)
    ≡ string_bytes l.fn.text ++ agents_lines l.setup 0 l.setup.plan.scripts

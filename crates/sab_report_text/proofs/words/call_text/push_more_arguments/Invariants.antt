use Rattle.std.proofs.Common.{◌≡◌, ◌+◌, ◌*◌, ◌≤◌, ◌++◌, length, drop}
use Rattle.std.specs.Prelude.{flat_map}
use Rattle.sab_report_text.specs.declared.words.call_text.TheConstants.{ARGUMENT_LEN}
use Rattle.sab_report_text.specs.Words.CallText.{argument_text}
use Rattle.sab_report_text.proofs.words.call_text.push_more_arguments.Given as goal

abbrev pub invariant-loop-argument : goal.invariant-loop-argument
invariant-loop-argument l = record {
  bytes : l.chunk ++ flat_map argument_text (drop l.argument-index l.arguments)
      ≡ l.fn.chunk ++ flat_map argument_text l.arguments;
  room : length l.chunk ≤ length l.fn.chunk + ARGUMENT_LEN * l.argument-index;
}

use Rattle.std.proofs.Common.{◌≡◌, ◌+◌, ◌*◌, ◌≤◌, ◌++◌, true, length, drop}
use Rattle.serde_json.specs.Written.{items_text}
use Rattle.sab_report_text.specs.declared.json_lines.call.TheConstants.{ITEM_LEN}
use Rattle.sab_report_text.specs.JsonLines.CallData.{argument_items}
use Rattle.sab_report_text.proofs.json_lines.call.push_more.Given as goal

abbrev pub invariant-loop-argument : goal.invariant-loop-argument
invariant-loop-argument l = record {
  bytes : l.chunk ++ items_text true (argument_items (drop l.argument-index l.arguments)) ≡ l.fn.chunk
      ++ items_text true (argument_items l.arguments);
  room : length l.chunk ≤ length l.fn.chunk + ITEM_LEN * l.argument-index;
}

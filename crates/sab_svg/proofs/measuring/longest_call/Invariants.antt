use Rattle.std.proofs.Common.{◌≡◌, ◌≤◌, map, max, drop}
use Rattle.sab_report_text.specs.declared.words.call_text.TheConstants.{CALL_LEN}
use Rattle.sab_svg.specs.Shape.{greatest, longest_in}
use Rattle.sab_svg.proofs.measuring.longest_call.Given as goal

abbrev pub invariant-loop-script : goal.invariant-loop-script
invariant-loop-script l = record {
  chars : max l.longest (greatest (map (longest_in l.names) (drop l.script-index l.scripts)))
      ≡ greatest (map (longest_in l.names) l.scripts);
  few : l.longest ≤ CALL_LEN;
}

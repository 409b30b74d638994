use Rattle.std.proofs.Common.{◌≡◌, ◌≤◌, length, map, max, drop}
use Rattle.sab_report_text.specs.declared.words.call_text.TheConstants.{CALL_LEN}
use Rattle.sab_report_text.specs.Words.CallText.{call_text}
use Rattle.sab_svg.specs.Shape.{greatest}
use Rattle.sab_svg.proofs.measuring.longest_in.Given as goal

abbrev pub invariant-loop-call : goal.invariant-loop-call
invariant-loop-call l = record {
  chars : max l.longest (greatest (map (λ call. length (call_text l.names call)) (drop l.call-index l.calls)))
      ≡ greatest (map (λ call. length (call_text l.names call)) l.calls);
  few : l.longest ≤ CALL_LEN;
}

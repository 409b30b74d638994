use Rattle.std.proofs.Common.{◌≡◌, ◌≤◌, length, map, max, drop}
use Rattle.sab_report_text.specs.declared.words.name.TheConstants.Name.{MAX_LEN}
use Rattle.sab_svg.specs.Shape.{greatest}
use Rattle.sab_svg.proofs.measuring.longest_name.Given as goal

abbrev pub invariant-loop-name : goal.invariant-loop-name
invariant-loop-name l = record {
  chars : max l.longest (greatest (map length (drop l.name-index l.names))) ≡ greatest (map length l.names);
  few : l.longest ≤ MAX_LEN;
}

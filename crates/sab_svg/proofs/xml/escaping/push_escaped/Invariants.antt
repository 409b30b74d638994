use Rattle.std.proofs.Common.{◌≡◌, ◌+◌, ◌-◌, ◌*◌, ◌≤◌, ◌++◌, length, take, drop}
use Rattle.sab_svg.specs.Xml.Xml.{text_of}
use Rattle.sab_svg.proofs.xml.escaping.push_escaped.Given as goal

abbrev pub invariant-loop-i : goal.invariant-loop-i
invariant-loop-i l = record {
  behind : l.start ≤ l.i;
  whole : l.chunk ++ take (l.i - l.start) (drop l.start l.text) ++ text_of (drop l.i l.text)
      ≡ l.fn.chunk ++ text_of l.text;
  room : length l.chunk ≤ length l.fn.chunk + 8 * l.start;
}

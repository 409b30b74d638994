use Rattle.std.proofs.Common.{length}
use Rattle.sab_reader.proofs.OfScript.Tokens.{ItemsSoFar}
use Rattle.sab_reader.proofs.script.plain.lists.scan_items.Given as goal

abbrev pub invariant-loop-item : goal.invariant-loop-item
invariant-loop-item g l = ItemsSoFar (g.R.Scanner.nests l.scanner) (g.R.Scanner.Spells l.scanner) l.element l.items l.found.items

abbrev pub decreases-loop-item : goal.decreases-loop-item
decreases-loop-item g l = length l.items

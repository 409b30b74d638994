use Rattle.std.proofs.Common.{rules, length, sym, ◌∙◌, arith}
use Rattle.std.proofs.lemmas.Slice.{between_to_end}
use Rattle.sab_reader.proofs.OfCheck.Walk.{next_side, none_here}
use Rattle.sab_reader.proofs.check.scanning.first_foreign.Goals as goal

pub loop-at-preserved : goal.loop-at-preserved
loop-at-preserved c = record {
  side = search (rules, next_side);
  none =
      none_here c.args.text.now _ c.loop-at.at c.loop-at.side c.loop-at.invariant.side
      (between_to_end c.args.text.now c.loop-at.at (length c.args.text.now) (omega arith))
      (sym c.in_default.is ∙ c.foreign_on.ensures) c.loop-at.invariant.none;
}

-- What is kept of the accesses so far.
use Rattle.std.specs.Prelude.{◌≡◌, ℕ, List, length}
use Rattle.sab_judge.specs.declared.event.Event.{Event}
use Rattle.sab_judge.specs.declared.seen.Seen.{Seen}
use Rattle.sab_judge.specs.Cell.{AreKept, AreShort, AreUsed}
use Rattle.sab_judge.specs.Link.{AreLinks}
use Rattle.sab_judge.specs.Shelf.{AreShelved}

-- what is kept is that of the first n events of the trace
pub record IsSeen (trace : List Event) (n : ℕ) (seen : Seen) : Type 0 where
  pub cells : AreKept trace n seen.cells
  pub shelves : AreShelved trace n seen.shelves
  pub classes : length seen.used ≡ 32
  pub used : AreUsed trace n seen.used
  pub short : AreShort trace n
  pub links : AreLinks trace n seen.links.items

-- An event without an access is kept by its link alone.
use Rattle.sab_judge.proofs.Cells.{all_skipped, short_skipped, used_skipped}
use Rattle.sab_judge.proofs.Shelving.{none_shelved}
use Rattle.sab_judge.proofs.Linking.{links_more, no_access_linked}
use Rattle.sab_judge.proofs.seen.Seen.keep.Goals as goal

pub returns-in_ok-push-in-None : goal.returns-in_ok-push-in-None
returns-in_ok-push-in-None c = record {
  cells = all_skipped c.args.trace.now c.args.j c.args.self.now.cells c.requires.seen.cells c.in-None.is;
  shelves = none_shelved c.args.trace.now c.args.j c.args.self.now.shelves c.requires.seen.shelves c.in-None.is;
  classes = c.requires.seen.classes;
  used = used_skipped c.args.trace.now c.args.self.now.used c.requires.seen.used c.in-None.is;
  short = short_skipped c.args.trace.now c.requires.seen.short c.in-None.is;
  links = links_more c.requires.seen.links (no_access_linked c.in-None.is) c.in_ok-push-in-None.ensures.items;
}

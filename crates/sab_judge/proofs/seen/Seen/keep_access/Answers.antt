-- The event is noted in its cell, and its class and its link are kept.
use Rattle.std.proofs.Common.{true, sym, length-set, ◌∙◌}
use Rattle.sab_judge.proofs.Cells.{short_more, used_more}
use Rattle.sab_judge.proofs.Linking.{links_more}
use Rattle.sab_judge.proofs.seen.Seen.keep_access.Goals as goal

pub returns : goal.returns
returns c = record {
  cells = c.in_ok-link.ensures.cells;
  shelves = c.in_ok-shelve.ensures;
  classes = length-set c.args.self.now.used c.of-cell.result.class true ∙ c.requires.seen.classes;
  used = used_more c.args.trace.now c.args.self.now.used c.requires.seen.used c.requires.makes
      (sym c.of-cell.ensures.is_in.class) c.requires.seen.classes;
  short = short_more c.args.trace.now c.requires.seen.short c.requires.makes
      (rw c.of-cell.ensures.is_in.class c.of-cell.ensures.less);
  links = links_more c.requires.seen.links c.in_ok-link.ensures.link c.in_ok-push.ensures.items;
}

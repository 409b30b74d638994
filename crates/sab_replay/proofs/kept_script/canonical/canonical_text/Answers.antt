-- A line feed behind UTF-8 is UTF-8.
use Rattle.sab_replay.proofs.OfKeptScript.LineFeed.{utf8_line}
use Rattle.sab_replay.proofs.kept_script.canonical.canonical_text.Goals as goal

pub returns-clause-utf8 : goal.returns-clause-utf8
returns-clause-utf8 c = rw c.in_ok-push.ensures.items (utf8_line c.in_ok-text.text.items c.in_ok-text.ensures.utf8)

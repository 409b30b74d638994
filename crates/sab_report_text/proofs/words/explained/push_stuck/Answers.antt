-- The pieces, one behind the other; an agent that neither waits nor was woken.
use Rattle.sab_report_text.proofs.OfWords.Pieces.{two}
use Rattle.sab_report_text.proofs.OfWords.Stuck.{not_waiting}
use Rattle.sab_report_text.proofs.words.explained.push_stuck.Goals as goal

pub returns-in-WokenBy-clause-bytes : goal.returns-in-WokenBy-clause-bytes
returns-in-WokenBy-clause-bytes c =
    rw c.in-WokenBy.is (two _ _ _ _ _ c.push-in-WokenBy.ensures (rw c.from.ensures at c.push_number.ensures.bytes))

pub returns-in_default-clause-bytes : goal.returns-in_default-clause-bytes
returns-in_default-clause-bytes c =
    rw (not_waiting c.args.names.now c.args.call c.args.fact.now.since c.args.why c.args.fact.now.found
    c.in_default.not-Waited c.in_default.not-WokenBy) c.push-in_default.ensures

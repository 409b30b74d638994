use Rattle.std.proofs.Common.{codes, ap}
use Rattle.serde_json.specs.Data.{object, member, no_members}
use Rattle.sab_reader.proofs.OfScript.ObjectTokens.{time_up_read}
use Rattle.sab_reader.proofs.script.plain.schedule.scan_time_up.Goals as goal

pub returns : goal.returns
returns c = λ j begins.
    let m = c.in_ok-are_named.ensures j begins in
    let t = c.in_ok-timeout.ensures m.0 (rw m.1 at begins) in
    let p = c.in_ok-scan_position.ensures.reported t.0 t.2 in (
      object (member (codes "timeout") p.0 no_members),
      time_up_read 0 j t.0 p.0 (m.0, m.1, m.2, (t.1, tt)) p.1,
      (ap (λ d. object (member (codes "timeout") d no_members)) p.2.0, p.2.1),
    )

use Rattle.sab_trace.proofs.Outcomes.{if_ok, if_err}
use Rattle.sab_trace.proofs.Says.{reading_fault}
use Rattle.sab_trace.proofs.spelling.read_line.Goals as goal

pub returns-in-Some-clause-ok : goal.returns-in-Some-clause-ok
returns-in-Some-clause-ok c =
    let p = c.in-Some.ensures in
    if_ok c.event_of.result (λ event h. record {
      few = c.requires.few;
      short = c.requires.short;
      tree = p.0;
      reading = p.1;
      spelled = h p.0 p.2;
    }) c.event_of.ensures.ok

pub returns-in-Some-clause-err : goal.returns-in-Some-clause-err
returns-in-Some-clause-err c =
    let p = c.in-Some.ensures in
    if_err c.event_of.result
    (λ fault h. reading_fault c.args.position c.args.line.now p.0 fault p.1 (h p.0 p.2)) c.event_of.ensures.err

use Rattle.sab_reader.proofs.script.plain.setup.values_in.Goals as goal

pub returns : goal.returns
returns c = λ j begins.
    let m = c.in_ok-are_named.ensures j begins in
    let object_begins = rw m.1 at begins in
    let a = c.in_ok-agents.ensures m.0 object_begins in
    let l = c.in_ok-lens.ensures m.0 object_begins in
    let s = c.in_ok-schedule.ensures m.0 object_begins in
    let v = c.in_ok-views.ensures m.0 object_begins in
    let name = c.lens_member-lens_member.ensures.name in
    (a.0, l.0, s.0, v.0, (m.0, m.1, rw name at m.2, (a.1, (rw name at l.1, (s.1, (v.1, tt))))), a.2, l.2, s.2, v.2)

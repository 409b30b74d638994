use Rattle.std.proofs.Common.{◌≡◌, length, arith}
use Rattle.sab_reader.specs.Script.Setup.{script_object}
use Rattle.sab_reader.proofs.OfScript.ObjectTokens.{script_read}
use Rattle.sab_reader.proofs.OfScript.WholePlan.{makes_plan}
use Rattle.sab_reader.proofs.OfScript.WholeScript.{lens_limits}
use Rattle.sab_reader.proofs.script.plain.setup.scan_setup.Goals as goal

pub scan_views-requires-clause-some : goal.scan_views-requires-clause-some
scan_views-requires-clause-some c =
    let p = c.in-Some.ensures c.requires.0 c.requires.1 in
    let l = c.in_ok-lens.ensures p.1 p.6 in
    rw c.deref.ensures.value (lens_limits c.in-Some.form l.0 c.in_ok-lens.lens.items l.2).0

pub scan_views-requires-clause-few : goal.scan_views-requires-clause-few
scan_views-requires-clause-few c =
    let p = c.in-Some.ensures c.requires.0 c.requires.1 in
    let l = c.in_ok-lens.ensures p.1 p.6 in
    rw c.deref.ensures.value (lens_limits c.in-Some.form l.0 c.in_ok-lens.lens.items l.2).1

pub overflow_cast-len : goal.overflow_cast-len
overflow_cast-len c =
    let p = c.in-Some.ensures c.requires.0 c.requires.1 in
    let a = c.in_ok-scripts.ensures p.0 p.5 in omega (arith, a.2.2.1, c.len.ensures)

pub setup_by_parts-requires-clause-plan : goal.setup_by_parts-requires-clause-plan
setup_by_parts-requires-clause-plan c =
    let p = c.in-Some.ensures c.requires.0 c.requires.1 in
    let a = c.in_ok-scripts.ensures p.0 p.5 in
    let l = c.in_ok-lens.ensures p.1 p.6 in
    let v = c.in_ok-views.ensures.read p.3 p.8 in
    makes_plan c.in-Some.form l.0 c.in_ok-lens.lens.items v.2.0 a.2.0 c.in_ok-views.views c.in_ok-views.plan_views.items
    c.in_ok-scripts.scripts.items l.2 (rw c.deref.ensures.value at v.2.2)
    (rw c.deref.ensures.value at c.in_ok-views.ensures.made) a.2.2

pub returns : goal.returns
returns c = λ j begins.
    let p = c.in-Some.ensures j begins in
    let a = c.in_ok-scripts.ensures p.0 p.5 in
    let l = c.in_ok-lens.ensures p.1 p.6 in
    let s = c.in_ok-schedule.ensures p.2 p.7 in
    let v = c.in_ok-views.ensures.read p.3 p.8 in
    let count : c.len.result ≡ length c.in_ok-scripts.scripts.items = omega (arith, c.len.ensures) in (
      script_object c.in-Some.form a.0 l.0 s.0 v.0,
      script_read c.in-Some.form 4 j p.0 p.1 p.2 p.3 a.0 l.0 s.0 v.0 p.4 a.1 (l.1.0, omega (arith, l.1.1)) (s.1.0, omega (arith, s.1.1))
          (v.1.0, omega (arith, v.1.1)),
      rw c.setup_by_parts.ensures (record {
        form = c.in-Some.form;
        agent_trees = a.2.0;
        lens_tree = l.0;
        move_trees = s.2.0;
        view_trees = v.2.0;
        tree = λ i. script_object c.in-Some.form (a.2.1 i) l.0 (s.2.1 i) (v.2.1 i);
        lens = l.2;
        views = rw c.deref.ensures.value at v.2.2;
        described = rw c.deref.ensures.value at c.in_ok-views.ensures.made;
        agents = a.2.2;
        schedule = rw count at s.2.2;
      }),
    )

use Rattle.std.proofs.Common.{◌≡◌, ◌≤◌, ◌+◌, get_or, refl, sym, ap, ◌∙◌, subst, arith}
use Rattle.sab_refusal.specs.Syntax.Stop.{stop_of}
use Rattle.sab_refusal.proofs.OfSyntax.Walks.{walk_at, walk_broken, walk_slip, walk_on, walk_past, walk_end}
use Rattle.sab_refusal.proofs.syntax.stop.walk.Goals as goal
use Rattle.sab_refusal.proofs.syntax.stop.walk.Goals.{then-is_between, else-is_between}

pub returns-then-breaks-clause-place : goal.returns-then-breaks-clause-place
returns-then-breaks-clause-place c =
    let text = c.args.text.now in
    let at = c.bytes.at in
    walk_broken text c.broken_at-broken.result c.bytes.reader c.bytes.start at (get_or text at 0)
    (stop_of text) c.bytes-test.true refl
    c.bytes.invariant.stops (sym c.breaks.ensures ∙ c.if-breaks.true)

pub returns-in-Err-clause-place : goal.returns-in-Err-clause-place
returns-in-Err-clause-place c =
    let text = c.args.text.now in
    let at = c.bytes.at in
    c.stop_at.ensures.place
    ∙ walk_slip text c.broken_at-broken.result c.bytes.reader c.bytes.start at (get_or text at 0)
    (stop_of text) c.in-Err.slip c.bytes-test.true refl
    c.bytes.invariant.stops (sym c.breaks.ensures ∙ c.if-breaks.false) c.in-Err.ensures

pub bytes-preserved : goal.bytes-preserved
bytes-preserved c =
    let text = c.args.text.now in
    let at = c.bytes.at in
    let begun = c.bytes.invariant.begun in
    elim c.if-is_between.branch [
      | then-is_between w ↦ record {
        stops =
            subst (λ n. walk_at text c.broken_at-broken.result c.take.new.self n (at + 1)
            ≡ stop_of text) (sym w.start-is)
            (walk_past text c.broken_at-broken.result c.bytes.reader c.bytes.start at (get_or text at 0)
            (stop_of text) c.take.new.self c.bytes-test.true refl
            c.bytes.invariant.stops (sym c.breaks.ensures
            ∙ c.if-breaks.false) c.in-Ok.ensures (sym c.is_between.ensures ∙ w.if-is_between.true));
        begun = omega (arith, w.start-is);
      }
      | else-is_between w ↦ record {
        stops =
            subst (λ n. walk_at text c.broken_at-broken.result c.take.new.self n (at + 1)
            ≡ stop_of text) (sym w.start-is)
            (walk_on text c.broken_at-broken.result c.bytes.reader c.bytes.start at (get_or text at 0)
            (stop_of text) c.take.new.self begun c.bytes-test.true refl
            c.bytes.invariant.stops (sym c.breaks.ensures
            ∙ c.if-breaks.false) c.in-Ok.ensures (sym c.is_between.ensures ∙ w.if-is_between.false));
        begun = omega (arith, w.start-is);
      }
    ]

pub returns-clause-place : goal.returns-clause-place
returns-clause-place c =
    let text = c.args.text.now in
    walk_end text c.broken_at-broken.result c.bytes.reader c.bytes.start c.bytes.at (stop_of text) (omega
    (arith, c.bytes.auto.at-end, c.bytes-test.false)) c.bytes.invariant.stops

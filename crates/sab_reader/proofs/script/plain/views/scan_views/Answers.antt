use Rattle.std.proofs.Common.{ℕ, List, [], ◌∷◌, sym, arith, length-append}
use Rattle.sab_reader.specs.declared.script.view_spec.ViewSpec.{ViewSpec}
use Rattle.sab_reader.specs.Script.Views.{SpellsView}
use Rattle.sab_reader.proofs.OfScript.Described.{described_more}
use Rattle.sab_reader.proofs.OfScript.Tokens.{holds_by, items_none, items_more, items_all}
use Rattle.sab_reader.proofs.OfScript.ViewNames.{none_are_views}
use Rattle.sab_reader.proofs.script.plain.views.scan_views.Goals as goal

pub loop-item-init : goal.loop-item-init
loop-item-init c = rw (c.new-views.ensures, c.new-plan_views.ensures.items) (record {
  read = items_none 1 (SpellsView c.args.form c.args.lens.now) c.args.element.now c.in-Some.items c.in-Some.ensures;
  views = none_are_views;
  made = tt;
  filled = sym c.new-plan_views.ensures.len;
})

pub loop-item-preserved : goal.loop-item-preserved
loop-item-preserved c =
    let S = SpellsView c.args.form c.args.lens.now in
    let found = c.in-Some-scan_view in
    let view : List ℕ × ViewSpec = (found.name.now, found.spec) in
    let added = c.in_ok-add.ensures.added in
    record {
      read =
          rw added (items_more 1 S c.args.element.now c.loop-item.items c.in-Some-next.item c.next.new.self
          c.loop-item.views view c.in-Some-next.ensures.value found.ensures.read c.loop-item.invariant.read);
      views = c.in_ok-add.ensures.views;
      made =
          rw (added, c.in_default-push.ensures.items) (described_more c.args.lens.now c.loop-item.views
          c.loop-item.plan_views.items view found.plan_view c.loop-item.invariant.made found.ensures.made);
      filled =
          rw added (omega (
            arith,
            length-append c.loop-item.views (view ∷ []),
            c.in_default-push.ensures.len,
            c.loop-item.invariant.filled,
          ));
    }

pub returns-clause-read : goal.returns-clause-read
returns-clause-read c =
    holds_by c.args.element.now
    (λ d h. (h.0, h.1, record { each = h.2; views = c.loop-item.invariant.views }))
    (items_all 1 (SpellsView c.args.form c.args.lens.now) c.args.element.now c.loop-item.items c.next.new.self c.loop-item.views
    c.in_default-next.ensures.value c.loop-item.invariant.read)

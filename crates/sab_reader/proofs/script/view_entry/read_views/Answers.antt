use Rattle.std.proofs.lemmas.Grind.{common_steps}
use Rattle.std.proofs.Common.{◌≡◌, ℕ, List, [], ◌∷◌, arith, true, is_some, ap, length-append}
use Rattle.serde_json.specs.View.{view, items_view}
use Rattle.sab_reader.specs.declared.script.view_spec.ViewSpec.{ViewSpec}
use Rattle.sab_reader.specs.Script.Views.{SpellsView, SpellsViews}
use Rattle.sab_reader.proofs.OfScript.Described.{described_more}
use Rattle.sab_reader.proofs.OfScript.Each.{length-each, item_part, each_more, each_all}
use Rattle.sab_reader.proofs.OfScript.ViewNames.{twice_by}
use Rattle.sab_reader.proofs.OfScript.Refusing.{exit_refuses}
use Rattle.sab_reader.proofs.OfScript.KnownViews.{stand_more, IsViewsReported, many_reported, one_reported, twice_reported}
use Rattle.sab_reader.specs.Script.Truth.{IsStart}
use Rattle.sab_reader.proofs.OfScript.Exits.{exit_reported}
use Rattle.sab_reader.proofs.script.view_entry.read_views.Goals as goal

pub returns-then-trees-gt-MAX_VIEWS-clause-read : goal.returns-then-trees-gt-MAX_VIEWS-clause-read
returns-then-trees-gt-MAX_VIEWS-clause-read c = λ vs h.
    let count =
    length-each (SpellsView c.args.form c.args.lens.now) c.args.trees.now vs h.each in omega (arith, h.views.few)

pub returns-in_err-name-clause-read : goal.returns-in_err-name-clause-read
returns-in_err-name-clause-read c =
    let S = SpellsView c.args.form c.args.lens.now in
    exit_refuses (λ p. p.0) (S (view c.tree-item.result))
    (SpellsViews c.args.form c.args.lens.now (items_view c.args.trees.now)) c.from_residual-in_err-name.result
    c.in_err-name.field-0.0
    c.from_residual-in_err-name.ensures.1 c.in_err-name.ensures.read
    (λ vs h. item_part S c.args.trees.now vs c.loop-tree.tree-index c.tree-item.result c.loop-tree-test.true
    c.tree-item.is h.each)

pub returns-in-Some-clause-read : goal.returns-in-Some-clause-read
returns-in-Some-clause-read c =
    let some : is_some c.position.result ≡ true = ap is_some c.in-Some.is in
    twice_by c.args.form c.args.lens.now c.args.trees.now c.loop-tree.tree-index c.tree-item.result
    c.in_ok-name.name.now c.in_ok-name.spec c.loop-tree.views c.position.result c.loop-tree-test.true c.tree-item.is
    c.loop-tree.invariant.read c.in_ok-name.ensures.read c.position.ensures.some some

pub returns-clause-read : goal.returns-clause-read
returns-clause-read c = grind (arith, common_steps, each_all, c.loop-tree.invariant.read, c.loop-tree.invariant.views)

pub loop-tree-preserved : goal.loop-tree-preserved
loop-tree-preserved c =
    let S = SpellsView c.args.form c.args.lens.now in
    let view : List ℕ × ViewSpec = (c.in_ok-name.name.now, c.in_ok-name.spec) in
    let added = c.in_ok-add.ensures.added in
    record {
      read =
          rw added (each_more S c.args.trees.now c.loop-tree.tree-index c.loop-tree.views c.tree-item.result view
          c.loop-tree-test.true c.tree-item.is c.loop-tree.invariant.read c.in_ok-name.ensures.read);
      there =
          rw added (stand_more S c.args.trees.now c.loop-tree.tree-index c.loop-tree.views c.tree-item.result view
          c.loop-tree-test.true c.tree-item.is c.loop-tree.invariant.count c.loop-tree.invariant.there
          c.in_ok-name.ensures.read);
      count = rw added (omega (arith, length-append c.loop-tree.views (view ∷ []), c.loop-tree.invariant.count));
      views = c.in_ok-add.ensures.views;
      made =
          rw (added, c.push_reserved.ensures.items) (described_more c.args.lens.now c.loop-tree.views
          c.loop-tree.plan_views.items view c.in_ok-name.plan_view c.loop-tree.invariant.made
          c.in_ok-name.ensures.made);
      filled = omega (arith, c.push_reserved.ensures.len, c.loop-tree.invariant.filled);
      room = omega (arith, c.push_reserved.ensures.capacity, c.loop-tree.invariant.room);
    }

pub returns-then-trees-gt-MAX_VIEWS-clause-reported : goal.returns-then-trees-gt-MAX_VIEWS-clause-reported
returns-then-trees-gt-MAX_VIEWS-clause-reported c =
    many_reported c.args.form c.args.lens.now c.args.at c.args.trees.now c.if-trees-gt-MAX_VIEWS.true

pub returns-in_err-name-clause-reported : goal.returns-in_err-name-clause-reported
returns-in_err-name-clause-reported c =
    let e = c.in_err-name.field-0.0 in
    exit_reported (IsViewsReported c.args.form c.args.lens.now c.args.at (items_view c.args.trees.now))
    c.from_residual-in_err-name.result e c.from_residual-in_err-name.ensures.1
    (one_reported c.args.form c.args.lens.now c.args.at c.item-at_view.result c.args.trees.now c.loop-tree.tree-index
    c.len.result c.tree-item.result e c.item-at_view.ensures
    (omega (arith, c.len.ensures, c.loop-tree.invariant.filled)) c.loop-tree-test.true c.tree-item.is
    c.in_err-name.ensures.reported)

pub returns-in-Some-clause-reported : goal.returns-in-Some-clause-reported
returns-in-Some-clause-reported c =
    let start : IsStart c.of.result c.in_ok-name.name.now =
    record { bytes = c.of.ensures.bytes; cut = c.of.ensures.cut } in
    twice_reported c.args.form c.args.lens.now c.args.at c.item-at_view.result c.member-at.result c.args.trees.now
    c.loop-tree.tree-index c.len.result c.tree-item.result c.in_ok-name.name.now c.in_ok-name.spec c.loop-tree.views
    c.in-Some.other c.of.result c.item-at_view.ensures (omega (arith, c.len.ensures, c.loop-tree.invariant.filled))
    c.member-at.ensures c.loop-tree-test.true c.tree-item.is c.loop-tree.invariant.count c.loop-tree.invariant.there
    c.in_ok-name.ensures.read c.in-Some.ensures.some start

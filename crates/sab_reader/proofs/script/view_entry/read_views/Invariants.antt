use Rattle.std.proofs.Common.{◌≡◌, ◌≤◌, length, vec_len, vec_capacity}
use Rattle.sab_reader.specs.Script.Views.{SpellsView, AreViews, AreDescribed}
use Rattle.serde_json.specs.View.{items_view}
use Rattle.sab_reader.proofs.OfScript.Each.{EachSoFar}
use Rattle.sab_reader.proofs.OfScript.KnownViews.{StandSoFar}
use Rattle.sab_reader.proofs.script.view_entry.read_views.Given as goal

abbrev pub invariant-loop-tree : goal.invariant-loop-tree
invariant-loop-tree l = record {
  read : EachSoFar (SpellsView l.form l.lens) l.trees l.tree-index l.views;
  there : StandSoFar (SpellsView l.form l.lens) (items_view l.trees) l.views;
  count : length l.views ≡ l.tree-index;
  views : AreViews l.views;
  made : AreDescribed l.lens l.views l.plan_views.items;
  filled : vec_len l.plan_views ≡ l.tree-index;
  room : length l.trees ≤ vec_capacity l.plan_views;
}

use Rattle.std.proofs.Common.{◌≡◌, length, vec_len}
use Rattle.sab_reader.specs.Script.Views.{SpellsView, AreViews, AreDescribed}
use Rattle.sab_reader.proofs.OfScript.Tokens.{ItemsSoFar}
use Rattle.sab_reader.proofs.script.plain.views.scan_views.Given as goal

abbrev pub invariant-loop-item : goal.invariant-loop-item
invariant-loop-item l = record {
  read : ItemsSoFar 1 (SpellsView l.form l.lens) l.element l.items l.views;
  views : AreViews l.views;
  made : AreDescribed l.lens l.views l.plan_views.items;
  filled : length l.views ≡ vec_len l.plan_views;
}

abbrev pub decreases-loop-item : goal.decreases-loop-item
decreases-loop-item l = length l.items

-- The keys of the map are the names.
use Rattle.std.proofs.Common.{◌∙◌, map, ap, rules}
use Rattle.std.specs.Prelude.{string_bytes}
use Rattle.sab_reader.specs.Script.Views.{view_names}
use Rattle.sab_replay.proofs.OfReport.ViewNames.{IsShort, names_of_keys, holds_next}
use Rattle.sab_replay.proofs.report.names.names_of.Goals as goal

pub loop-name-init : goal.loop-name-init
loop-name-init c = record {
  next = tt;
  finite = tt;
  named =
      rw (
        c.in_ok-names.ensures.items,
        c.into_iter-name-iterator.ensures.into_iter_gives,
        c.keys-name-items.ensures.rest,
      )
      (names_of_keys c.views-views.result.now ∙ ap view_names c.views-views.ensures.views);
  room = search rules;
}

pub new-requires : goal.new-requires
new-requires c =
    let named = rw c.in-Some.ensures.steps at c.loop-name.invariant.named in
    rw c.as_bytes.ensures.value (holds_next IsShort c.loop-name.names.items _
    (map string_bytes c.next.new.self) (rw named c.requires))

use Rattle.std.proofs.Common.{◌≡◌, false, bytes_eq, is_lt, nat_cmp, refl, ap}
use Rattle.std.specs.Prelude.{string_bytes}
use Rattle.std.specs.Cmp.Lexicographic.{slice_cmp}
use Rattle.serde_json.specs.View.{members_view}
use Rattle.sab_refusal.specs.Location.{member_name}
use Rattle.sab_reader.proofs.OfScript.Ordered.{none_from_first, before_from_tests}
use Rattle.sab_reader.proofs.script.tree.member.Goals as goal
use Rattle.sab_reader.proofs.script.tree.member.Goals.{in_default-via-in-Some-2+else-lt, in_default-via-in_default}

pub returns-in_default-clause-lacks : goal.returns-in_default-clause-lacks
returns-in_default-clause-lacks c = elim c.in_default.branch [
  | in_default-via-in-Some-2+else-lt w ↦ (λ order.
      let found = string_bytes w.in-Some-2.found.now in
      let name = member_name c.args.name in
      let first = ap members_view w.in-Some-2.ensures.steps in
      let other : bytes_eq found name ≡ false = cc in
      let late : is_lt (slice_cmp nat_cmp found name) ≡ false = cc in
      (refl, rw first (none_from_first name found _ _ (before_from_tests found name other late) (rw first at order))))
  | in_default-via-in_default w ↦ (λ order. (refl, rw w.in_default.ensures.steps.0 refl))
]

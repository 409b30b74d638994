-- Events, races and refusals that `==` finds equal are the same.
use Rattle.std.proofs.Common.{◌≡◌, ℕ, true, Option, Some, None, refl, ap, subst, rules, arith}
use Rattle.std.proofs.lemmas.Grind.{common_steps}
use denote.Enum.Bare.{same_true}
use Rattle.std.specs.Cmp.{booleans_Decides}
use Rattle.std.specs.Option.{option_eq}
use Rattle.std.proofs.Math.Dec.{eqb}
use Rattle.std.proofs.lemmas.Bool.{false≢true, and_parts, eqb-true}
use Rattle.sab_judge.specs.declared.place.Place.{Place}
use Rattle.sab_judge.proofs.Lists.{some_is_some}
use Rattle.sab_judge.specs.declared.order.Order.{Order}
use Rattle.sab_judge.specs.declared.order.Order.TheVariants.{Unordered, SeqCst}
use Rattle.sab_judge.specs.declared.access.Access.{Access}
use Rattle.sab_judge.specs.declared.event.Event.{Event}
use Rattle.sab_judge.specs.declared.race.Race.{Race}
use Rattle.sab_judge.specs.declared.trace_fault.TraceFault.{TraceFault}
use Rattle.sab_judge.specs.contracts.place.PlacePartialEq.TheImpl as place
use Rattle.sab_judge.specs.contracts.order.OrderPartialEq.TheImpl as order
use Rattle.sab_judge.specs.contracts.access.AccessPartialEq.TheImpl as access
use Rattle.sab_judge.specs.contracts.access.AccessEq.TheImpl.Laws as access_laws
use Rattle.sab_judge.specs.contracts.event.EventPartialEq.TheImpl as event
use Rattle.sab_judge.specs.contracts.race.RacePartialEq.TheImpl as race
use Rattle.sab_judge.specs.contracts.trace_fault.TraceFault.{the_type as trace_fault_type}
use Rattle.sab_judge.specs.contracts.trace_fault.TraceFaultPartialEq.TheImpl as trace_fault

same_place_value : (a b : Place) → (place.ghosts).eq a b ≡ true → a ≡ b
same_place_value a b e = grind (arith, common_steps, and_parts, eqb-true)

same_order : (a b : Order) → (order.ghosts).eq a b ≡ true → a ≡ b
same_order Unordered Unordered e = refl
same_order SeqCst SeqCst e = refl
same_order _ _ e = absurd (false≢true e)

pub same_access : (a b : Access) → (access.ghosts).eq a b ≡ true → a ≡ b
same_access a b e = grind (arith, common_steps, and_parts, same_place_value, eqb-true, booleans_Decides, same_order)

pub access_itself : (a b : Access) → a ≡ b → (access.ghosts).eq a b ≡ true
access_itself a b e = subst (λ (x : Access). (access.ghosts).eq a x ≡ true) e (access_laws.laws-law.refl a)

pub same_option_access : (x y : Option Access) → option_eq (access.ghosts).eq x y ≡ true → x ≡ y
same_option_access None None e = refl
same_option_access None (Some b) e = absurd (false≢true e)
same_option_access (Some a) None e = absurd (false≢true e)
same_option_access (Some a) (Some b) e = ap Some (same_access a b e)

pub option_access_itself : (x y : Option Access) → x ≡ y → option_eq (access.ghosts).eq x y ≡ true
option_access_itself None None e = refl
option_access_itself None (Some b) e = absurd (cc)
option_access_itself (Some a) None e = absurd (cc)
option_access_itself (Some a) (Some b) e = access_itself a b (some_is_some a b e)

same_option_place : (x y : Option Place) → option_eq (place.ghosts).eq x y ≡ true → x ≡ y
same_option_place None None e = refl
same_option_place None (Some b) e = absurd (false≢true e)
same_option_place (Some a) None e = absurd (false≢true e)
same_option_place (Some a) (Some b) e = ap Some (same_place_value a b e)

same_option_number : (x y : Option ℕ) → option_eq eqb x y ≡ true → x ≡ y
same_option_number None None e = refl
same_option_number None (Some b) e = absurd (false≢true e)
same_option_number (Some a) None e = absurd (false≢true e)
same_option_number (Some a) (Some b) e = ap Some (eqb-true a b e)

pub same_event : (a b : Event) → (event.ghosts).eq a b ≡ true → a ≡ b
same_event a b e = grind (arith, common_steps, and_parts, eqb-true, same_option_access, same_option_place)

pub same_race : (a b : Race) → (race.ghosts).eq a b ≡ true → a ≡ b
same_race a b e = grind (arith, common_steps, and_parts, eqb-true, booleans_Decides, same_option_number)

pub same_trace_fault : (a b : TraceFault) → (trace_fault.ghosts).eq a b ≡ true → a ≡ b
same_trace_fault = same_true trace_fault_type (search rules)

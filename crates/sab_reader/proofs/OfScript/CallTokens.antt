-- A call, by what the tokens of its parts hold.
use Rattle.std.proofs.Common.{◌≡◌, ◌≤◌, ℕ, ℤ, List, Some, refl, ap, ◌∙◌, arith}
use Rattle.std.specs.Prelude.{slice_get, option_map}
use Rattle.json.specs.Token.{Token}
use Rattle.json.specs.Json as text
use Rattle.json.specs.Tree.{items_depth}
use Rattle.json.specs.Find.{BeginsWith, InItems}
use Rattle.serde_json.specs.Data.{string, array, item}
use Rattle.serde_json.specs.Read.{of_json}
use Rattle.sab_plan.specs.declared.call.Call.{Call}
use Rattle.sab_reader.specs.Script.Calls.{spelling_of, SpellsParts, SpellsCall}
use Rattle.sab_reader.specs.Script.Numbers.{SpellsWhole}
use Rattle.sab_reader.proofs.OfScript.Tokens.{item_read, shallow, items_shallow}
use Rattle.sab_reader.specs.Script.Plain.{HoldsTree, HoldsItems, HoldsNext}

pub call_reported : (names : List (List ℕ)) (ts at_name at_view at_index rest : List Token) (name view_name : List ℕ) (v : ℕ)
    (z : ℤ) (c : Call)
    → ((j : text.Json) → BeginsWith ts j → (js : text.Items) × (j ≡ text.array js) × InItems at_name js)
    → HoldsNext 0 (λ d. d ≡ string name) at_name at_view → HoldsNext 0 (λ d. d ≡ string view_name) at_view at_index
    → HoldsNext 0 (λ d. SpellsWhole d z) at_index rest → slice_get names v ≡ Some view_name
    → HoldsItems 0 (λ ds. SpellsParts name v z ds (spelling_of c)) rest → HoldsTree 1 (λ d. SpellsCall names d c) ts
call_reported names ts at_name at_view at_index rest name view_name v z c is first second third there behind = λ j begins.
    let a = is j begins in
    let n = first a.0 a.2 in
    let w = second n.1 n.4 in
    let i = third w.1 w.4 in
    let m = behind i.1 i.4 in
    let behind_view : items_depth w.1 ≤ 0 = items_shallow i.2 (omega (arith, i.3.1.1, m.1.1)) in
    let behind_name : items_depth n.1 ≤ 0 = items_shallow w.2 (omega (arith, w.3.1.1, behind_view)) in
    let flat : items_depth a.0 ≤ 0 = items_shallow n.2 (omega (arith, n.3.1.1, behind_name)) in (
      array (item n.3.0 (item w.3.0 (item i.3.0 m.0))),
      (
        ap of_json a.1 ∙ ap (option_map array) (item_read a.0 n.1 n.0 n.3.0 _ n.2 n.3.1.0
            (item_read n.1 w.1 w.0 w.3.0 _ w.2 w.3.1.0 (item_read w.1 i.1 i.0 i.3.0 m.0 i.2 i.3.1.0 m.1.0))),
        shallow a.1 (omega (arith, flat)),
      ),
      record {
        view_tree = w.3.0;
        argument_trees = m.0;
        tree = rw (n.3.2, i.3.2.0, m.2.name, m.2.index) refl;
        view = record { text = view_name; tree = w.3.2; there = rw (← m.2.view) there };
        index = rw (← m.2.index) i.3.2.1;
        arguments = m.2.arguments;
      },
    )

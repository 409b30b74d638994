-- A tree spells one call at most.
use Rattle.std.proofs.Common.{◌≡◌, ℕ, ℤ, List, [], ◌∷◌, Option, Some, None, refl, sym, ap, ◌∙◌}
use Rattle.std.specs.List.{IsDistinct}
use Rattle.std.specs.Str.{bytes_eq}
use Rattle.serde_json.specs.Data.{Data, Items, no_items, item}
use Rattle.sab_block.specs.declared.operand.Operand.{Operand}
use Rattle.sab_block.specs.declared.access.Access.TheVariants.{Store, Rmw, CompareExchange}
use Rattle.sab_plan.specs.declared.argument.Argument.TheVariants.{Value}
use Rattle.sab_plan.specs.declared.call.Call.{Call}
use Rattle.sab_plan.specs.declared.call.Call.TheVariants.{Access as ToAccess, Wait, Notify}
use Rattle.sab_plan.specs.Call.{optional}
use Rattle.sab_reader.specs.Script.Calls.{spelling_of, SpellsArguments, SpellsCall}
use Rattle.sab_reader.proofs.OfScript.CallParts.{Verb, load, store, rmw, compare_exchange, wait, notify, verb_of, IsCallOf, named_call}
use Rattle.sab_reader.proofs.OfScript.OneOperand.{same_operand}
use Rattle.sab_reader.proofs.OfScript.WholeCall.{same_whole, parts_of_whole}

same_one : (ds : Items) (x y : Operand) → SpellsArguments ds (Value x ∷ []) → SpellsArguments ds (Value y ∷ [])
    → x ≡ y
same_one no_items x y p q = absurd p
same_one (item d ds) x y p q = same_operand d x y p.0 q.0

same_two : (ds : Items) (x y : Operand × Operand) → SpellsArguments ds (Value x.0 ∷ Value x.1 ∷ [])
    → SpellsArguments ds (Value y.0 ∷ Value y.1 ∷ []) → x ≡ y
same_two no_items x y p q = absurd p
same_two (item d ds) x y p q =
    let first = same_operand d x.0 y.0 p.0 q.0 in
    let second = same_one ds x.1 y.1 p.1 q.1 in
    λ k. (first k, second k)

same_limit : (ds : Items) (s t : Option ℤ) → SpellsArguments ds (optional s) → SpellsArguments ds (optional t)
    → s ≡ t
same_limit no_items None None p q = refl
same_limit no_items None (Some z) p q = absurd q
same_limit no_items (Some y) t p q = absurd p
same_limit (item d ds) None t p q = absurd p
same_limit (item d ds) (Some y) None p q = absurd q
same_limit (item d ds) (Some y) (Some z) p q = ap (λ (x : ℤ). Some x) (same_whole y z (sym p.0.0 ∙ q.0.0))

same_timed : (ds : Items) (x y : Operand × Option ℤ) → SpellsArguments ds (Value x.0 ∷ optional x.1)
    → SpellsArguments ds (Value y.0 ∷ optional y.1) → x ≡ y
same_timed no_items x y p q = absurd p
same_timed (item d ds) x y p q =
    let first = same_operand d x.0 y.0 p.0 q.0 in
    let last = same_limit ds x.1 y.1 p.1 q.1 in
    λ k. (first k, last k)

-- a verb, a view, an index and items make one call at most
only_call : (w : Verb) (v : ℕ) (i : ℤ) (ds : Items) (c e : Call) → IsCallOf w v i ds c → IsCallOf w v i ds e
    → c ≡ e
only_call load v i ds c e p q = p.1 ∙ sym q.1
only_call store v i ds c e p q =
    p.2 ∙ ap (λ (x : Operand). ToAccess v (Store i x)) (same_one ds p.0 q.0 p.1 q.1) ∙ sym q.2
only_call (rmw op) v i ds c e p q =
    p.2 ∙ ap (λ (x : Operand). ToAccess v (Rmw op i x)) (same_one ds p.0 q.0 p.1 q.1) ∙ sym q.2
only_call compare_exchange v i ds c e p q =
    let both = same_two ds p.0 q.0 p.1 q.1 in
    p.2 ∙ ap (λ (x : Operand × Operand). ToAccess v (CompareExchange i x.0 x.1)) both ∙ sym q.2
only_call wait v i ds c e p q =
    p.2 ∙ ap (λ (x : Operand × Option ℤ). Wait v i x.0 x.1) (same_timed ds p.0 q.0 p.1 q.1) ∙ sym q.2
only_call notify v i ds c e p q =
    p.2 ∙ ap (λ (n : Option ℤ). Notify v i n) (same_limit ds p.0 q.0 p.1 q.1) ∙ sym q.2

pub same_call : (names : List (List ℕ)) → IsDistinct bytes_eq names → (d : Data) (c e : Call) → SpellsCall names d c
    → SpellsCall names d e → c ≡ e
same_call names distinct d c e p q =
    let s = spelling_of c in
    let parts = parts_of_whole names d p.view_tree s.name s.view s.index p.argument_trees in
    let one = named_call s.name s.view s.index p.argument_trees c (parts s distinct p.tree p.view p) in
    let other = named_call s.name s.view s.index p.argument_trees e (parts (spelling_of e) distinct p.tree p.view q) in
    only_call (verb_of s.name) s.view s.index p.argument_trees c e one other

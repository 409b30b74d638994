-- The reasons that are given about a call are true.
use Rattle.std.proofs.Common.{◌≡◌, ℕ, ◌+◌, ◌≤◌, pos, List, [], ◌∷◌, length, take, codes, false, Some, None, refl, ap, ◌∙◌, subst, arith}
use Rattle.std.proofs.lemmas.Grind.{common_steps}
use Rattle.std.proofs.lemmas.List.{length-map}
use Rattle.serde_json.specs.Data.{Data, string, array, Items, item}
use Rattle.serde_json.specs.Find.{get_item}
use Rattle.sab_block.specs.declared.access.Access.TheVariants.{Load, Store, Rmw, CompareExchange}
use Rattle.sab_block.specs.declared.operand.Operand.{Operand}
use Rattle.sab_block.specs.declared.rmw_op.RmwOp.{RmwOp}
use Rattle.sab_block.specs.Operand.{operand_of}
use Rattle.sab_block.specs.RmwOp.{function_of_op}
use Rattle.sab_plan.specs.declared.call.Call.{Call}
use Rattle.sab_plan.specs.declared.call.Call.TheVariants.{Access as ToAccess, Wait, Notify}
use Rattle.sab_refusal.specs.Location.{item_at}
use Rattle.sab_refusal.specs.declared.location.Location.{Location}
use Rattle.sab_refusal.specs.declared.location.Location.TheVariants as at
use Rattle.sab_refusal.specs.declared.member.Member.TheVariants as M
use Rattle.sab_refusal.specs.declared.reason.Wanted.{Wanted}
use Rattle.sab_refusal.specs.declared.reason.Wanted.TheVariants as wanted
use Rattle.sab_reader.specs.Script.Calls.{spelling_of}
use Rattle.sab_reader.specs.Script.Places.{item_of, argument_type, Stands}
use Rattle.sab_reader.specs.Script.Known.{HasArguments}
use Rattle.sab_reader.specs.Script.Truth.{elements_of}
use Rattle.sab_reader.specs.Script.Arguments.{types_of, HasCall, TakesFrom, TakesJust, TakesTimed}
use Rattle.sab_reader.proofs.OfScript.CallParts.{Verb, load, store, rmw, compare_exchange, wait, notify, verb_of, op_verb}

-- how many arguments a call has at least, and at most
abbrev least_of : Verb → ℕ
least_of load = 0
least_of store = 1
least_of (rmw op) = 1
least_of compare_exchange = 2
least_of wait = 1
least_of notify = 0

abbrev most_of : Verb → ℕ
most_of load = 0
most_of store = 1
most_of (rmw op) = 1
most_of compare_exchange = 2
most_of wait = 2
most_of notify = 1

abbrev IsWithin : List ℕ → ℕ → Type 0
IsWithin name n = (least_of (verb_of name) ≤ n) × (n ≤ most_of (verb_of name))

within : (call : Call) → IsWithin (spelling_of call).name (length (types_of call))
within (ToAccess v (Load i)) = (omega arith, omega arith)
within (ToAccess v (Store i x)) = (omega arith, omega arith)
within (ToAccess v (Rmw op i x)) = rw (op_verb op) (omega arith, omega arith)
within (ToAccess v (CompareExchange i x y)) = (omega arith, omega arith)
within (Wait v i x None) = (omega arith, omega arith)
within (Wait v i x (Some t)) = (omega arith, omega arith)
within (Notify v i None) = (omega arith, omega arith)
within (Notify v i (Some n)) = (omega arith, omega arith)

-- the calls of a name take such arguments if there are a shortest and a longest one
takes_by : (name : List ℕ) (verb : Verb) (types : List Wanted) → verb_of name ≡ verb → length types ≡ most_of verb
    → HasCall name (take (least_of verb) types) → HasCall name types → TakesFrom name (least_of verb) types
takes_by name verb types is count shortest longest = grind (arith, common_steps, spelling_of, length, types_of, within)

-- some operand
abbrev nought : Operand
nought = operand_of false (pos 0)

pub takes_load : TakesJust (codes "load") []
takes_load =
    let one = ToAccess 0 (Load (pos 0)) in
    takes_by (codes "load") load [] refl refl (one, refl, refl) (one, refl, refl)

pub takes_store : TakesJust (codes "store") (wanted.Operand ∷ [])
takes_store =
    let one = ToAccess 0 (Store (pos 0) nought) in
    takes_by (codes "store") store _ refl refl (one, refl, refl) (one, refl, refl)

pub takes_rmw : (op : RmwOp) → TakesJust (function_of_op op) (wanted.Operand ∷ [])
takes_rmw op =
    let one = ToAccess 0 (Rmw op (pos 0) nought) in
    takes_by (function_of_op op) (rmw op) _ (op_verb op) refl (one, refl, refl) (one, refl, refl)

pub takes_compare_exchange : TakesJust (codes "compareExchange") (wanted.Operand ∷ wanted.Operand ∷ [])
takes_compare_exchange =
    let one = ToAccess 0 (CompareExchange (pos 0) nought nought) in
    takes_by (codes "compareExchange") compare_exchange _ refl refl (one, refl, refl) (one, refl, refl)

pub takes_wait : TakesTimed (codes "wait") 1
takes_wait =
    let short = Wait 0 (pos 0) nought None in
    let long = Wait 0 (pos 0) nought (Some (pos 0)) in
    takes_by (codes "wait") wait _ refl refl (short, refl, refl) (long, refl, refl)

pub takes_notify : TakesTimed (codes "notify") 0
takes_notify =
    let short = Notify 0 (pos 0) None in
    let long = Notify 0 (pos 0) (Some (pos 0)) in
    takes_by (codes "notify") notify _ refl refl (short, refl, refl) (long, refl, refl)

-- an element of the array of a call
pub call_element : (root : Data) (place : Location) (i j k : ℕ) (ds : Items) (d : Data)
    → place ≡ at.Call M.Agents i M.Calls j → Stands root place (array ds) → get_item k ds ≡ Some d
    → Stands root (item_at place k) d
call_element root place i j k ds d is stands there =
    rw is (ap (item_of k) (subst (λ (p : Location). Stands root p (array ds)) is stands) ∙ there)

-- what stands behind its index
pub has_arguments : (root : Data) (place : Location) (i j : ℕ) (name : List ℕ) (a b d : Data) (rest : Items)
    → place ≡ at.Call M.Agents i M.Calls j → Stands root place (array (item a (item b (item d rest))))
    → a ≡ string name → HasArguments root place name rest
has_arguments root place i j name a b d rest is stands first = grind (arith, common_steps)

-- a call's elements are its arguments and three before them
count_of : (call : Call) → elements_of call ≡ 3 + length (types_of call)
count_of call = let same = length-map (spelling_of call).arguments argument_type in omega (arith, same)

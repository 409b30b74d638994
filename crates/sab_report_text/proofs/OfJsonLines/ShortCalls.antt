-- The calls of a plan whose Numbers are safe integers have short numbers.
use Rattle.std.proofs.Common.{◌≡◌, ℕ, Bool, true, false, List, [], ◌∷◌, Option, Some, None, IfSome, All, refl, sym, subst}
use Rattle.std.specs.Prelude.{slice_get, option_map}
use Rattle.std.proofs.lemmas.Option.{slice_get_within, get_or_from_slice_get, none-some}
use Rattle.std.proofs.lemmas.List.Elements.{All-head, All-tail, All-get_or}
use Rattle.sab_block.specs.declared.operand.Operand.{Operand}
use Rattle.sab_block.specs.Operand.{is_bigint, whole_of}
use Rattle.sab_plan.specs.declared.argument.Argument.{Argument}
use Rattle.sab_plan.specs.declared.argument.Argument.TheVariants.{Value, Limit}
use Rattle.sab_plan.specs.declared.call.Call.{Call}
use Rattle.sab_plan.specs.Call.{index_of, arguments_of}
use Rattle.sab_plan.specs.Script.{ScriptParts}
use Rattle.sab_plan.specs.Plan.{PlanParts, calls_in, call_of}
use Rattle.sab_report_text.specs.JsonLines.CallData.{whole_data, operand_data, argument_data, argument_items, call_data}
use Rattle.sab_report_text.specs.JsonLines.SafeNumbers.{IsSafeOperand, IsSafeArgument, IsSafeCall, HasSafeNumbers}
use Rattle.sab_report_text.proofs.OfJsonLines.ShortNumbers.{HasShortNumbers, ItemsHaveShortNumbers, safe_short}

-- what holds of all holds of the one at a position
pub All-at : {X : Type 0} (P : X → Type 0) (xs : List X) (k : ℕ) (x : X) → All P xs → slice_get xs k ≡ Some x → P x
All-at P xs k x all e =
    subst P (get_or_from_slice_get xs k x x e) (All-get_or P xs k x (slice_get_within xs k x e) all)

pub operand_short : (x : Operand) → IsSafeOperand x → HasShortNumbers (operand_data x)
unfolding operand_data
operand_short x safe = go (is_bigint x) refl
  where
    go : (big : Bool) → is_bigint x ≡ big → HasShortNumbers (whole_data big (whole_of x))
    go false e = safe_short (whole_of x) (safe e)
    go true e = tt

argument_short : (x : Argument) → IsSafeArgument x → HasShortNumbers (argument_data x)
argument_short (Value x) safe = operand_short x safe
argument_short (Limit n) safe = safe_short n safe

arguments_short : (xs : List Argument) → All IsSafeArgument xs → ItemsHaveShortNumbers (argument_items xs)
arguments_short [] safe = tt
arguments_short (x ∷ xs) safe =
    (argument_short x (All-head IsSafeArgument x xs safe), arguments_short xs (All-tail IsSafeArgument x xs safe))

pub call_short : (names : List (List ℕ)) (call : Call) → IsSafeCall call → HasShortNumbers (call_data names call)
unfolding call_data
call_short names call safe =
    (tt, (tt, (safe_short (index_of call) safe.index, arguments_short (arguments_of call) safe.arguments)))

-- each call of the plan is one
pub call_safe : (plan : PlanParts) (a c : ℕ) (call : Call) → HasSafeNumbers plan → call_of plan a c ≡ Some call
    → IsSafeCall call
call_safe plan a c call safe e = go (slice_get plan.scripts a) refl e
  where
    go : (o : Option ScriptParts) → slice_get plan.scripts a ≡ o → slice_get (calls_in o) c ≡ Some call
        → IsSafeCall call
    go None there e = absurd (none-some call e)
    go (Some s) there e =
        All-at IsSafeCall s.calls c call
        (All-at (λ (t : ScriptParts). All IsSafeCall t.calls) plan.scripts a s safe there) e

pub does_short : (names : List (List ℕ)) (plan : PlanParts) (a c : ℕ) (o : Option Call) → HasSafeNumbers plan
    → o ≡ call_of plan a c → IfSome (option_map (call_data names) o) HasShortNumbers
does_short names plan a c None safe e = tt
does_short names plan a c (Some call) safe e = call_short names call (call_safe plan a c call safe (sym e))

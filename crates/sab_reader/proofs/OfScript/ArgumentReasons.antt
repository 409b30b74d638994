-- The reasons that are given about the arguments of a call are true.
use Rattle.std.proofs.Common.{◌≡◌, ℕ, zero, suc, ◌+◌, ◌<◌, ◌≤◌, List, [], ◌∷◌, ◌++◌, length, map, get_or, drop, Some, None, Result, Ok, Err, refl, sym, ap, ◌∙◌, subst, arith, length-append}
use Rattle.std.proofs.lemmas.Grind.{common_steps}
use Rattle.std.proofs.lemmas.List.{length-replicate}
use Rattle.std.specs.Prelude.{slice_get, IfErr}
use Rattle.serde_json.specs.Data.{Data, string, Items, no_items, item}
use Rattle.serde_json.specs.Find.{get_item}
use Rattle.serde_json.specs.Events.{items_len}
use Rattle.serde_json.specs.View.{view, items_view}
use Rattle.serde_json.specs.declared.value.Value.{Value}
use Rattle.serde_json.proofs.Views.{get_item_within}
use Rattle.sab_block.specs.declared.access.Access.TheVariants.{Load, Store, Rmw, CompareExchange}
use Rattle.sab_plan.specs.declared.argument.Argument.{Argument}
use Rattle.sab_plan.specs.declared.call.Call.{Call}
use Rattle.sab_plan.specs.declared.call.Call.TheVariants.{Access as ToAccess, Wait, Notify}
use Rattle.sab_refusal.specs.Location.{item_at}
use Rattle.sab_refusal.specs.declared.location.Location.{Location}
use Rattle.sab_refusal.specs.declared.located.Located.{Located}
use Rattle.sab_refusal.specs.declared.reason.Wanted.{Wanted}
use Rattle.sab_refusal.specs.declared.reason.Wanted.TheVariants as wanted
use Rattle.sab_reader.specs.Script.Calls.{spelling_of}
use Rattle.sab_reader.specs.Script.Places.{argument_type, IsNamed, ElementIs, CallsFor, Stands}
use Rattle.sab_reader.specs.Script.Known.{IsNumberAs, HasArguments}
use Rattle.sab_reader.specs.Script.Arguments.{types_of, HasCall, operands, TakesTimed, StandBehind}

-- what is reported about the refusal of a part, where its result is the result
pub err_reported : {X : Type 0} (P Q : Located → Type 0) (r : Result X Located) → IfErr r P → ((e : Located) → P e → Q e)
    → IfErr r Q
err_reported P Q (Ok x) h more = tt
err_reported P Q (Err e) h more = more e h

-- what isn't a string is an operand just where it is a number
pub number_as_operand : (d : Data) → ((s : List ℕ) → d ≡ string s → ⊥) → IsNumberAs wanted.Operand d
number_as_operand d other = grind (arith, common_steps)

-- a value of a list
pub item_read : (ts : List Value) (k : ℕ) (t : Value) → k < length ts → t ≡ get_or ts k t
    → get_item k (items_view ts) ≡ Some (view t)
item_read ts k t lt e = sym (get_item_within ts k t lt) ∙ ap (λ (x : Value). Some (view x)) (sym e)

-- items behind so many of these
pub behind_count : (n : ℕ) (ds rest : Items) → StandBehind n ds rest → items_len ds ≡ n + items_len rest
behind_count zero ds rest h = rw h (omega arith)
behind_count (suc n) no_items rest h = absurd h
behind_count (suc n) (item d ds) rest h = let more = behind_count n ds rest h in omega (arith, more)

pub behind_read : (n : ℕ) (ds rest : Items) (d : Data) → StandBehind n ds rest → get_item 0 rest ≡ Some d
    → get_item n ds ≡ Some d
behind_read zero ds rest d h e = rw h e
behind_read (suc n) no_items rest d h e = absurd h
behind_read (suc n) (item c ds) rest d h e = behind_read n ds rest d h e

pub behind_first : (ts : List Value) → 1 ≤ length ts → StandBehind 1 (items_view ts) (items_view (drop 1 ts))
behind_first [] h = absurd (omega arith)
behind_first (t ∷ ts) h = refl

-- the element of a call that is this argument
pub argument_stands : (root : Data) (place : Location) (name : List ℕ) (ds : Items) (k : ℕ) (d : Data)
    → HasArguments root place name ds → get_item k ds ≡ Some d → Stands root (item_at place (3 + k)) d
argument_stands root place name ds k d h e = rw h.is_place (h.each k ∙ e)

argument_of_type : (arguments : List Argument) (k : ℕ) (w : Wanted)
    → slice_get (map argument_type arguments) k ≡ Some w
    → (a : Argument) × (slice_get arguments k ≡ Some a) × (argument_type a ≡ w)
argument_of_type [] k w e = cc
argument_of_type (a ∷ more) zero w e = let same : argument_type a ≡ w = cc in (a, refl, same)
argument_of_type (a ∷ more) (suc k) w e = argument_of_type more k w e

element_is : (root : Data) (i j k : ℕ) (name : List ℕ) (types : List Wanted) (w : Wanted) → IsNamed root i j name
    → HasCall name types → slice_get types k ≡ Some w → ElementIs root i j (suc (suc (suc k))) w
element_is root i j k name types w named call e =
    let found = argument_of_type (spelling_of call.0).arguments k w (rw call.2 e) in
    record {
      call = call.0;
      name = subst (IsNamed root i j) call.1 named;
      argument = found.0;
      there = found.1;
      of_type = found.2;
    }

-- and what is called for there
pub argument_called : (root : Data) (place : Location) (name : List ℕ) (ds : Items) (types : List Wanted) (k : ℕ)
    (w : Wanted) → HasArguments root place name ds → HasCall name types → slice_get types k ≡ Some w
    → CallsFor root (item_at place (3 + k)) w
argument_called root place name ds types k w h call e = grind (arith, common_steps, element_is)

-- behind so many operands a limit
pub limit_there : (n : ℕ) → slice_get (operands n ++ wanted.Whole ∷ []) n ≡ Some wanted.Whole
limit_there zero = refl
limit_there (suc n) = limit_there n

pub timed_count : (n : ℕ) → length (operands n ++ wanted.Whole ∷ []) ≡ n + 1
timed_count n =
    let one = length-replicate n wanted.Operand in
    let both = length-append (operands n) (wanted.Whole ∷ []) in omega (arith, one, both)

-- no call takes more than two arguments
two_at_most : (call : Call) → length (types_of call) ≤ 2
two_at_most (ToAccess v (Load i)) = omega arith
two_at_most (ToAccess v (Store i x)) = omega arith
two_at_most (ToAccess v (Rmw op i x)) = omega arith
two_at_most (ToAccess v (CompareExchange i x y)) = omega arith
two_at_most (Wait v i x None) = omega arith
two_at_most (Wait v i x (Some t)) = omega arith
two_at_most (Notify v i None) = omega arith
two_at_most (Notify v i (Some n)) = omega arith

pub few_timed : (name : List ℕ) (n : ℕ) → TakesTimed name n → n ≤ 1
few_timed name n takes = grind (arith, common_steps, two_at_most, length, timed_count)

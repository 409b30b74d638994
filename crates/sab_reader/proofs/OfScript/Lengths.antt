-- How many items there are.
use Rattle.std.proofs.Common.{◌≡◌, ℤ, List, [], ◌∷◌, length, Option, Some, None, ◌≤◌, arith, get_or, drop, take, ◌-◌, sym, length-drop}
use Rattle.std.proofs.lemmas.Grind.{common_steps}
use Rattle.std.proofs.lemmas.List.{take_all}
use Rattle.serde_json.specs.Data.{Data, Items, item}
use Rattle.serde_json.specs.View.{view, items_view}
use Rattle.serde_json.specs.declared.value.Value.{Value}
use Rattle.sab_plan.specs.declared.argument.Argument.{Argument}
use Rattle.sab_plan.specs.Call.{optional}
use Rattle.sab_reader.specs.Script.Calls.{SpellsArgument, SpellsArguments}
use Rattle.sab_reader.proofs.OfScript.Each.{length-each}

-- there are as many items as arguments
pub as_many : (ts : List Value) (arguments : List Argument) → SpellsArguments (items_view ts) arguments
    → length arguments ≡ length ts
as_many ts arguments h = length-each SpellsArgument ts arguments h

-- a timeout or a count is one argument at most
pub one_at_most : (o : Option ℤ) → length (optional o) ≤ 1
one_at_most None = omega arith
one_at_most (Some z) = omega arith

-- the first three items
pub three_items : (ts : List Value) (a b d : Value) → 3 ≤ length ts → a ≡ get_or ts 0 a → b ≡ get_or ts 1 b
    → d ≡ get_or ts 2 d
    → items_view ts ≡ item (view a) (item (view b) (item (view d) (items_view (drop 3 ts))))
three_items [] a b d h p q r = absurd (omega arith)
three_items (t ∷ []) a b d h p q r = absurd (omega arith)
three_items (t ∷ s ∷ []) a b d h p q r = absurd (omega arith)
three_items (t ∷ s ∷ u ∷ ts) a b d h p q r = grind (arith, common_steps, item, view, items_view)

pub three_long : (ts : List Value) (a b d : Data) (rest : Items) → items_view ts ≡ item a (item b (item d rest))
    → 3 ≤ length ts
three_long [] a b d rest e = cc
three_long (t ∷ []) a b d rest e = cc
three_long (t ∷ s ∷ []) a b d rest e = cc
three_long (t ∷ s ∷ u ∷ ts) a b d rest e = omega arith

-- a slice's end
pub end_whole : (ts : List Value) → take (length ts - 3) (drop 3 ts) ≡ drop 3 ts
end_whole ts = take_all (length ts - 3) (drop 3 ts) (omega (arith, length-drop 3 ts))

pub rest_whole : (ts : List Value) → take (length ts - 1) (drop 1 ts) ≡ drop 1 ts
rest_whole ts = take_all (length ts - 1) (drop 1 ts) (omega (arith, length-drop 1 ts))

-- the first item spells the first argument, and the rest the rest
pub first_argument : (ts : List Value) (t : Value) (a : Argument) (more : List Argument) → t ≡ get_or ts 0 t
    → SpellsArguments (items_view ts) (a ∷ more) → SpellsArgument (view t) a × SpellsArguments (items_view (drop 1 ts)) more
first_argument [] t a more e h = absurd h
first_argument (u ∷ ts) t a more e h = (rw e h.0, h.1)

pub argument_then : (ts : List Value) (t : Value) (a : Argument) (more : List Argument) → 1 ≤ length ts
    → t ≡ get_or ts 0 t → SpellsArgument (view t) a → SpellsArguments (items_view (drop 1 ts)) more
    → SpellsArguments (items_view ts) (a ∷ more)
argument_then [] t a more some e first rest = absurd (omega arith)
argument_then (u ∷ ts) t a more some e first rest = let same : u ≡ t = sym e in (rw same first, rest)

-- the second item spells the second argument
pub second_argument : (ts : List Value) (t : Value) (a b : Argument) (more : List Argument) → t ≡ get_or ts 1 t
    → SpellsArguments (items_view ts) (a ∷ b ∷ more) → SpellsArgument (view t) b
second_argument [] t a b more e h = absurd h
second_argument (u ∷ []) t a b more e h = absurd h.1
second_argument (u ∷ v ∷ ts) t a b more e h = rw e h.1.0

pub two_arguments : (ts : List Value) (t s : Value) (a b : Argument) → length ts ≡ 2 → t ≡ get_or ts 0 t
    → s ≡ get_or ts 1 s → SpellsArgument (view t) a → SpellsArgument (view s) b
    → SpellsArguments (items_view ts) (a ∷ b ∷ [])
two_arguments [] t s a b two p q first second = absurd (omega arith)
two_arguments (u ∷ []) t s a b two p q first second = absurd (omega arith)
two_arguments (u ∷ v ∷ []) t s a b two p q first second = grind (arith, common_steps)
two_arguments (u ∷ v ∷ w ∷ ts) t s a b two p q first second = absurd (omega arith)

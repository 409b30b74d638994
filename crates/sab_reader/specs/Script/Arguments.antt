-- Which arguments the calls of a name take.
use Rattle.std.specs.Prelude.{◌≡◌, ℕ, zero, suc, ◌+◌, ◌≤◌, List, [], ◌∷◌, ◌++◌, length, map, take, replicate}
use Rattle.serde_json.specs.Data.{Items, no_items, item}
use Rattle.sab_block.specs.declared.rmw_op.RmwOp.{RmwOp}
use Rattle.sab_block.specs.RmwOp.{function_of_op}
use Rattle.sab_plan.specs.declared.call.Call.{Call}
use Rattle.sab_refusal.specs.declared.reason.Wanted.{Wanted}
use Rattle.sab_refusal.specs.declared.reason.Wanted.TheVariants as wanted
use Rattle.sab_reader.specs.Script.Calls.{spelling_of}
use Rattle.sab_reader.specs.Script.Places.{argument_type}

-- what the arguments of a call are
abbrev pub types_of : Call → List Wanted
types_of call = map argument_type (spelling_of call).arguments

-- there is a call of this name whose arguments are of these types
abbrev pub HasCall : List ℕ → List Wanted → Type 0
HasCall name types = (call : Call) × (name ≡ (spelling_of call).name) × (types_of call ≡ types)

-- each call of this name has so many arguments at least, and at most as many as there are types here: the arguments of
-- one are of just the first so many of these types, and those of one are of all of them
pub record TakesFrom (name : List ℕ) (least : ℕ) (types : List Wanted) : Type 0 where
  pub few : (call : Call) → name ≡ (spelling_of call).name → least ≤ length (types_of call)
  pub many : (call : Call) → name ≡ (spelling_of call).name → length (types_of call) ≤ length types
  pub shortest : HasCall name (take least types)
  pub longest : HasCall name types

-- each call of this name has as many arguments as there are types here, and those of one are of just these types
abbrev pub TakesJust : List ℕ → List Wanted → Type 0
TakesJust name types = TakesFrom name (length types) types

-- a call of this name has so many elements at least, and at most: three before its arguments
abbrev pub TakesElements : List ℕ → ℕ → ℕ → Type 0
TakesElements name least most =
    (n : ℕ) × (types : List Wanted) × TakesFrom name n types × (least ≡ 3 + n) × (most ≡ 3 + length types)

-- so many operands
abbrev pub operands : ℕ → List Wanted
operands n = replicate n wanted.Operand

-- a call of this name takes so many operands, and behind them a timeout or a count that may be left out
abbrev pub TakesTimed : List ℕ → ℕ → Type 0
TakesTimed name n = TakesFrom name n (operands n ++ wanted.Whole ∷ [])

-- behind so many of these items stand those
abbrev pub StandBehind : ℕ → Items → Items → Type 0
StandBehind zero ds rest = ds ≡ rest
StandBehind (suc n) no_items rest = ⊥
StandBehind (suc n) (item d ds) rest = StandBehind n ds rest

-- a call of this name is a read-modify-write
abbrev pub IsNameOfRmw : List ℕ → Type 0
IsNameOfRmw name = (call : Call) → name ≡ (spelling_of call).name → (op : RmwOp) × (name ≡ function_of_op op)

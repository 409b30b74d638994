-- Calls as JSON, as a script spells them.
use Rattle.std.specs.Prelude.{ℕ, ◌||◌, ◌==◌, Bool, true, false, List, [], ◌∷◌, ℤ, All, IsTrue}
use Rattle.std.specs.Char.{is_ascii_alphanumeric}
use Rattle.std.specs.Fmt.{signed_decimal}
use Rattle.serde_json.specs.Data.{Data, unsigned, number, string, array, Items, no_items, item}
use Rattle.serde_json.specs.Find.{of_integer}
use Rattle.sab_block.specs.declared.operand.Operand.{Operand}
use Rattle.sab_block.specs.Operand.{is_bigint, whole_of}
use Rattle.sab_plan.specs.declared.argument.Argument.{Argument}
use Rattle.sab_plan.specs.declared.argument.Argument.TheVariants.{Value, Limit}
use Rattle.sab_plan.specs.declared.call.Call.{Call}
use Rattle.sab_plan.specs.Call.{function_of, view_of, index_of, arguments_of}
use Rattle.sab_report_text.specs.Words.CallText.{name_of}

-- an ASCII letter, a digit or `_`
abbrev pub is_name_byte : ℕ → Bool
is_name_byte b = is_ascii_alphanumeric b || b == 95

-- each byte of each name is one
abbrev pub AreNames : List (List ℕ) → Type 0
AreNames names = All (λ name. All (λ b. IsTrue (is_name_byte b)) name) names

abbrev pub natural : ℕ → Data
natural n = number (unsigned n)

abbrev pub whole : ℤ → Data
whole z = number (of_integer z)

-- a Number as a number, a BigInt as a string of its decimal digits
abbrev pub whole_data : Bool → ℤ → Data
whole_data false z = whole z
whole_data true z = string (signed_decimal z)

unfoldable pub operand_data : Operand → Data
operand_data x = whole_data (is_bigint x) (whole_of x)

-- an operand, a timeout or a count
abbrev pub argument_data : Argument → Data
argument_data (Value x) = operand_data x
argument_data (Limit n) = whole n

abbrev pub argument_items : List Argument → Items
argument_items [] = no_items
argument_items (x ∷ xs) = item (argument_data x) (argument_items xs)

-- a call, as ["load","m",0]
unfoldable pub call_data : List (List ℕ) → Call → Data
call_data names call =
    array (item (string (function_of call)) (item (string (name_of names (view_of call)))
    (item (whole (index_of call)) (argument_items (arguments_of call)))))

-- Calls as JavaScript writes them, and the elements that they name.
use Rattle.std.specs.Prelude.{ℕ, List, [], ◌++◌, codes, flat_map, slice_index_or}
use Rattle.std.specs.Fmt.{signed_decimal}
use Rattle.sab_plan.specs.declared.argument.Argument.{Argument}
use Rattle.sab_plan.specs.declared.argument.Argument.TheVariants.{Value, Limit}
use Rattle.sab_plan.specs.declared.call.Call.{Call}
use Rattle.sab_plan.specs.Call.{function_of, view_of, index_of, arguments_of}
use Rattle.sab_report_text.specs.Text.Text.{operand_text}

-- the name of a view, or nothing where it has none
abbrev pub name_of : List (List ℕ) → ℕ → List ℕ
name_of names view = slice_index_or names view []

-- one more argument
abbrev pub argument : List ℕ → List ℕ
argument text = codes ", " ++ text

-- an operand, a timeout or a count
abbrev pub argument_text : Argument → List ℕ
argument_text (Value x) = argument (operand_text x)
argument_text (Limit n) = argument (signed_decimal n)

-- the arguments behind the view and the index
abbrev pub more_arguments : Call → List ℕ
more_arguments call = flat_map argument_text (arguments_of call)

-- a call, as load(m, 0)
unfoldable pub call_text : List (List ℕ) → Call → List ℕ
call_text names call =
    function_of call ++ codes "(" ++ name_of names (view_of call) ++ argument (signed_decimal (index_of call))
    ++ more_arguments call ++ codes ")"

-- the element that a call names, as m[0]
unfoldable pub element_text : List (List ℕ) → Call → List ℕ
element_text names call = name_of names (view_of call) ++ codes "[" ++ signed_decimal (index_of call) ++ codes "]"

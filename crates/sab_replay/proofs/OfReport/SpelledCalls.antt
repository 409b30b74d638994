-- A value that spells a call is what a line of JSON has for it.
use Rattle.std.proofs.Common.{◌≡◌, ℕ, ℤ, Bool, true, false, List, [], ◌∷◌, refl, sym, ap, ◌∙◌, subst}
use Rattle.std.proofs.lemmas.Option.{get_or_from_slice_get}
use Rattle.serde_json.specs.Data.{Data, string, Items, no_items, item}
use Rattle.sab_block.specs.declared.operand.Operand.{Operand}
use Rattle.sab_block.specs.Operand.{is_bigint, whole_of}
use Rattle.sab_plan.specs.declared.argument.Argument.{Argument}
use Rattle.sab_plan.specs.declared.argument.Argument.TheVariants.{Value, Limit}
use Rattle.sab_plan.specs.declared.call.Call.{Call}
use Rattle.sab_plan.specs.Call.{function_of, view_of, index_of, arguments_of}
use Rattle.sab_reader.specs.Script.Numbers as numbers
use Rattle.sab_reader.specs.Script.Views.{SpellsName}
use Rattle.sab_reader.specs.Script.Calls.{SpellsArgument, SpellsArguments, call_tree, SpellsCall}
use Rattle.sab_report_text.specs.Words.CallText.{name_of}
use Rattle.sab_report_text.specs.JsonLines.CallData.{whole_data, operand_data, argument_data, argument_items, call_data}
use Rattle.sab_replay.specs.Report.Spelling.{IsReportedAsSpelled}

operand_reported : (x : Operand) → numbers.operand_tree x ≡ operand_data x
unfolding operand_data
operand_reported x = go (is_bigint x) (whole_of x)
  where
    go : (big : Bool) (z : ℤ) → numbers.operand_data big z ≡ whole_data big z
    go false z = refl
    go true z = refl

argument_reported : (d : Data) (x : Argument) → SpellsArgument d x → d ≡ argument_data x
argument_reported d (Value x) h = h.0 ∙ operand_reported x
argument_reported d (Limit z) h = h.0

arguments_reported : (ds : Items) (xs : List Argument) → SpellsArguments ds xs → ds ≡ argument_items xs
arguments_reported no_items [] h = refl
arguments_reported no_items (x ∷ xs) h = absurd h
arguments_reported (item d ds) [] h = absurd h
arguments_reported (item d ds) (x ∷ xs) h =
    let first = argument_reported d x h.0 in
    let others = arguments_reported ds xs h.1 in
    λ i. item (first i) (others i)

name_reported : (names : List (List ℕ)) (d : Data) (view : ℕ) → SpellsName names d view → d ≡ string (name_of names view)
name_reported names d view h = h.tree ∙ ap string (sym (get_or_from_slice_get names view h.text [] h.there))

call_reported : (names : List (List ℕ)) (d : Data) (call : Call) → SpellsCall names d call → d ≡ call_data names call
unfolding call_data
call_reported names d call h =
    let name = name_reported names h.view_tree (view_of call) h.view in
    let arguments = arguments_reported h.argument_trees (arguments_of call) h.arguments in
    h.tree ∙ (λ i. call_tree (function_of call) (name i) (index_of call) (arguments i))

pub reported_as_spelled : (names : List (List ℕ)) (d : Data) (call : Call) → SpellsCall names d call
    → IsReportedAsSpelled names call
reported_as_spelled names d call h = record {
  spelled = subst (λ (x : Data). SpellsCall names x call) (call_reported names d call h) h;
  only = λ x. call_reported names x call;
}

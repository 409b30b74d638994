-- A script that spells a setup spells a plan, and its Numbers are safe integers.
use Rattle.std.proofs.Common.{ℕ, Bool, List, [], ◌∷◌, All, subst}
use Rattle.std.proofs.lemmas.List.Elements.{All-nil, All-cons}
use Rattle.serde_json.specs.Data.{Data, Items, no_items, item}
use Rattle.sab_block.specs.Operand.{whole_of}
use Rattle.sab_plan.specs.declared.argument.Argument.{Argument}
use Rattle.sab_plan.specs.declared.argument.Argument.TheVariants.{Value, Limit}
use Rattle.sab_plan.specs.declared.call.Call.{Call}
use Rattle.sab_plan.specs.Call.{arguments_of}
use Rattle.sab_plan.specs.Script.{ScriptParts}
use Rattle.sab_plan.specs.Plan.{IsPlan}
use Rattle.sab_reader.specs.Script.Numbers.{IsInRange}
use Rattle.sab_reader.specs.Script.Reading.{SpellsEach}
use Rattle.sab_reader.specs.Script.Calls.{SpellsArgument, SpellsCall}
use Rattle.sab_reader.specs.Script.Views.{view_names}
use Rattle.sab_reader.specs.Script.Agents.{SpellsScript}
use Rattle.sab_reader.specs.Script.Setup.{SetupParts, Spells}
use Rattle.sab_reader.proofs.OfScript.WholePlan.{makes_plan}
use Rattle.sab_report_text.specs.JsonLines.SafeNumbers.{IsSafeArgument, IsSafeCall, HasSafeNumbers}

-- the parts that are spelled make a plan
pub spelled_plan : (d : Data) (setup : SetupParts) → Spells d setup → IsPlan setup.plan
spelled_plan d setup spelled =
    makes_plan spelled.form spelled.lens_tree setup.plan.lens spelled.view_trees spelled.agent_trees setup.views
    setup.plan.views setup.plan.scripts spelled.lens spelled.views spelled.described spelled.agents

-- where each element that is spelled is of a kind, all are of it
each_is : {X : Type 0} (P : X → Type 0) (S : Data → X → Type 0) → ((d : Data) (x : X) → S d x → P x) → (ds : Items)
    (xs : List X) → SpellsEach S ds xs → All P xs
each_is P S is no_items [] h = All-nil P
each_is P S is no_items (x ∷ xs) h = absurd h
each_is P S is (item d ds) [] h = absurd h
each_is P S is (item d ds) (x ∷ xs) h = All-cons P x xs (is d x h.0) (each_is P S is ds xs h.1)

argument_safe : (d : Data) (a : Argument) → SpellsArgument d a → IsSafeArgument a
argument_safe d (Value x) h = λ e. subst (λ (big : Bool). IsInRange big (whole_of x)) e h.1.1
argument_safe d (Limit z) h = h.1

call_safe : (names : List (List ℕ)) (d : Data) (c : Call) → SpellsCall names d c → IsSafeCall c
call_safe names d c h = record {
  index = h.index;
  arguments = each_is IsSafeArgument SpellsArgument argument_safe h.argument_trees (arguments_of c) h.arguments;
}

pub spelled_safe : (d : Data) (setup : SetupParts) → Spells d setup → HasSafeNumbers setup.plan
spelled_safe d setup spelled =
    each_is (λ (s : ScriptParts). All IsSafeCall s.calls) (SpellsScript (view_names setup.views))
    (λ d s h. each_is IsSafeCall (SpellsCall (view_names setup.views)) (call_safe (view_names setup.views)) h.call_trees
    s.calls h.calls.0)
    spelled.agent_trees setup.plan.scripts spelled.agents.0

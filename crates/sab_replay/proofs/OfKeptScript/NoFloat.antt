-- A tree that spells a setup has no float.
use Rattle.std.proofs.Common.{◌≡◌, ℕ, ℤ, pos, negsuc, List, [], ◌∷◌, Bool, true, false, Option, Some, None, refl}
use Rattle.serde_json.specs.Data.{Data, object, Items, no_items, item}
use Rattle.serde_json.specs.Written.{has_float, items_have_float, members_have_float}
use Rattle.sab_block.specs.declared.operand.Operand.{Operand}
use Rattle.sab_block.specs.Operand.{is_bigint, whole_of}
use Rattle.sab_plan.specs.declared.argument.Argument.{Argument}
use Rattle.sab_plan.specs.declared.argument.Argument.TheVariants.{Value, Limit}
use Rattle.sab_plan.specs.declared.call.Call.{Call}
use Rattle.sab_plan.specs.declared.schedule.Move.{Move}
use Rattle.sab_plan.specs.declared.schedule.Move.TheVariants.{Step, TimeUp}
use Rattle.sab_plan.specs.Script.{ScriptParts}
use Rattle.sab_reader.specs.declared.script.view_spec.ViewSpec.{ViewSpec}
use Rattle.sab_reader.specs.Script.Reading.{SpellsEach}
use Rattle.sab_reader.specs.Script.Numbers.{whole, whole_or_null, operand_data, operand_tree}
use Rattle.sab_reader.specs.Script.Blocks.{SpellsLen, SpellsLens, with_block}
use Rattle.sab_reader.specs.Script.Views.{SpellsView, view_names}
use Rattle.sab_reader.specs.Script.Calls.{spelling_of, SpellsArgument, SpellsCall}
use Rattle.sab_reader.specs.Script.Agents.{SpellsScript}
use Rattle.sab_reader.specs.Script.Schedule.{SpellsMove}
use Rattle.sab_reader.specs.Script.Setup.{SetupParts, Spells}
use Rattle.sab_reader.proofs.OfScript.Forms.{by_form}

whole_exact : (z : ℤ) → has_float (whole z) ≡ false
whole_exact (pos n) = refl
whole_exact (negsuc n) = refl

optional_exact : (o : Option ℤ) → has_float (whole_or_null o) ≡ false
optional_exact None = refl
optional_exact (Some z) = whole_exact z

data_exact : (b : Bool) (z : ℤ) → has_float (operand_data b z) ≡ false
data_exact false z = whole_exact z
data_exact true z = refl

operand_exact : (x : Operand) → has_float (operand_tree x) ≡ false
operand_exact x = data_exact (is_bigint x) (whole_of x)

each_exact : {X : Type 0} (S : Data → X → Type 0) → ((d : Data) (x : X) → S d x → has_float d ≡ false) → (ds : Items)
    (xs : List X) → SpellsEach S ds xs → items_have_float ds ≡ false
each_exact S one no_items xs h = refl
each_exact S one (item d ds) [] h = absurd h
each_exact S one (item d ds) (x ∷ xs) h = rw (one d x h.0) (each_exact S one ds xs h.1)

len_exact : (d : Data) (len : ℕ) → SpellsLen d len → has_float d ≡ false
len_exact d len h = rw h.0 refl

lens_exact : (d : Data) (s : SetupParts) (h : Spells d s) → has_float h.lens_tree ≡ false
lens_exact d s h =
    by_form (λ form. SpellsLens form h.lens_tree s.plan.lens → has_float h.lens_tree ≡ false)
    (λ one. len_exact h.lens_tree one.0 one.1)
    (λ more. rw more.1 (each_exact SpellsLen len_exact more.0 s.plan.lens more.2.0))
    h.form h.lens

view_exact : (d : Data) (s : SetupParts) (h : Spells d s) (t : Data) (v : List ℕ × ViewSpec)
    → SpellsView h.form s.plan.lens t v → has_float t ≡ false
view_exact d s h t v recorded =
    let rest : members_have_float recorded.rest ≡ false =
    rw (recorded.description.members, optional_exact v.1.length, whole_exact v.1.offset) refl in
    let whole = by_form (λ form. has_float (object (with_block form v.1.block recorded.rest)) ≡ false) rest rest h.form in
    rw recorded.tree whole

argument_exact : (d : Data) (x : Argument) → SpellsArgument d x → has_float d ≡ false
argument_exact d (Value x) h = rw h.0 (operand_exact x)
argument_exact d (Limit z) h = rw h.0 (whole_exact z)

call_exact : (names : List (List ℕ)) (d : Data) (c : Call) → SpellsCall names d c → has_float d ≡ false
call_exact names d c h =
    let arguments = each_exact SpellsArgument argument_exact h.argument_trees (spelling_of c).arguments h.arguments in
    rw (h.tree, h.view.tree, whole_exact (spelling_of c).index) arguments

script_exact : (names : List (List ℕ)) (d : Data) (s : ScriptParts) → SpellsScript names d s → has_float d ≡ false
script_exact names d s h =
    rw (h.tree, each_exact (SpellsCall names) (call_exact names) h.call_trees s.calls h.calls.0) refl

move_exact : (agents : ℕ) (d : Data) (m : Move) → SpellsMove agents d m → has_float d ≡ false
move_exact agents d (Step a) h = rw h.0 refl
move_exact agents d (TimeUp a) h = rw h.0 refl

pub no_float : (d : Data) (s : SetupParts) → Spells d s → has_float d ≡ false
no_float d s h =
    let names = view_names s.views in
    let agents =
    each_exact (SpellsScript names) (script_exact names) h.agent_trees s.plan.scripts h.agents.0 in
    let lens = lens_exact d s h in
    let moves = each_exact (SpellsMove _) (move_exact _) h.move_trees s.schedule h.schedule.0 in
    let views =
    each_exact (SpellsView h.form s.plan.lens) (view_exact d s h) h.view_trees s.views h.views.each in
    rw (h.tree, agents, lens, moves, views) refl

use Rattle.std.proofs.Common.{◌≡◌, ℕ, ◌<◌, List, length, Some, refl, arith, sym, ap, ◌∙◌, drop, FitsSigned, rules}
use Rattle.std.specs.Int.{w64}
use Rattle.std.proofs.lemmas.Int.{to_z-of_z}
use Rattle.serde_json.specs.Data.{Data, Items, array, item, string}
use Rattle.serde_json.specs.View.{view, items_view}
use Rattle.serde_json.proofs.Views.{items_len-items_view}
use Rattle.sab_refusal.specs.Location.{item_at}
use Rattle.sab_refusal.specs.Reason.{fault_of}
use Rattle.sab_refusal.specs.declared.location.Location.{Location}
use Rattle.sab_refusal.specs.declared.location.Location.TheVariants as at
use Rattle.sab_refusal.specs.declared.member.Member.TheVariants as M
use Rattle.sab_plan.specs.declared.call.Call.{Call}
use Rattle.sab_reader.specs.Script.Numbers.{whole, SpellsWhole}
use Rattle.sab_reader.specs.Script.Calls.{spelling_of, call_tree, SpellsCall}
use Rattle.sab_reader.specs.Script.Views.{SpellsName, view_names}
use Rattle.sab_reader.specs.Script.Known.{HasNames, HasArguments}
use Rattle.sab_reader.specs.Script.Truth.{IsTrueOf, IsTrueWhere}
use Rattle.sab_reader.proofs.OfScript.Lengths.{three_items, three_long, end_whole}
use Rattle.sab_reader.proofs.OfScript.Refusing.{exit_refuses, refuses_all}
use Rattle.sab_reader.proofs.OfScript.Exits.{exit_reported}
use Rattle.sab_reader.proofs.OfScript.ArgumentReasons.{err_reported, item_read}
use Rattle.sab_reader.proofs.OfScript.CallReasons.{call_element, has_arguments}
use Rattle.sab_reader.proofs.OfScript.WholeCall.{word_part, name_part, index_part, reads_call}
use Rattle.sab_reader.proofs.script.calls.read_call.Goals as goal

pub returns-in_err-view-clause-found : goal.returns-in_err-view-clause-found
returns-in_err-view-clause-found c =
    let names = view_names c.args.views.now in
    let d = view c.args.tree.now in
    let tree = c.in_ok-trees.ensures.reads ∙ ap array (three_items c.in_ok-trees.trees.now c.name_tree-item.result
    c.view_tree-item.result c.index_tree-item.result c.in-len3-up.len_at_least c.name_tree-item.is
    c.view_tree-item.is c.index_tree-item.is) in
    exit_refuses (λ (x : Call). x) (SpellsName names (view c.view_tree-item.result)) (SpellsCall names d)
    c.from_residual-in_err-view.result c.in_err-view.field-0.0 c.from_residual-in_err-view.ensures.1
    c.in_err-view.ensures.read
    (name_part names d _ _ _ _ tree)

pub returns-in_err-trees-clause-found : goal.returns-in_err-trees-clause-found
returns-in_err-trees-clause-found c =
    let d = view c.args.tree.now in
    exit_refuses (λ (x : Call). x) (λ (ds : Items). d ≡ array ds) (SpellsCall (view_names c.args.views.now) d)
    c.from_residual.result _ c.from_residual.ensures.1 c.in_err-trees.ensures.reads (λ call h. (_, h.tree))

pub returns-in_err-name-clause-found : goal.returns-in_err-name-clause-found
returns-in_err-name-clause-found c =
    let names = view_names c.args.views.now in
    let d = view c.args.tree.now in
    let tree = c.in_ok-trees.ensures.reads ∙ ap array (three_items c.in_ok-trees.trees.now c.name_tree-item.result
    c.view_tree-item.result c.index_tree-item.result c.in-len3-up.len_at_least c.name_tree-item.is
    c.view_tree-item.is c.index_tree-item.is) in
    exit_refuses (λ (x : Call). x) (λ (s : List ℕ). view c.name_tree-item.result ≡ string s) (SpellsCall names d)
    c.from_residual-in_err-name.result _ c.from_residual-in_err-name.ensures.1 c.in_err-name.ensures.reads
    (word_part names d _ _ _ _ tree)

pub returns-in_err-index-clause-found : goal.returns-in_err-index-clause-found
returns-in_err-index-clause-found c =
    let names = view_names c.args.views.now in
    let d = view c.args.tree.now in
    let tree = c.in_ok-trees.ensures.reads ∙ ap array (three_items c.in_ok-trees.trees.now c.name_tree-item.result
    c.view_tree-item.result c.index_tree-item.result c.in-len3-up.len_at_least c.name_tree-item.is
    c.view_tree-item.is c.index_tree-item.is) in
    exit_refuses (λ (x : Call). x) (SpellsWhole (view c.index_tree-item.result)) (SpellsCall names d)
    c.from_residual-in_err-index.result _ c.from_residual-in_err-index.ensures.1 c.in_err-index.ensures.reads
    (index_part names d _ _ _ _ tree)

pub returns-in_default-clause-found : goal.returns-in_default-clause-found
returns-in_default-clause-found c =
    refuses_all (SpellsCall (view_names c.args.views.now) (view c.args.tree.now)) (fault_of c.cut_short.result.why)
    (λ call h.
    let s = spelling_of call in
    let same : array (items_view c.in_ok-trees.trees.now) ≡ call_tree s.name h.view_tree s.index h.argument_trees =
    sym c.in_ok-trees.ensures.reads ∙ h.tree in
    let parts : items_view c.in_ok-trees.trees.now
    ≡ item (string s.name) (item h.view_tree (item (whole s.index) h.argument_trees)) = cc in
    let long = three_long c.in_ok-trees.trees.now _ _ _ _ parts in
    let short = c.in_default.len_below in absurd (omega (arith, long, short)))

pub returns-clause-found : goal.returns-clause-found
returns-clause-found c =
    let names = view_names c.args.views.now in
    let d = view c.args.tree.now in
    let rest = items_view (drop 3 c.in_ok-trees.trees.now) in
    let tree = c.in_ok-trees.ensures.reads ∙ ap array (three_items c.in_ok-trees.trees.now c.name_tree-item.result
    c.view_tree-item.result c.index_tree-item.result c.in-len3-up.len_at_least c.name_tree-item.is
    c.view_tree-item.is c.index_tree-item.is) in
    let word = c.in_ok-name.ensures.reads in
    let index = c.in_ok-index.ensures.reads in
    let fits : FitsSigned w64 c.in_ok-index.index = search rules in
    reads_call names d (view c.view_tree-item.result) c.in_ok-name.name.now c.in_ok-view.view c.in_ok-index.index rest
    c.call_of.result c.in_ok-view.ensures.views.distinct
    (tree ∙ (λ k. array (item (word k) (item (view c.view_tree-item.result) (item (index.0 k) rest)))))
    c.in_ok-view.ensures.read index.1
    (rw (to_z-of_z w64 c.in_ok-index.index fits, end_whole c.in_ok-trees.trees.now) at c.call_of.ensures.found)

-- what is known of the script where a call is read
abbrev Knows : Location → List (List ℕ) → Data → Type 0
Knows place names root =
    ((i : ℕ) × (j : ℕ) × (place ≡ at.Call M.Agents i M.Calls j)) × HasNames root names

pub returns-in_default-clause-reported : goal.returns-in_default-clause-reported
returns-in_default-clause-reported c = λ root stands known.
    let trees = c.in_ok-trees.trees.now in
    let here = stands ∙ ap (λ (x : Data). Some x) c.in_ok-trees.ensures.reads in
    let some : 0 < length trees = search rules in
    let there = item_read trees 0 c.index-trees-0.result some c.index-trees-0.is in
    c.cut_short.ensures.reported root known.0.0 known.0.1 known.0.2
    (call_element root c.args.at known.0.0 known.0.1 0 (items_view trees) _ known.0.2 here there)
    (items_view trees, here, items_len-items_view trees)

pub returns-in_err-name-clause-reported : goal.returns-in_err-name-clause-reported
returns-in_err-name-clause-reported c =
    let a = c.args in
    let trees = c.in_ok-trees.trees.now in
    exit_reported (IsTrueWhere a.at (view a.tree.now) (Knows a.at (view_names a.views.now)))
    c.from_residual-in_err-name.result _ c.from_residual-in_err-name.ensures.1 (λ root stands known.
    let here = stands ∙ ap (λ (x : Data). Some x) c.in_ok-trees.ensures.reads in
    let some = c.in-len3-up.len_at_least in
    let there = item_read trees 0 c.name_tree-item.result (omega (arith, some)) c.name_tree-item.is in
    c.in_err-name.ensures.reported root
    (rw c.item.ensures (call_element root a.at known.0.0 known.0.1 0 (items_view trees) _ known.0.2 here there))
    (rw (c.item.ensures, known.0.2) (refl, refl, refl)))

pub returns-in_err-view-clause-reported : goal.returns-in_err-view-clause-reported
returns-in_err-view-clause-reported c =
    let a = c.args in
    let trees = c.in_ok-trees.trees.now in
    exit_reported (IsTrueWhere a.at (view a.tree.now) (Knows a.at (view_names a.views.now)))
    c.from_residual-in_err-view.result _ c.from_residual-in_err-view.ensures.1 (λ root stands known.
    let here = stands ∙ ap (λ (x : Data). Some x) c.in_ok-trees.ensures.reads in
    let some = c.in-len3-up.len_at_least in
    let there = item_read trees 1 c.view_tree-item.result (omega (arith, some)) c.view_tree-item.is in
    c.in_err-view.ensures.reported root
    (rw c.item-2.ensures (call_element root a.at known.0.0 known.0.1 1 (items_view trees) _ known.0.2 here there))
    ((known.0.0, known.0.1, c.item-2.ensures ∙ ap (λ (p : Location). item_at p 1) known.0.2), known.1))

pub returns-in_err-index-clause-reported : goal.returns-in_err-index-clause-reported
returns-in_err-index-clause-reported c =
    let a = c.args in
    let trees = c.in_ok-trees.trees.now in
    exit_reported (IsTrueWhere a.at (view a.tree.now) (Knows a.at (view_names a.views.now)))
    c.from_residual-in_err-index.result _ c.from_residual-in_err-index.ensures.1 (λ root stands known.
    let here = stands ∙ ap (λ (x : Data). Some x) c.in_ok-trees.ensures.reads in
    let some = c.in-len3-up.len_at_least in
    let there = item_read trees 2 c.index_tree-item.result (omega (arith, some)) c.index_tree-item.is in
    c.in_err-index.ensures.reported root
    (rw c.item-3.ensures (call_element root a.at known.0.0 known.0.1 2 (items_view trees) _ known.0.2 here there))
    (rw (c.item-3.ensures, known.0.2) (refl, refl, refl), ((λ x. x), (λ x. x))))

pub returns-clause-reported : goal.returns-clause-reported
returns-clause-reported c =
    let a = c.args in
    let trees = c.in_ok-trees.trees.now in
    let rest = items_view (drop 3 trees) in
    let tree = c.in_ok-trees.ensures.reads ∙ ap array (three_items trees c.name_tree-item.result
    c.view_tree-item.result c.index_tree-item.result c.in-len3-up.len_at_least c.name_tree-item.is
    c.view_tree-item.is c.index_tree-item.is) in
    err_reported (λ e. (root : Data) → HasArguments root a.at c.in_ok-name.name.now rest → IsTrueOf root e)
    (IsTrueWhere a.at (view a.tree.now) (Knows a.at (view_names a.views.now))) c.call_of.result
    (rw end_whole at c.call_of.ensures.reported) (λ e reported root stands known. reported root
    (has_arguments root a.at known.0.0 known.0.1 c.in_ok-name.name.now _ _ _ rest known.0.2
    (stands ∙ ap (λ (x : Data). Some x) tree) c.in_ok-name.ensures.reads))

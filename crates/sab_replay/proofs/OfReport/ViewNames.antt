-- The names of views: they are the keys of a map, and a script spells short ones.
use Rattle.std.proofs.Common.{◌≡◌, ℕ, ◌≤◌, List, [], ◌∷◌, ◌++◌, length, map, All, IsTrue, refl, ap}
use Rattle.std.specs.Prelude.{String, string_bytes}
use Rattle.std.specs.declared.alloc.Global.{Global}
use Rattle.std.specs.Map.{keys_of}
use Rattle.std.proofs.lemmas.List.Elements.{All-nil, All-cons, All-head, All-tail}
use Rattle.indexmap.specs.IndexMap.{IndexMap, keys}
use Rattle.serde_json.specs.Data.{Data, Items, no_items, item}
use Rattle.sab_reader.specs.declared.script.view_spec.ViewSpec.{ViewSpec}
use Rattle.sab_reader.specs.Script.Reading.{SpellsEach}
use Rattle.sab_reader.specs.Script.Views.{SpellsView, named_views, view_names}
use Rattle.sab_reader.specs.Script.Setup.{SetupParts, Spells}
use Rattle.sab_report_text.specs.JsonLines.CallData.{AreNames, is_name_byte}
use Rattle.sab_report_text.specs.declared.words.name.TheConstants.Name.{MAX_LEN}

-- a name that has room in a `Name`
abbrev pub IsShort : List ℕ → Type 0
IsShort name = length name ≤ MAX_LEN

abbrev named : List (String Global × ViewSpec) → List (List ℕ × ViewSpec)
named es = map (λ e. (string_bytes e.0, e.1)) es

named_keys : (es : List (String Global × ViewSpec)) → map string_bytes (keys_of es) ≡ view_names (named es)
named_keys [] = refl
named_keys (e ∷ es) = ap (λ names. string_bytes e.0 ∷ names) (named_keys es)

-- the keys of a map of views are their names, in order
pub names_of_keys : {S : Type 0} (m : IndexMap (String Global) ViewSpec S)
    → map string_bytes (keys m) ≡ view_names (named_views m)
names_of_keys m = named_keys m.entries

-- what holds of all holds of the next one
pub holds_next : {X : Type 0} (P : X → Type 0) (xs : List X) (y : X) (ys : List X) → All P (xs ++ y ∷ ys) → P y
holds_next P [] y ys h = All-head P y ys h
holds_next P (x ∷ xs) y ys h = holds_next P xs y ys (All-tail P x (xs ++ y ∷ ys) h)

-- where each view that is spelled has a name of a kind, all names are of it
each_named : (P : List ℕ → Type 0) (S : Data → List ℕ × ViewSpec → Type 0)
    → ((d : Data) (v : List ℕ × ViewSpec) → S d v → P v.0)
    → (ds : Items) (vs : List (List ℕ × ViewSpec)) → SpellsEach S ds vs → All P (view_names vs)
each_named P S named no_items [] h = All-nil P
each_named P S named no_items (v ∷ vs) h = absurd h
each_named P S named (item d ds) [] h = absurd h
each_named P S named (item d ds) (v ∷ vs) h =
    All-cons P v.0 (view_names vs) (named d v h.0) (each_named P S named ds vs h.1)

-- the names of a setup that is spelled have room in a `Name`
pub spelled_short : (d : Data) (setup : SetupParts) → Spells d setup → All IsShort (view_names setup.views)
spelled_short d setup spelled =
    each_named IsShort (SpellsView spelled.form setup.plan.lens) (λ d v h. h.description.name.short) spelled.view_trees
    setup.views spelled.views.each

-- they have letters, digits and `_` alone
pub spelled_plain : (d : Data) (setup : SetupParts) → Spells d setup → AreNames (view_names setup.views)
spelled_plain d setup spelled =
    each_named (λ name. All (λ b. IsTrue (is_name_byte b)) name) (SpellsView spelled.form setup.plan.lens)
    (λ d v h. h.description.name.bytes) spelled.view_trees setup.views spelled.views.each

-- The names of views by position.
use Rattle.std.proofs.Common.{◌≡◌, ℕ, List, Option, sym, ap, ◌∙◌}
use Rattle.std.specs.Prelude.{String, string_bytes, slice_get}
use Rattle.std.specs.Option.{option_map}
use Rattle.std.specs.declared.alloc.Global.{Global}
use Rattle.std.proofs.lemmas.Option.{slice_get-map}
use Rattle.indexmap.specs.IndexMap.{IndexMap}
use Rattle.sab_reader.specs.declared.script.view_spec.ViewSpec.{ViewSpec}
use Rattle.sab_reader.specs.Script.Views.{named_views, view_names}

abbrev pub named : String Global × ViewSpec → List ℕ × ViewSpec
named e = (string_bytes e.0, e.1)

-- the name of an entry of a map of views
pub named_at : {S : Type 0} (m : IndexMap (String Global) ViewSpec S) (i : ℕ) (o : Option (String Global × ViewSpec))
    → o ≡ slice_get m.entries i
    → option_map (λ (v : List ℕ × ViewSpec). v.0) (option_map named o) ≡ slice_get (view_names (named_views m)) i
named_at m i o e =
    ap (option_map (λ (v : List ℕ × ViewSpec). v.0)) (ap (option_map named) e ∙ sym (slice_get-map named m.entries i))
    ∙ sym (slice_get-map (λ (v : List ℕ × ViewSpec). v.0) (named_views m) i)

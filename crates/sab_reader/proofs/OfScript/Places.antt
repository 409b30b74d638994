-- The places of names.
use Rattle.std.proofs.Common.{◌≡◌, ℕ, zero, suc, List, [], ◌∷◌, get_or, map, Bool, true, false, Option, Some, None, refl, ap, sym, ◌∙◌, is_some, arith}
use Rattle.std.proofs.lemmas.Grind.{common_steps}
use Rattle.std.specs.Prelude.{String, string_bytes, slice_get}
use Rattle.std.specs.Option.{option_map}
use Rattle.std.specs.List.{position}
use Rattle.std.specs.Map.{keys_of, lookup}
use Rattle.std.specs.Str.{bytes_eq}
use Rattle.std.specs.declared.alloc.Global.{Global}
use Rattle.std.proofs.lemmas.List.Quantifiers.{position-Some}
use Rattle.std.proofs.lemmas.Option.{slice_get-map, slice_get-get_or}
use Rattle.std.proofs.lemmas.Slice.Eq.{bytes_eq-Decides}
use Rattle.sab_reader.specs.declared.script.view_spec.ViewSpec.{ViewSpec}
use Rattle.sab_reader.proofs.OfScript.ViewNames.{named, names_of}

names_keys : (es : List (String Global × ViewSpec))
    → names_of (named es) ≡ map (λ (k : String Global). string_bytes k) (keys_of es)
names_keys [] = refl
names_keys (e ∷ es) = ap (λ (l : List (List ℕ)). string_bytes e.0 ∷ l) (names_keys es)

-- where a name is found
pub name_found : (es : List (String Global × ViewSpec)) (n : List ℕ) (i : ℕ)
    → position (λ k. bytes_eq n (string_bytes k)) (keys_of es) ≡ Some i → slice_get (names_of (named es)) i ≡ Some n
name_found [] n i p = cc
name_found (e ∷ es) n i p =
    let ks = keys_of (e ∷ es) in
    let q = position-Some (λ (k : String Global). bytes_eq n (string_bytes k)) ks i e.0 p in
    let there : slice_get ks i ≡ Some (get_or ks i e.0) = slice_get-get_or ks i e.0 q.0 in
    let same : n ≡ string_bytes (get_or ks i e.0) = (bytes_eq-Decides n (string_bytes (get_or ks i e.0))).0 q.1 in
    ap (λ (l : List (List ℕ)). slice_get l i) (names_keys (e ∷ es))
    ∙ slice_get-map (λ (k : String Global). string_bytes k) ks i
    ∙ ap (option_map (λ (k : String Global). string_bytes k)) there
    ∙ ap (λ (t : List ℕ). Some t) (sym same)

-- a name that the map lacks has no place
pub name_missing : (es : List (String Global × ViewSpec)) (n : List ℕ) (v : ℕ)
    → lookup (λ k. bytes_eq n (string_bytes k)) es ≡ None → slice_get (names_of (named es)) v ≡ Some n → ⊥
name_missing [] n v l g = cc
name_missing (e ∷ es) n zero l g = grind (arith, common_steps, string_bytes, bytes_eq, bytes_eq-Decides)
name_missing (e ∷ es) n (suc v) l g = by (bytes_eq n (string_bytes e.0)) refl (λ rest. name_missing es n v rest g)
  where
    by : (b : Bool) → bytes_eq n (string_bytes e.0) ≡ b → (lookup (λ k. bytes_eq n (string_bytes k)) es ≡ None → ⊥) → ⊥
    by true t later = let bad = rw t at l in cc
    by false t later = later (rw t at l)

pub none_from : {T : Type 0} (o : Option T) → false ≡ is_some o → o ≡ None
none_from None e = refl
none_from (Some x) e = cc

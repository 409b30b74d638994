-- A text is read just if it is the rest that a reader wants before it.
use Rattle.std.proofs.Common.{◌≡◌, ℕ, Bool, true, false, cond, ◌&&◌, List, [], ◌∷◌, Option, Some, None, is_some, option_map, option_and_then, refl, sym, ap, ◌∙◌, ap₂}
use Rattle.json.specs.Token.{Token}
use Rattle.json.specs.Json as json
use Rattle.json.specs.Lex.{tokens, lex, between}
use Rattle.serde_json.specs.Data.{Num, Data, Items, Members, number, array, object, item, put, no_members}
use Rattle.serde_json.specs.Read.{number_of, of_json, of_items, of_members, read, max_depth}
use Rattle.sab_refusal.specs.Syntax.Number.{is_in_range}
use Rattle.sab_refusal.specs.Syntax.Reader.{opening}
use Rattle.sab_refusal.proofs.OfSyntax.Skips.{passes, passes_items, passes_members, keep, skip_is}
use Rattle.sab_refusal.proofs.OfSyntax.Tails.{follow, is_nil}
use Rattle.sab_refusal.proofs.OfSyntax.Steps.{rest_of}

some_map : {A B : Type 0} (f : A → B) (o : Option A) → is_some (option_map f o) ≡ is_some o
some_map f None = refl
some_map f (Some a) = refl

some_then : {A B : Type 0} (f : A → Option B) (c : Bool) (o : Option A) → ((a : A) → is_some (f a) ≡ c)
    → is_some (option_and_then f o) ≡ (is_some o && c)
some_then f c None h = refl
some_then f c (Some a) h = h a

mutual
  converts : (j : json.Json) → is_some (of_json j) ≡ passes is_in_range j
  converts json.null = refl
  converts (json.boolean b) = refl
  converts (json.number s) = some_map number (number_of s)
  converts (json.string s) = refl
  converts (json.array js) = some_map array (of_items js) ∙ converts_items js
  converts (json.object ms) = some_map object (of_members ms no_members) ∙ converts_members ms no_members

  converts_items : (js : json.Items) → is_some (of_items js) ≡ passes_items is_in_range js
  converts_items json.no_items = refl
  converts_items (json.item j js) =
      some_then (λ d. option_map (item d) (of_items js)) (is_some (of_items js)) (of_json j) (λ d. some_map (item d)
      (of_items js))
      ∙ ap₂ (λ a b. a && b) (converts j) (converts_items js)

  converts_members : (ms : json.Members) (found : Members)
      → is_some (of_members ms found) ≡ passes_members is_in_range ms
  converts_members json.no_members found = refl
  converts_members (json.member k j ms) found =
      some_then (λ d. of_members ms (put k d found)) (passes_members is_in_range ms) (of_json j)
      (λ d. converts_members ms (put k d found))
      ∙ ap (λ b. b && passes_members is_in_range ms) (converts j)

and_cond : (b : Bool) → b ≡ cond b true false
and_cond true = refl
and_cond false = refl

left_over : (b : Bool) (t : Token) (ts : List Token) → false ≡ follow (cond b (Some (t ∷ ts)) None) is_nil
left_over true t ts = refl
left_over false t ts = refl

whole_cond : (b : Bool) → cond b true false ≡ follow (cond b (Some []) None) is_nil
whole_cond true = refl
whole_cond false = refl

whole : (o : Option (json.Json × List Token))
    → is_some (option_and_then of_json (option_and_then (λ p. json.if_last p.0 p.1) o))
    ≡ follow (keep (passes is_in_range) o) is_nil
whole None = refl
whole (Some (j, [])) = converts j ∙ and_cond (passes is_in_range j) ∙ whole_cond (passes is_in_range j)
whole (Some (j, t ∷ ts)) = left_over (passes is_in_range j) t ts

-- the first direction: what serde_json reads
pub read-rest : (text : List ℕ) → is_some (read text) ≡ rest_of is_in_range opening [] text
read-rest text = whole (json.value max_depth (tokens text))
    ∙ sym (ap (λ o. follow o is_nil) (skip_is is_in_range max_depth (tokens text)))

-- JSON, with numbers of any size

abbrev pub any_number : List ℕ → Bool
any_number s = true

mutual
  all_pass : (j : json.Json) → passes any_number j ≡ true
  all_pass json.null = refl
  all_pass (json.boolean b) = refl
  all_pass (json.number s) = refl
  all_pass (json.string s) = refl
  all_pass (json.array js) = all_items js
  all_pass (json.object ms) = all_members ms

  all_items : (js : json.Items) → passes_items any_number js ≡ true
  all_items json.no_items = refl
  all_items (json.item j js) = ap₂ (λ a b. a && b) (all_pass j) (all_items js)

  all_members : (ms : json.Members) → passes_members any_number ms ≡ true
  all_members json.no_members = refl
  all_members (json.member k j ms) = ap₂ (λ a b. a && b) (all_pass j) (all_members ms)

formed : (o : Option (json.Json × List Token))
    → is_some (option_and_then (λ p. json.if_last p.0 p.1) o) ≡ follow (keep (passes any_number) o) is_nil
formed None = refl
formed (Some (j, [])) = sym (ap (λ b. follow (cond b (Some []) None) is_nil) (all_pass j))
formed (Some (j, t ∷ ts)) = left_over (passes any_number j) t ts

pub form-rest : (text : List ℕ)
    → is_some (option_and_then (λ p. json.if_last p.0 p.1) (json.value max_depth (tokens text)))
    ≡ rest_of any_number opening [] text
form-rest text = formed (json.value max_depth (tokens text))
    ∙ sym (ap (λ o. follow o is_nil) (skip_is any_number max_depth (tokens text)))

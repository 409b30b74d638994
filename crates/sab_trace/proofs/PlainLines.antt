-- Lines that are read from their tokens.
use Rattle.std.proofs.Common.{◌≡◌, ℕ, ◌≤◌, List, [], ◌∷◌, ◌++◌, Option, Some, None, refl, sym, ap, ◌∙◌, append-nil, arith}
use Rattle.std.specs.Prelude.{option_map, option_and_then}
use Rattle.json.specs.Token.{Token}
use Rattle.json.specs.Json as text
use Rattle.json.specs.Lex.{tokens}
use Rattle.json.specs.Tree.{json_tokens, members_tokens, members_depth}
use Rattle.json.proofs.Printed.Trees.{value-json_tokens}
use Rattle.serde_json.specs.Data.{object, no_members}
use Rattle.serde_json.specs.Read.{of_json, of_members, read}
use Rattle.sab_trace.specs.declared.found.Found.{Found}
use Rattle.sab_trace.specs.Tokens.{slots_of, members_of, Takes, AreRead}

-- whatever members the tokens that are left are, those from the start are read as what was found and these
abbrev pub HasRead : List Token → List Token → Found → Type 0
HasRead start left found = (ms : text.Members) → left ≡ members_tokens ms → members_depth ms ≤ 0
    → (all : text.Members) × (source : Option (List ℕ)) × (start ≡ members_tokens all) × (members_depth all ≤ 0)
    × (of_members all no_members ≡ of_members ms (members_of (slots_of found source)))

pub read_none : (start : List Token) (found : Found)
    → ((source : Option (List ℕ)) → members_of (slots_of found source) ≡ no_members) → HasRead start start found
read_none start found none = λ ms is flat. (ms, None, is, flat, ap (of_members ms) (sym (none None)))

pub read_more : (start left behind new : List Token) (name : List ℕ) (token : Token) (old found : Found)
    → left ≡ Token.key name ∷ behind → behind ≡ token ∷ new → Takes name token old found → HasRead start left old
    → HasRead start new found
read_more start left behind new name token old found key value takes so_far = λ ms is flat.
    let r = takes.1 in
    let more = text.member name r.value ms in
    let one : token ∷ new ≡ json_tokens r.value ++ members_tokens ms =
    ap (λ ts. token ∷ ts) is ∙ ap (λ ts. ts ++ members_tokens ms) (sym r.one) in
    let whole : left ≡ members_tokens more = key ∙ ap (λ ts. Token.key name ∷ ts) (value ∙ one) in
    let deep : members_depth more ≤ 0 = let none = r.flat in omega (arith, flat) in
    let a = so_far more whole deep in
    let t = takes.2 a.1 in
    let read : of_members more (members_of (slots_of old a.1)) ≡ of_members ms (members_of (slots_of found t.0)) =
    rw r.is (ap (of_members ms) t.1) in
    (a.0, t.0, a.2, a.3, a.4 ∙ read)

pub read_all : (start left new : List Token) (found : Found) → left ≡ Token.end_object ∷ new → HasRead start left found
    → new ≡ [] → AreRead start found
read_all start left new found end so_far none =
    let a = so_far text.no_members (end ∙ ap (λ ts. Token.end_object ∷ ts) none) (omega arith) in
    record { members = a.0; source = a.1; tokens_are = a.2; flat = a.3; read = a.4 }

-- a line that is one object is read as it
pub object_read : (line : List ℕ) (rest : List Token) (found : Found) → tokens line ≡ Token.begin_object ∷ rest
    → (a : AreRead rest found) → read line ≡ Some (object (members_of (slots_of found a.source)))
object_read line rest found is a =
    let ms = a.members in
    let flat : members_depth ms ≤ 0 = a.flat in
    let whole : tokens line ≡ json_tokens (text.object ms) = is ∙ ap (λ ts. Token.begin_object ∷ ts) a.tokens_are in
    let parsed : text.value 127 (tokens line) ≡ Some (text.object ms, []) =
    ap (text.value 127) (whole ∙ sym (append-nil (json_tokens (text.object ms))))
    ∙ value-json_tokens (text.object ms) 127 [] (omega (arith, flat)) in
    ap (λ r. option_and_then of_json (option_and_then (λ p. text.if_last p.0 p.1) r)) parsed
    ∙ ap (option_map object) a.read

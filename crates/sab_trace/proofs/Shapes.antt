-- The shape of an event's object.
use Rattle.std.proofs.Common.{◌≡◌, ℕ, List, Bool, true, Option, Some, None, refl, ap, ◌∙◌}
use Rattle.std.specs.Prelude.{IfNone, is_some}
use Rattle.serde_json.specs.Data.{Data, Num, object, Members}
use Rattle.serde_json.specs.Data as json
use Rattle.serde_json.specs.Find.{as_null, as_str}
use Rattle.sab_trace.specs.declared.deed.Deed.{Deed}
use Rattle.sab_trace.specs.Members.{Values, HasMembers, source_data, agent_to_byte, call_to_read, size_to_write, event_object}

-- the last members aren't there
pub size_missing : (d : Data) (m0 m1 m2 : Members) (agent block byte call event : Num) (atomic read : Bool) (does : Deed)
    → d ≡ object m0 → m0 ≡ agent_to_byte agent atomic block byte m1 → m1 ≡ call_to_read call does event read m2
    → ((size : Num) (source : Option (List ℕ)) (waiters write : Bool) → m2 ≡ size_to_write size source waiters write
    → ⊥) → (values : Values) → HasMembers d values → ⊥
size_missing d m0 m1 m2 agent block byte call event atomic read does e0 e1 e2 missing v h =
    let same : object m0 ≡ event_object v h.source = let e = h.is in cc in
    missing v.size h.source v.flags.waiters v.flags.write cc

pub no_value : {X : Type 0} {P : Type 0} (o : Option X) → o ≡ None → P → IfNone o P
no_value o e p = rw e p

-- null is a source, and so is a string
pub null_source : (d : Data) → is_some (as_null d) ≡ true → (source : Option (List ℕ)) × (d ≡ source_data source)
null_source json.null e = (None, refl)
null_source (json.boolean b) e = cc
null_source (json.number n) e = cc
null_source (json.string s) e = cc
null_source (json.array ds) e = cc
null_source (json.object ms) e = cc

pub text_source : (d : Data) → is_some (as_str d) ≡ true → (source : Option (List ℕ)) × (d ≡ source_data source)
text_source json.null e = cc
text_source (json.boolean b) e = cc
text_source (json.number n) e = cc
text_source (json.string s) e = (Some s, refl)
text_source (json.array ds) e = cc
text_source (json.object ms) e = cc

pub source_in : (name : List ℕ) (before rest : Members) (d : Data) → before ≡ json.member name d rest
    → (source : Option (List ℕ)) × (d ≡ source_data source)
    → (source : Option (List ℕ)) × (before ≡ json.member name (source_data source) rest)
source_in name before rest d e s = (s.0, e ∙ ap (λ (t : Data). json.member name t rest) s.1)

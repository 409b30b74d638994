-- One member more of an event's object.
use Rattle.std.proofs.Common.{◌≡◌, ℕ, ℤ, List, [], ◌∷◌, Bool, true, false, Option, Some, None, codes, refl, sym, ap, ◌∙◌}
use Rattle.std.specs.Prelude.{slice_get, OnSome, option_map, if◌then◌else◌}
use Rattle.json.specs.Token.{Token}
use Rattle.serde_json.specs.Data.{Data, boolean, string}
use Rattle.sab_trace.specs.declared.deed.Deed.{Deed}
use Rattle.sab_trace.specs.declared.found.Found.{Found}
use Rattle.sab_trace.specs.Deeds.{word_of}
use Rattle.sab_trace.specs.Members.{source_data}
use Rattle.sab_trace.specs.Tokens.{ReadsTo, Slots, whole, slots_of, members_of, Takes}
use Rattle.sab_trace.proofs.Slots.{are_sorted, fill, put_at}

pub on_some : {X : Type 0} {P Q : Type 0} (o : Option X) → (P → Q) → OnSome o P → OnSome o Q
on_some None f h = h
on_some (Some x) f h = f h

sorted : (found : Found) (source : Option (List ℕ)) → are_sorted (slots_of found source) ≡ true
sorted found source = refl

takes_at : (i : ℕ) (name : List ℕ) (token : Token) (tree : Data) (old new : Found) → ReadsTo token tree
    → ((source : Option (List ℕ)) → slice_get (slots_of old source) i ≡ Some (name, None))
    → ((source : Option (List ℕ)) → fill i tree (slots_of old source) ≡ slots_of new source)
    → Takes name token old new
takes_at i name token tree old new reads empty filled = (
  tree,
  reads,
  λ source. (
    source,
    put_at i name tree (slots_of old source) (sorted old source) (empty source)
        ∙ ap members_of (filled source),
  ),
)

abbrev spoken : Deed → Data
spoken deed = string (word_of deed)

-- the slot was empty, and has now what the token reads as
abbrev pub Fills : {X : Type 0} → Token → (X → Data) → Option X → Option X → Type 0
Fills {X = X} token tree old new = (x : X) × ReadsTo token (tree x) × (old ≡ None) × (new ≡ Some x)

-- each member, if it wasn't there before

pub takes_agent : (name : List ℕ) (token : Token) (old : Found) (slot : Option ℤ) → name ≡ codes "agent"
    → Fills token whole old.agent slot → Takes name token old (record old { agent = slot })
takes_agent name token old slot named f =
    rw (named, f.3) (takes_at 0 (codes "agent") token (whole f.0) old (record old { agent = Some f.0 }) f.1
    (λ source. ap (λ o. Some (codes "agent", option_map whole o)) f.2) (λ source. refl))

pub takes_atomic : (name : List ℕ) (token : Token) (old : Found) (slot : Option Bool) → name ≡ codes "atomic"
    → Fills token boolean old.atomic slot → Takes name token old (record old { atomic = slot })
takes_atomic name token old slot named f =
    rw (named, f.3) (takes_at 1 (codes "atomic") token (boolean f.0) old (record old { atomic = Some f.0 }) f.1
    (λ source. ap (λ o. Some (codes "atomic", option_map boolean o)) f.2) (λ source. refl))

pub takes_block : (name : List ℕ) (token : Token) (old : Found) (slot : Option ℤ) → name ≡ codes "block"
    → Fills token whole old.block slot → Takes name token old (record old { block = slot })
takes_block name token old slot named f =
    rw (named, f.3) (takes_at 2 (codes "block") token (whole f.0) old (record old { block = Some f.0 }) f.1
    (λ source. ap (λ o. Some (codes "block", option_map whole o)) f.2) (λ source. refl))

pub takes_byte : (name : List ℕ) (token : Token) (old : Found) (slot : Option ℤ) → name ≡ codes "byte"
    → Fills token whole old.byte slot → Takes name token old (record old { byte = slot })
takes_byte name token old slot named f =
    rw (named, f.3) (takes_at 3 (codes "byte") token (whole f.0) old (record old { byte = Some f.0 }) f.1
    (λ source. ap (λ o. Some (codes "byte", option_map whole o)) f.2) (λ source. refl))

pub takes_call : (name : List ℕ) (token : Token) (old : Found) (slot : Option ℤ) → name ≡ codes "call"
    → Fills token whole old.call slot → Takes name token old (record old { call = slot })
takes_call name token old slot named f =
    rw (named, f.3) (takes_at 4 (codes "call") token (whole f.0) old (record old { call = Some f.0 }) f.1
    (λ source. ap (λ o. Some (codes "call", option_map whole o)) f.2) (λ source. refl))

pub takes_does : (name : List ℕ) (token : Token) (old : Found) (slot : Option Deed) → name ≡ codes "does"
    → Fills token spoken old.does slot → Takes name token old (record old { does = slot })
takes_does name token old slot named f =
    rw (named, f.3) (takes_at 5 (codes "does") token (spoken f.0) old (record old { does = Some f.0 }) f.1
    (λ source. ap (λ o. Some (codes "does", option_map spoken o)) f.2) (λ source. refl))

pub takes_event : (name : List ℕ) (token : Token) (old : Found) (slot : Option ℤ) → name ≡ codes "event"
    → Fills token whole old.event slot → Takes name token old (record old { event = slot })
takes_event name token old slot named f =
    rw (named, f.3) (takes_at 6 (codes "event") token (whole f.0) old (record old { event = Some f.0 }) f.1
    (λ source. ap (λ o. Some (codes "event", option_map whole o)) f.2) (λ source. refl))

pub takes_read : (name : List ℕ) (token : Token) (old : Found) (slot : Option Bool) → name ≡ codes "read"
    → Fills token boolean old.read slot → Takes name token old (record old { read = slot })
takes_read name token old slot named f =
    rw (named, f.3) (takes_at 7 (codes "read") token (boolean f.0) old (record old { read = Some f.0 }) f.1
    (λ source. ap (λ o. Some (codes "read", option_map boolean o)) f.2) (λ source. refl))

pub takes_size : (name : List ℕ) (token : Token) (old : Found) (slot : Option ℤ) → name ≡ codes "size"
    → Fills token whole old.size slot → Takes name token old (record old { size = slot })
takes_size name token old slot named f =
    rw (named, f.3) (takes_at 8 (codes "size") token (whole f.0) old (record old { size = Some f.0 }) f.1
    (λ source. ap (λ o. Some (codes "size", option_map whole o)) f.2) (λ source. refl))

pub takes_source : (name : List ℕ) (token : Token) (old : Found) → name ≡ codes "source" → old.has_source ≡ false
    → (source_found : Option (List ℕ)) × ReadsTo token (source_data source_found)
    → Takes name token old (record old { has_source = true })
takes_source name token old named empty t =
    rw named (
      source_data t.0,
      t.1,
      λ source. (
        t.0,
        put_at 9 (codes "source") (source_data t.0) (slots_of old source) (sorted old source)
            (ap (λ b. Some (codes "source", if b then Some (source_data source) else None)) empty),
      ),
    )

pub takes_waiters : (name : List ℕ) (token : Token) (old : Found) (slot : Option Bool) → name ≡ codes "waiters"
    → Fills token boolean old.waiters slot → Takes name token old (record old { waiters = slot })
takes_waiters name token old slot named f =
    rw (named, f.3) (takes_at 10 (codes "waiters") token (boolean f.0) old (record old { waiters = Some f.0 }) f.1
    (λ source. ap (λ o. Some (codes "waiters", option_map boolean o)) f.2) (λ source. refl))

pub takes_write : (name : List ℕ) (token : Token) (old : Found) (slot : Option Bool) → name ≡ codes "write"
    → Fills token boolean old.write slot → Takes name token old (record old { write = slot })
takes_write name token old slot named f =
    rw (named, f.3) (takes_at 11 (codes "write") token (boolean f.0) old (record old { write = Some f.0 }) f.1
    (λ source. ap (λ o. Some (codes "write", option_map boolean o)) f.2) (λ source. refl))

-- Tokens that are values by themselves.
use Rattle.std.proofs.Common.{◌≡◌, ℕ, ℤ, List, Bool, Option, Some, None, refl, sym, ap, ◌∙◌}
use Rattle.std.specs.Prelude.{IfSome}
use Rattle.json.specs.Token.{Token}
use Rattle.json.specs.Json as text
use Rattle.serde_json.specs.Data.{boolean, number, string, null}
use Rattle.serde_json.specs.Find.{of_integer}
use Rattle.serde_json.specs.Read.{number_of, of_json}
use Rattle.sab_trace.specs.Tokens.{ReadsTo, whole}

pub if_some : {X : Type 0} {P Q : X → Type 0} (o : Option X) → ((x : X) → P x → Q x) → IfSome o P → IfSome o Q
if_some None f h = h
if_some (Some x) f h = f x h

pub number_reads : (token : Token) (s : List ℕ) (z : ℤ) → token ≡ Token.number s → number_of s ≡ Some (of_integer z)
    → ReadsTo token (whole z)
number_reads token s z is read = rw is (record { value = text.number s; one = refl; flat = refl; is = rw read refl })

pub flag_reads : (token : Token) (b : Bool) → token ≡ Token.boolean b → ReadsTo token (boolean b)
flag_reads token b is = rw is (record { value = text.boolean b; one = refl; flat = refl; is = refl })

pub text_reads : (token : Token) (s : List ℕ) → token ≡ Token.string s → ReadsTo token (string s)
text_reads token s is = rw is (record { value = text.string s; one = refl; flat = refl; is = refl })

pub null_reads : (token : Token) → token ≡ Token.null → ReadsTo token null
null_reads token is = rw is (record { value = text.null; one = refl; flat = refl; is = refl })

-- The place where a text stops being JSON, byte by byte.
use Rattle.std.specs.Prelude.{ℕ, suc, ◌≤◌, Bool, true, false, ◌==◌, ◌&&◌, List, [], ◌∷◌, ◌++◌, drop, Option, Some, None, Result, Ok, Err, if◌then◌else◌}
use Rattle.std.specs.Str.Lossy.{utf8_valid_len, utf8_error_len}
use Rattle.sab_refusal.specs.declared.syntax.fault.Fault.TheVariants.{NotUtf8}
use Rattle.sab_refusal.specs.declared.syntax.reader.Reader.{Reader}
use Rattle.sab_refusal.specs.declared.syntax.reader.Slip.{Slip}
use Rattle.sab_refusal.specs.declared.syntax.reader.Slip.TheVariants as S
use Rattle.sab_refusal.specs.declared.syntax.stop.Stop.{Stop}
use Rattle.sab_refusal.specs.declared.syntax.stop.Stop.TheVariants.{Token, End}
use Rattle.sab_refusal.specs.Syntax.Number.{is_in_range}
use Rattle.sab_refusal.specs.Syntax.Reader.{Step, opening, is_between, is_in_string, step}

-- a place is there, and is this one
abbrev pub is_place : Option ℕ → ℕ → Bool
is_place None at = false
is_place (Some place) at = place == at

abbrev pub broken_by : Option ℕ → ℕ → Option ℕ
broken_by None n = None
broken_by (Some len) n = Some n

-- how many bytes are before those of which no character begins, if there are such
abbrev pub broken_of : List ℕ → Option ℕ
broken_of text = broken_by (utf8_error_len (drop (utf8_valid_len text) text)) (utf8_valid_len text)

-- the place of a slip, by where its token and its byte are
abbrev pub stop_at : Slip → ℕ → ℕ → Stop
stop_at (S.Token fault) start at = Token start fault
stop_at (S.Byte fault) start at = Token at fault

-- where the next token begins, and what it has so far
abbrev pub start_after : Bool → ℕ → ℕ → ℕ
start_after true start at = suc at
start_after false start at = start

abbrev pub token_after : Bool → List ℕ → ℕ → List ℕ
token_after true token b = []
token_after false token b = token ++ b ∷ []

-- by the step of the byte there
abbrev pub stop_by : (Reader → ℕ → List ℕ → Stop) → Step → ℕ → List ℕ → ℕ → ℕ → Stop
stop_by go (Err slip) start token at b = stop_at slip start at
stop_by go (Ok r) start token at b =
    go r (start_after (is_between r.inside) start at) (token_after (is_between r.inside) token b)

-- from the byte there on, where a token began there and has these bytes so far
unfoldable pub walk : Option ℕ → Reader → ℕ → List ℕ → ℕ → List ℕ → Stop
walk broken r start token at [] = End
walk broken r start token at (b ∷ bs) =
    if is_place broken at && is_in_string r.inside then Token start NotUtf8
    else stop_by (λ r' start' token'. walk broken r' start' token' (suc at) bs)
    (step is_in_range r token b) start token at b

abbrev pub stop_of : List ℕ → Stop
stop_of text = walk (broken_of text) opening 0 [] 0 text

-- a stop's token begins within so many bytes
abbrev pub IsWithin : ℕ → Stop → Type 0
IsWithin n (Token at fault) = at ≤ n
IsWithin n End = Unit {0}

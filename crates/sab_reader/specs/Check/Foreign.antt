-- What stands in a text, outside of its strings, and isn't JSON.
use Rattle.std.specs.Prelude.{◌≡◌, ℕ, ◌<◌, ◌==◌, ◌&&◌, ◌||◌, not, nat_eq, Bool, true, List, [], ◌∷◌, ◌++◌, length, take, drop, fold, find, slice_get, Option, Some, None, codes, if◌then◌else◌}
use Rattle.std.specs.List.{starts_with}
use Rattle.std.specs.Char.{is_ascii_alphanumeric}
use Rattle.sab_reader.specs.declared.check.foreign.Foreign.{Foreign}
use Rattle.sab_reader.specs.declared.check.foreign.Foreign.TheVariants.{Nan, Infinity, Undefined, Comment, SingleQuote, Mark, CommaBeforeBracket, CommaBeforeBrace}
use Rattle.sab_reader.specs.declared.check.scanning.Side.{Side}
use Rattle.sab_reader.specs.declared.check.scanning.Side.TheVariants.{Outside, Inside, Escaped}
use Rattle.sab_reader.specs.declared.check.scanning.ForeignAt.{ForeignAt}
use Rattle.sab_refusal.specs.declared.syntax.spot.Spot.{Spot}
use Rattle.sab_refusal.specs.Syntax.Spot.{spot_text}

-- Strings: a quote begins one, and the next quote that isn't behind a backslash ends it.

-- where the byte behind this one stands
abbrev pub side_behind : Side → ℕ → Side
side_behind Outside b = if b == 34 then Inside else Outside
side_behind Inside b = if b == 34 then Outside else if b == 92 then Escaped else Inside
side_behind Escaped b = Inside

-- where the byte behind these stands
abbrev pub side_after : List ℕ → Side
side_after bytes = fold side_behind Outside bytes

-- What JSON hasn't.

abbrev pub begins_with : List ℕ → List ℕ → Bool
begins_with word text = starts_with nat_eq text word

-- a letter, a digit, a low line or a dollar sign
abbrev pub is_word_byte : ℕ → Bool
is_word_byte b = is_ascii_alphanumeric b || b == 95 || b == 36

abbrev pub ends_word : Option ℕ → Bool
ends_word None = true
ends_word (Some b) = not (is_word_byte b)

-- a word begins the text, and ends
abbrev pub begins_word : List ℕ → List ℕ → Bool
begins_word word text = begins_with word text && ends_word (slice_get text (length word))

-- a space, a tab, a line feed or a carriage return
abbrev pub is_white : ℕ → Bool
is_white b = b == 32 || b == 9 || b == 10 || b == 13

-- a comma, by what is next behind it
abbrev pub comma_by : Option ℕ → Option Foreign
comma_by None = None
comma_by (Some b) =
    if b == 93 then Some CommaBeforeBracket else if b == 125 then Some CommaBeforeBrace else None

-- a comma begins the text, and a closing bracket or brace is next
abbrev pub comma_before : List ℕ → Option Foreign
comma_before [] = None
comma_before (b ∷ rest) = if b == 44 then comma_by (find (λ c. not (is_white c)) rest) else None

-- what the text begins with that JSON hasn't
abbrev pub foreign_at : List ℕ → Option Foreign
foreign_at text =
    if begins_word (codes "NaN") text then Some Nan
    else if begins_word (codes "Infinity") text || begins_word (codes "-Infinity") text then Some Infinity
    else if begins_word (codes "undefined") text then Some Undefined
    else if begins_with (codes "//") text || begins_with (codes "/*") text then Some Comment
    else if begins_with (codes "'") text then Some SingleQuote
    else if begins_with (239 ∷ 187 ∷ 191 ∷ []) text then Some Mark
    else comma_before text

-- the same, of a text whose first byte stands there
abbrev pub foreign_on : Side → List ℕ → Option Foreign
foreign_on Outside text = foreign_at text
foreign_on Inside text = None
foreign_on Escaped text = None

-- what stands behind so many bytes of a text, outside of strings, that JSON hasn't
abbrev pub foreign_behind : List ℕ → ℕ → Option Foreign
foreign_behind text k = foreign_on (side_after (take k text)) (drop k text)

-- nothing does behind fewer bytes than these
abbrev pub HasNoneBefore : List ℕ → ℕ → Type 0
HasNoneBefore text n = (k : ℕ) → k < n → foreign_behind text k ≡ None

-- the first thing outside of strings that JSON hasn't, or none where there is none
abbrev pub FindsFirst : List ℕ → Option ForeignAt → Type 0
FindsFirst text None = HasNoneBefore text (length text)
FindsFirst text (Some found) =
    (foreign_behind text found.at ≡ Some found.what) × HasNoneBefore text found.at

-- The texts.

abbrev pub foreign_text : Foreign → List ℕ
foreign_text Nan = codes "JSON has no NaN"
foreign_text Infinity = codes "JSON has no Infinity"
foreign_text Undefined = codes "JSON has no undefined"
foreign_text Comment = codes "JSON has no comments"
foreign_text SingleQuote = codes "JSON has no strings in single quotes"
foreign_text Mark = codes "JSON has no byte order mark"
foreign_text CommaBeforeBracket = codes "a comma before ]: JSON has no trailing commas"
foreign_text CommaBeforeBrace = codes "a comma before }: JSON has no trailing commas"

-- where, what, and why
abbrev pub foreign_line : Spot → Foreign → List ℕ
foreign_line spot what = spot_text spot ++ (codes ": 16 NotJson: " ++ foreign_text what)

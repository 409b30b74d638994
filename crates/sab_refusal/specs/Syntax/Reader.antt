-- What a text's tokens so far let come next, byte by byte.
use Rattle.std.specs.Prelude.{◌≡◌, ℕ, Bool, true, false, not, ◌==◌, ◌&&◌, ◌||◌, List, [], ◌∷◌, length, drop, slice_get, Option, Some, None, Result, Ok, Err, if◌then◌else◌}
use Rattle.std.specs.Char.{is_ascii_alphabetic}
use Rattle.sab_refusal.specs.declared.syntax.brackets.Bracket.{Bracket}
use Rattle.sab_refusal.specs.declared.syntax.brackets.Bracket.TheVariants.{Array, Object}
use Rattle.sab_refusal.specs.declared.syntax.brackets.TheConstants.Brackets.{ROOM}
use Rattle.sab_refusal.specs.declared.syntax.fault.Expected.{Expected}
use Rattle.sab_refusal.specs.declared.syntax.fault.Expected.TheVariants as E
use Rattle.sab_refusal.specs.declared.syntax.fault.Fault.{Fault}
use Rattle.sab_refusal.specs.declared.syntax.fault.Fault.TheVariants as F
use Rattle.sab_refusal.specs.declared.syntax.literal.Literal.{Literal}
use Rattle.sab_refusal.specs.declared.syntax.number_part.NumberPart.{NumberPart}
use Rattle.sab_refusal.specs.declared.syntax.string_part.StringPart.{StringPart}
use Rattle.sab_refusal.specs.declared.syntax.string_part.StringPart.TheVariants.{Plain}
use Rattle.sab_refusal.specs.declared.syntax.reader.Next.{Next}
use Rattle.sab_refusal.specs.declared.syntax.reader.Next.TheVariants.{First, Value, Name, Colon, After}
use Rattle.sab_refusal.specs.declared.syntax.reader.Inside.{Inside}
use Rattle.sab_refusal.specs.declared.syntax.reader.Inside.TheVariants as I
use Rattle.sab_refusal.specs.declared.syntax.reader.Slip.{Slip}
use Rattle.sab_refusal.specs.declared.syntax.reader.Slip.TheVariants as S
use Rattle.sab_refusal.specs.declared.syntax.reader.Reader.{Reader}
use Rattle.sab_refusal.specs.Syntax.Brackets.{same_bracket, innermost}
use Rattle.sab_refusal.specs.Syntax.Literal.{letters_of, literal_at}
use Rattle.sab_refusal.specs.Syntax.Number.{first_part, part_behind, is_complete}
use Rattle.sab_refusal.specs.Syntax.String.{Behind, string_behind}

-- a reader
abbrev pub reader : Inside → Next → List Bracket → Reader
reader inside next brackets = record { inside = inside; next = next; brackets = brackets }

-- before a text
abbrev pub opening : Reader
opening = reader I.Nothing Value []

abbrev pub is_between : Inside → Bool
is_between I.Nothing = true
is_between (I.String part) = false
is_between (I.Literal literal) = false
is_between (I.Number part) = false

abbrev pub is_in_string : Inside → Bool
is_in_string I.Nothing = false
is_in_string (I.String part) = true
is_in_string (I.Literal literal) = false
is_in_string (I.Number part) = false

-- a value can come next
abbrev pub value_by : Next → Option Bracket → Bool
value_by First (Some Array) = true
value_by First (Some Object) = false
value_by First None = false
value_by Value last = true
value_by Name last = false
value_by Colon last = false
value_by After last = false

abbrev pub takes_value : Next → List Bracket → Bool
takes_value next brackets = value_by next (innermost brackets)

-- a name can come next
abbrev pub name_by : Next → Option Bracket → Bool
name_by First (Some Array) = false
name_by First (Some Object) = true
name_by First None = false
name_by Value last = false
name_by Name (Some Array) = false
name_by Name (Some Object) = true
name_by Name None = false
name_by Colon last = false
name_by After last = false

abbrev pub takes_name : Next → List Bracket → Bool
takes_name next brackets = name_by next (innermost brackets)

-- the bracket that closes can come next
abbrev pub may_close : Next → Bool
may_close First = true
may_close Value = false
may_close Name = false
may_close Colon = false
may_close After = true

-- what can come next
abbrev pub expected_by : Next → Option Bracket → Expected
expected_by First None = E.ValueOrBracket
expected_by First (Some Array) = E.ValueOrBracket
expected_by First (Some Object) = E.NameOrBrace
expected_by Value last = E.Value
expected_by Name last = E.Name
expected_by Colon last = E.Colon
expected_by After None = E.End
expected_by After (Some Array) = E.CommaOrBracket
expected_by After (Some Object) = E.CommaOrBrace

abbrev pub expected_of : Next → List Bracket → Expected
expected_of next brackets = expected_by next (innermost brackets)

-- how far a text is read, or what is wrong
abbrev pub Step : Type 0
Step = Result Reader Slip

abbrev pub unexpected : Reader → Step
unexpected r = Err (S.Byte (F.Unexpected (expected_of r.next r.brackets)))

-- Brackets, commas and colons.

abbrev pub open_bracket : Reader → Bracket → Step
open_bracket r b =
    if takes_value r.next r.brackets then (if length r.brackets == ROOM then Err (S.Byte F.TooDeep) else Ok
    (reader r.inside First (b ∷ r.brackets)))
    else unexpected r

-- whether this closes the innermost
abbrev pub closes : Option Bracket → Bracket → Bool
closes None b = false
closes (Some last) b = same_bracket last b

abbrev pub close_bracket : Reader → Bracket → Step
close_bracket r b =
    if may_close r.next && closes (innermost r.brackets) b then Ok (reader r.inside After
    (drop 1 r.brackets)) else unexpected r

-- what comes behind a comma
abbrev pub behind_comma : Next → Option Bracket → Option Next
behind_comma First last = None
behind_comma Value last = None
behind_comma Name last = None
behind_comma Colon last = None
behind_comma After None = None
behind_comma After (Some Array) = Some Value
behind_comma After (Some Object) = Some Name

abbrev pub going_on : Reader → Option Next → Step
going_on r None = unexpected r
going_on r (Some next) = Ok (reader r.inside next r.brackets)

abbrev pub pass_comma : Reader → Step
pass_comma r = going_on r (behind_comma r.next (innermost r.brackets))

abbrev pub behind_colon : Next → Option Next
behind_colon First = None
behind_colon Value = None
behind_colon Name = None
behind_colon Colon = Some Value
behind_colon After = None

abbrev pub pass_colon : Reader → Step
pass_colon r = going_on r (behind_colon r.next)

abbrev pub by_operator : Reader → ℕ → Step
by_operator r b =
    if b == 91 then open_bracket r Array else if b == 123 then open_bracket r Object
    else if b == 93 then close_bracket r Array else if b == 125 then close_bracket r Object
    else if b == 44 then pass_comma r else pass_colon r

-- Strings, words and numbers.

abbrev pub begin_string : Reader → Step
begin_string r =
    if takes_value r.next r.brackets then Ok (reader (I.String Plain) After r.brackets)
    else if takes_name r.next r.brackets then Ok (reader (I.String Plain) Colon r.brackets) else unexpected r

-- what the bytes of a word or a number are in, by what its first byte begins
abbrev pub inside_by : Option Literal → Option NumberPart → Option Inside
inside_by None None = None
inside_by None (Some part) = Some (I.Number part)
inside_by (Some literal) part = Some (I.Literal literal)

abbrev pub inside_at : ℕ → Option Inside
inside_at b = inside_by (literal_at b) (first_part b)

-- what is wrong with a word that begins so
abbrev pub no_word : Reader → ℕ → Slip
no_word r b = if is_ascii_alphabetic b then S.Byte F.Word else S.Byte (F.Unexpected (expected_of r.next r.brackets))

abbrev pub begin_inside : Reader → Option Inside → ℕ → Step
begin_inside r None b = Err (no_word r b)
begin_inside r (Some inside) b = Ok (reader inside After r.brackets)

abbrev pub begin_word : Reader → ℕ → Step
begin_word r b = if takes_value r.next r.brackets then begin_inside r (inside_at b) b else unexpected r

abbrev pub is_operator : ℕ → Bool
is_operator b = b == 123 || b == 125 || b == 91 || b == 93 || b == 58 || b == 44

-- a space, a tab, a line feed or a carriage return
abbrev pub is_white : ℕ → Bool
is_white b = b == 32 || b == 9 || b == 10 || b == 13

-- no word and no number goes on with it
abbrev pub ends_word : ℕ → Bool
ends_word b = is_operator b || is_white b || b == 34

-- a byte that is in no token, or begins one
abbrev pub begin_in : Reader → ℕ → Step
begin_in r b =
    if is_white b then Ok r else if b == 34 then begin_string r else if is_operator b then by_operator r b else
    begin_word r b

abbrev pub begin : Reader → ℕ → Step
begin r b = begin_in (reader I.Nothing r.next r.brackets) b

-- Within a token.

abbrev pub string_by : Reader → Behind → Step
string_by r (Ok None) = Ok (reader I.Nothing r.next r.brackets)
string_by r (Ok (Some part)) = Ok (reader (I.String part) r.next r.brackets)
string_by r (Err fault) = Err (S.Token fault)

abbrev pub in_string : Reader → StringPart → ℕ → Step
in_string r part b = string_by r (string_behind part b)

-- a word, by the letter that comes next
abbrev pub literal_by : Reader → Option ℕ → ℕ → Step
literal_by r None b = if ends_word b then begin r b else Err (S.Token F.Word)
literal_by r (Some letter) b = if letter == b then Ok r else Err (S.Token F.Word)

abbrev pub in_literal : Reader → Literal → List ℕ → ℕ → Step
in_literal r literal token b = literal_by r (slice_get (letters_of literal) (length token)) b

abbrev pub number_by : Reader → Option NumberPart → Step
number_by r None = Err (S.Token F.Number)
number_by r (Some part) = Ok (reader (I.Number part) r.next r.brackets)

-- Of the numbers of JSON, some are read.
abbrev pub NumberTest : Type 0
NumberTest = List ℕ → Bool

-- a number that has ended
abbrev pub number_end : NumberTest → Reader → NumberPart → List ℕ → ℕ → Step
number_end ok r part token b =
    if is_complete part then (if ok token then begin r b else Err (S.Token F.TooLarge)) else Err (S.Token F.Number)

abbrev pub in_number : NumberTest → Reader → NumberPart → List ℕ → ℕ → Step
in_number ok r part token b = if ends_word b then number_end ok r part token b else number_by r (part_behind part b)

abbrev pub step_in : NumberTest → Inside → Reader → List ℕ → ℕ → Step
step_in ok I.Nothing r token b = begin r b
step_in ok (I.String part) r token b = in_string r part b
step_in ok (I.Literal literal) r token b = in_literal r literal token b
step_in ok (I.Number part) r token b = in_number ok r part token b

-- the next byte, where these bytes are before it of the token that it is in
abbrev pub step : NumberTest → Reader → List ℕ → ℕ → Step
step ok r token b = step_in ok r.inside r token b

-- a function does a step
abbrev pub Steps : Step → Result (Unit {0}) Slip → Reader → Type 0
Steps want (Ok done) new = want ≡ Ok new
Steps want (Err slip) new = want ≡ Err slip

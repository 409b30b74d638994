-- The parts of a string, byte by byte.
use Rattle.std.specs.Prelude.{ℕ, Bool, true, false, ◌==◌, ◌||◌, ◌&&◌, nat_lt, nat_le, Option, Some, None, Result, Ok, Err, if◌then◌else◌}
use Rattle.std.specs.Char.{is_ascii_digit}
use Rattle.sab_refusal.specs.declared.syntax.fault.Fault.{Fault}
use Rattle.sab_refusal.specs.declared.syntax.fault.Fault.TheVariants as F
use Rattle.sab_refusal.specs.declared.syntax.string_part.StringPart.{StringPart}
use Rattle.sab_refusal.specs.declared.syntax.string_part.StringPart.TheVariants.{Plain, Escape, First, Second, Third, Fourth, Pair, PairEscape, PairFirst, PairSecond, PairThird, PairFourth}

-- what the next byte belongs to, or that the string ends
abbrev pub Behind : Type 0
Behind = Result (Option StringPart) Fault

abbrev pub plain_to : ℕ → Behind
plain_to b =
    if b == 34 then Ok None else if b == 92 then Ok (Some Escape) else if nat_lt b 32 then Err F.Control else Ok
    (Some Plain)

abbrev pub is_escape : ℕ → Bool
is_escape b = b == 34 || b == 92 || b == 47 || b == 98 || b == 102 || b == 110 || b == 114 || b == 116

abbrev pub escape_to : ℕ → Behind
escape_to b = if b == 117 then Ok (Some First) else if is_escape b then Ok (Some Plain) else Err F.Escape

abbrev pub is_hex : ℕ → Bool
is_hex b = is_ascii_digit b || (nat_le 97 b && nat_le b 102) || (nat_le 65 b && nat_le b 70)

-- from c to f
abbrev pub is_from_c : ℕ → Bool
is_from_c b = (nat_le 99 b && nat_le b 102) || (nat_le 67 b && nat_le b 70)

abbrev pub is_d : ℕ → Bool
is_d b = b == 100 || b == 68

abbrev pub digit_to : ℕ → StringPart → Behind
digit_to b part = if is_hex b then Ok (Some part) else Err F.Escape

abbrev pub surrogate_to : ℕ → Behind
surrogate_to b = if is_from_c b then Err F.Surrogate else digit_to b (Third (nat_le 56 b))

abbrev pub pair_to : ℕ → ℕ → StringPart → Behind
pair_to b wanted part = if b == wanted then Ok (Some part) else Err F.Surrogate

abbrev pub second_to : ℕ → Bool → StringPart → Behind
second_to b is_second part = if is_second then Ok (Some part) else if is_hex b then Err F.Surrogate else Err F.Escape

abbrev pub string_behind : StringPart → ℕ → Behind
string_behind Plain b = plain_to b
string_behind Escape b = escape_to b
string_behind First b = digit_to b (Second (is_d b))
string_behind (Second false) b = digit_to b (Third false)
string_behind (Second true) b = surrogate_to b
string_behind (Third is_first) b = digit_to b (Fourth is_first)
string_behind (Fourth false) b = digit_to b Plain
string_behind (Fourth true) b = digit_to b Pair
string_behind Pair b = pair_to b 92 PairEscape
string_behind PairEscape b = pair_to b 117 PairFirst
string_behind PairFirst b = second_to b (is_d b) PairSecond
string_behind PairSecond b = second_to b (is_from_c b) PairThird
string_behind PairThird b = digit_to b PairFourth
string_behind PairFourth b = digit_to b Plain

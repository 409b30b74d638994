-- The starts of texts, shown safely.
use Rattle.std.specs.Prelude.{ℕ, ◌/◌, ◌%◌, ◌==◌, ◌&&◌, ◌||◌, not, Bool, false, List, [], ◌∷◌, ◌++◌, take, flat_map, codes, if◌then◌else◌}
use Rattle.std.specs.Char.{is_ascii_graphic}
use Rattle.std.specs.Fmt.{digits}
use Rattle.sab_refusal.specs.declared.excerpt.Excerpt.{Excerpt}

-- the bytes that an excerpt has
abbrev pub bytes_of : Excerpt → List ℕ
bytes_of e = take e.len e.bytes

-- whether the text has more
abbrev pub is_cut_of : Excerpt → Bool
is_cut_of e = e.is_cut

-- ASCII that prints, or a space; but no quote and no backslash
abbrev pub is_plain : ℕ → Bool
is_plain b = (is_ascii_graphic b || b == 32) && (not (b == 34) && not (b == 92))

-- a byte as it is, or \x and its two hexadecimal digits
abbrev pub shown : ℕ → List ℕ
shown b = if is_plain b then b ∷ [] else codes "\\x" ++ (digits 16 false (b / 16) ++ digits 16 false (b % 16))

-- without quotes
abbrev pub bare_text : Excerpt → List ℕ
bare_text e = flat_map shown (bytes_of e)

-- in quotes, and with two dots behind them where there is more
abbrev pub excerpt_text : Excerpt → List ℕ
excerpt_text e = codes "\"" ++ (bare_text e ++ (if is_cut_of e then codes "\".." else codes "\""))

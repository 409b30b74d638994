-- What the texts that are read begin with.
use Rattle.std.specs.Prelude.{◌≡◌, ◌⊎◌, ℕ, ◌+◌, ◌-◌, ◌<◌, ◌≤◌, true, List, [], ◌∷◌, ◌++◌, length, take, slice_index, Option, Some, IsUtf8, option_and_then}
use Rattle.json.specs.Json as json
use Rattle.json.specs.Lex.{tokens}
use Rattle.serde_json.specs.Data.{Data}
use Rattle.serde_json.specs.Read.{read, max_depth}
use Rattle.sab_refusal.specs.declared.syntax.fault.Fault.TheVariants.{NotUtf8}
use Rattle.sab_refusal.specs.declared.syntax.stop.Stop.{Stop}
use Rattle.sab_refusal.specs.declared.syntax.stop.Stop.TheVariants.{Token, End}
use Rattle.sab_refusal.specs.Syntax.Reader.{ends_word}
use Rattle.sab_refusal.specs.Syntax.Stop.{broken_of}

-- serde_json reads a text
abbrev pub IsRead : List ℕ → Type 0
IsRead text = (tree : Data) × IsUtf8 text × (read text ≡ Some tree)

-- the value that a text is by JSON's grammar, with numbers of any size and as many brackets as serde_json reads
abbrev pub form : List ℕ → Option json.Json
form text = option_and_then (λ p. json.if_last p.0 p.1) (json.value max_depth (tokens text))

abbrev pub IsFormed : List ℕ → Type 0
IsFormed text = (j : json.Json) × IsUtf8 text × (form text ≡ Some j)

-- some text that is so begins with the bytes
abbrev pub BeginsRead : List ℕ → Type 0
BeginsRead bytes = (rest : List ℕ) × IsRead (bytes ++ rest)

abbrev pub BeginsFormed : List ℕ → Type 0
BeginsFormed bytes = (rest : List ℕ) × IsFormed (bytes ++ rest)

-- each beginning of fewer bytes, if it is UTF-8, begins a text of JSON
abbrev pub AreBegun : List ℕ → ℕ → Type 0
AreBegun text n = (k : ℕ) → k < n → IsUtf8 (take k text) → BeginsFormed (take k text)

-- no text that is read begins with so many bytes, and the last of them is at the token's place or behind it; some text of
-- JSON, with numbers of any size, begins with each smaller number of them
pub record StopsBehind (text : List ℕ) (at n : ℕ) : Type 0 where
  pub behind : at < n
  pub within : n ≤ length text
  pub none : BeginsRead (take n text) → ⊥
  pub begun : AreBegun text n
  -- if only the size of a number is wrong, the last of the bytes has ended it
  pub judged : (BeginsFormed (take n text) → ⊥) ⊎ (ends_word (slice_index text (n - 1)) ≡ true)

-- where a token can begin or end: at an end of the text, or beside a byte that ends words
abbrev pub IsEdge : List ℕ → ℕ → Type 0
IsEdge text k =
    (k ≡ 0) ⊎ ((k ≡ length text)
    ⊎ ((ends_word (slice_index text k) ≡ true) ⊎ (ends_word (slice_index text (k - 1)) ≡ true)))

-- the bytes, closed by a line feed, begin a text that is read
abbrev pub AreWhole : List ℕ → Type 0
AreWhole bytes = BeginsRead (bytes ++ 10 ∷ [])

-- The first byte of the first broken token: everything before it is whole, and nothing longer is whole up to an edge.
-- An edge within a string is never whole, since no string goes on behind a line feed.
pub record IsFirstBroken (text : List ℕ) (at : ℕ) : Type 0 where
  pub edge : IsEdge text at
  pub whole : AreWhole (take at text)
  pub last : (k : ℕ) → at < k → k ≤ length text → IsEdge text k → AreWhole (take k text) → ⊥

-- each beginning whose last byte ends words, if it is UTF-8, begins a text that is read
abbrev pub AreEnded : List ℕ → ℕ → Type 0
AreEnded text n = (k : ℕ) → k < n → ends_word (slice_index text k) ≡ true → IsUtf8 (take (k + 1) text)
    → BeginsRead (take (k + 1) text)

-- some bytes begin no character
abbrev pub IsNotUtf8 : List ℕ → Type 0
IsNotUtf8 text = ((n : ℕ) × (broken_of text ≡ Some n)) × (IsUtf8 text → ⊥)

-- A text stops being JSON at the first byte of its first broken token, by its first so many bytes or as it isn't UTF-8.
-- Or it ends too early: some text of JSON, with numbers of any size, begins with it, and each token that ended is whole.
abbrev pub StopsAt : List ℕ → Stop → Type 0
StopsAt text (Token at fault) =
    IsFirstBroken text at × (((n : ℕ) × StopsBehind text at n) ⊎ ((fault ≡ NotUtf8) × IsNotUtf8 text))
StopsAt text End = BeginsFormed text × AreEnded text (length text)

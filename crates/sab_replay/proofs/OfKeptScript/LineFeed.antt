-- A text that was printed reads with a line feed at its end as it does without.
use Rattle.std.proofs.Common.{◌≡◌, ℕ, Bool, true, false, cond, ◌&&◌, List, [], ◌∷◌, ◌++◌, option_and_then, refl, sym, ap, ap₂, ◌∙◌, append_assoc}
use Rattle.std.specs.Prelude.{IsUtf8}
use Rattle.std.proofs.lemmas.Str.{IsUtf8-append}
use Rattle.json.specs.Token.{Token, begin_object, end_object, begin_array, end_array, key, string, number, boolean, null, bad}
use Rattle.json.specs.Word.{ends_word, word}
use Rattle.json.specs.Json as json
use Rattle.json.specs.Lex.{Lexeme, token, comma, colon, string_token, lex, between, fresh, punctuate, tokens}
use Rattle.json.specs.Print.{escape, quoted, token_text, begins, ends, separator, print_from, print, IsPrintableOrBad, ArePrintableOrBad}
use Rattle.json.proofs.Numbered.{ArePrintableOrBad-tokens}
use Rattle.json.proofs.Printed.Strings.{content-escape, lex-escape}
use Rattle.json.proofs.Printed.Numbers.{lex-number, in_word-ended}
use Rattle.json.proofs.Printed.Utf8.{IsUtf8-are_ascii}
use Rattle.serde_json.specs.Read.{of_json, read, max_depth}

-- a line feed
abbrev feed : List ℕ
feed = 10 ∷ []

abbrev lexemes_of : Token → List Lexeme
lexemes_of begin_object = token begin_object ∷ []
lexemes_of end_object = token end_object ∷ []
lexemes_of begin_array = token begin_array ∷ []
lexemes_of end_array = token end_array ∷ []
lexemes_of (key s) = token (string s) ∷ colon ∷ []
lexemes_of (string s) = token (string s) ∷ []
lexemes_of (number s) = token (number s) ∷ []
lexemes_of (boolean b) = token (boolean b) ∷ []
lexemes_of null = token null ∷ []
lexemes_of bad = []

lex_quoted : (s r : List ℕ) → lex between (quoted s ++ r) ≡ token (string s) ∷ lex between r
unfolding lex
lex_quoted s r =
    let e = append_assoc (escape s) (34 ∷ []) r in
    ap (λ l. lex between (34 ∷ l)) e
    ∙ ap₂ (λ o l. token (string_token o) ∷ l) (content-escape s r) (lex-escape s r)

-- a token's text is read as the token, where a word that it may be ends behind it
lex_token : (t : Token) (r : List ℕ) → IsPrintableOrBad t → (ends t ≡ true → ends_word r ≡ true)
    → lex between (token_text t ++ r) ≡ lexemes_of t ++ lex between r
unfolding lex word
lex_token begin_object r h ended = refl
lex_token end_object r h ended = refl
lex_token begin_array r h ended = refl
lex_token end_array r h ended = refl
lex_token (key s) r h ended = ap (lex between) (append_assoc (quoted s) (58 ∷ []) r) ∙ lex_quoted s (58 ∷ r)
lex_token (string s) r h ended = lex_quoted s r
lex_token (number s) r h ended = lex-number s r h (ended refl)
lex_token (boolean true) r h ended =
    ap₂ (λ b l. token (cond b (boolean true) bad) ∷ l) (ended refl) (in_word-ended r (ended refl))
lex_token (boolean false) r h ended =
    ap₂ (λ b l. token (cond b (boolean false) bad) ∷ l) (ended refl) (in_word-ended r (ended refl))
lex_token null r h ended = ap₂ (λ b l. token (cond b null bad) ∷ l) (ended refl) (in_word-ended r (ended refl))
lex_token bad r h ended = refl

lex_separator : (b : Bool) (r : List ℕ)
    → lex between (cond b (44 ∷ []) [] ++ r) ≡ cond b (comma ∷ []) [] ++ lex between r
unfolding lex
lex_separator true r = refl
lex_separator false r = refl

-- after a value stands a comma, a closing bracket, a line feed or nothing
ends_behind : (ts : List Token) → ends_word (print_from true ts) ≡ true
unfolding print_from
ends_behind [] = refl
ends_behind (begin_object ∷ ts) = refl
ends_behind (end_object ∷ ts) = refl
ends_behind (begin_array ∷ ts) = refl
ends_behind (end_array ∷ ts) = refl
ends_behind (key s ∷ ts) = refl
ends_behind (string s ∷ ts) = refl
ends_behind (number s ∷ ts) = refl
ends_behind (boolean b ∷ ts) = refl
ends_behind (null ∷ ts) = refl
ends_behind (bad ∷ ts) = refl

ends_fed : (ts : List Token) → ends_word (print_from true ts ++ feed) ≡ true
unfolding print_from
ends_fed [] = refl
ends_fed (begin_object ∷ ts) = refl
ends_fed (end_object ∷ ts) = refl
ends_fed (begin_array ∷ ts) = refl
ends_fed (end_array ∷ ts) = refl
ends_fed (key s ∷ ts) = refl
ends_fed (string s ∷ ts) = refl
ends_fed (number s ∷ ts) = refl
ends_fed (boolean b ∷ ts) = refl
ends_fed (null ∷ ts) = refl
ends_fed (bad ∷ ts) = refl

-- a separator and a token before any text
lex_first : (c : Bool) (t : Token) (r : List ℕ) → IsPrintableOrBad t → (ends t ≡ true → ends_word r ≡ true)
    → lex between (separator c t ++ (token_text t ++ r))
    ≡ cond (c && begins t) (comma ∷ []) [] ++ (lexemes_of t ++ lex between r)
lex_first c t r h ended =
    lex_separator (c && begins t) _ ∙ ap (λ l. cond (c && begins t) (comma ∷ []) [] ++ l) (lex_token t r h ended)

lex_fed : (c : Bool) (ts : List Token) → ArePrintableOrBad ts
    → lex between (print_from c ts ++ feed) ≡ lex between (print_from c ts)
unfolding lex print_from
lex_fed c [] h = refl
lex_fed c (t ∷ ts) h =
    let rest = print_from (ends t) ts in
    let grouped : (separator c t ++ (token_text t ++ rest)) ++ feed
    ≡ separator c t ++ (token_text t ++ (rest ++ feed)) =
    append_assoc (separator c t) (token_text t ++ rest) feed
    ∙ ap (λ l. separator c t ++ l) (append_assoc (token_text t) rest feed) in
    ap (lex between) grouped
    ∙ lex_first c t (rest ++ feed) h.0 (λ e. ap (λ b. ends_word (print_from b ts ++ feed)) e ∙ ends_fed ts)
    ∙ ap (λ l. cond (c && begins t) (comma ∷ []) [] ++ (lexemes_of t ++ l)) (lex_fed (ends t) ts h.1)
    ∙ sym (lex_first c t rest h.0 (λ e. ap (λ b. ends_word (print_from b ts)) e ∙ ends_behind ts))

-- a text that prints its own tokens has the same with a line feed
tokens_fed : (text : List ℕ) → text ≡ print (tokens text) → tokens (text ++ feed) ≡ tokens text
tokens_fed text printed =
    let fed = lex_fed false (tokens text) (ArePrintableOrBad-tokens text) in
    ap (λ s. tokens (s ++ feed)) printed ∙ ap (punctuate fresh) fed ∙ ap tokens (sym printed)

pub read_line : (text : List ℕ) → text ≡ print (tokens text) → read (text ++ feed) ≡ read text
read_line text printed =
    ap (λ ts. option_and_then of_json (option_and_then (λ p. json.if_last p.0 p.1) (json.value max_depth ts)))
    (tokens_fed text printed)

pub utf8_line : (text : List ℕ) → IsUtf8 text → IsUtf8 (text ++ feed)
utf8_line text h = IsUtf8-append text feed h (IsUtf8-are_ascii feed refl)

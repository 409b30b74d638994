-- Where a text is cut into lines.
use Rattle.std.proofs.Common.{◌≡◌, ℕ, suc, ◌≤◌, ◌==◌, List, [], ◌∷◌, ◌++◌, length, false, refl, ap, ◌∙◌, arith}
use Rattle.std.proofs.lemmas.Grind.{common_steps}
use Rattle.std.proofs.lemmas.Bool.{ne_eqb}
use Rattle.sab_trace.specs.Lines.{HasNoLineFeed, in_front, lines_of}

-- a byte that is no line feed goes to the first line
in_first : (b : ℕ) (rest : List ℕ) → (b ≡ 10 → ⊥) → lines_of (b ∷ rest) ≡ in_front b (lines_of rest)
unfolding lines_of
in_first b rest other = let test : (b == 10) ≡ false = ne_eqb b 10 other in rw test refl

no_feed : (rest : List ℕ) → lines_of (10 ∷ rest) ≡ [] ∷ lines_of rest
unfolding lines_of
no_feed rest = refl

pub none_of_none : lines_of [] ≡ []
unfolding lines_of
none_of_none = refl

head_in : (b : ℕ) (bs : List ℕ) → HasNoLineFeed (b ∷ bs) → b ≡ 10 → ⊥
head_in b bs h = h 0 b (omega arith)

tail_in : (b : ℕ) (bs : List ℕ) → HasNoLineFeed (b ∷ bs) → HasNoLineFeed bs
tail_in b bs h = λ k d lt. h (suc k) d (omega arith)

-- a line, and the line feed that ends it
pub ended_line : (line rest : List ℕ) → HasNoLineFeed line → lines_of (line ++ 10 ∷ rest) ≡ line ∷ lines_of rest
ended_line [] rest h = no_feed rest
ended_line (b ∷ bs) rest h =
    in_first b (bs ++ 10 ∷ rest) (head_in b bs h) ∙ ap (in_front b) (ended_line bs rest (tail_in b bs h))

-- the last line, without one
pub last_line : (b : ℕ) (bs : List ℕ) → HasNoLineFeed (b ∷ bs) → lines_of (b ∷ bs) ≡ (b ∷ bs) ∷ []
last_line b [] h = in_first b [] (head_in b [] h) ∙ ap (in_front b) none_of_none
last_line b (d ∷ bs) h =
    in_first b (d ∷ bs) (head_in b (d ∷ bs) h) ∙ ap (in_front b) (last_line d bs (tail_in b (d ∷ bs) h))

-- the first of the lines begins with so many bytes
pub record IsFirstLong (n : ℕ) (lines : List (List ℕ)) : Type 0 where
  pub line : List ℕ
  pub rest : List (List ℕ)
  pub is : lines ≡ line ∷ rest
  pub long : n ≤ length line

longer : (b n : ℕ) (lines : List (List ℕ)) → IsFirstLong n lines → IsFirstLong (suc n) (in_front b lines)
longer b n lines h = grind (arith, common_steps, in_front)

one_long : (b : ℕ) (lines : List (List ℕ)) → IsFirstLong 1 (in_front b lines)
one_long b [] = record { line = b ∷ []; rest = []; is = refl; long = omega arith }
one_long b (l ∷ ls) = record { line = b ∷ l; rest = ls; is = refl; long = omega arith }

-- what begins a line is in it, whatever follows
pub begun_line : (b : ℕ) (bs more : List ℕ) → HasNoLineFeed (b ∷ bs)
    → IsFirstLong (length (b ∷ bs)) (lines_of ((b ∷ bs) ++ more))
begun_line b [] more h = rw (in_first b more (head_in b [] h)) (one_long b (lines_of more))
begun_line b (d ∷ bs) more h =
    rw (in_first b ((d ∷ bs) ++ more) (head_in b (d ∷ bs) h))
    (longer b (length (d ∷ bs)) (lines_of ((d ∷ bs) ++ more)) (begun_line d bs more (tail_in b (d ∷ bs) h)))

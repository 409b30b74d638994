-- What is found of the matches, by the rows of clap's specification.
use Rattle.std.proofs.Common.{◌≡◌, ◌∙◌, Option, false, subst, sym}
use Rattle.std.proofs.lemmas.Bool.{false≢true}
use Rattle.std.proofs.lemmas.Slice.Eq.{bytes_eq-Decides}
use Rattle.std.specs.Str.{bytes_eq}
use Rattle.clap.proofs.WalkLemmas.{first_value-rows, one_text-rows}
use Rattle.clap.specs.Words.{Text, first_of, first_value, one_of, one_text, rows_of}
use Rattle.clap.specs.declared.parser.matches.Found.{Found}

-- a fact about the first values that are found is one about those in the rows
pub first_by_rows : (P : (Text → Option Text) → Type 0) (f : Found) → P (first_value f) → P (λ id. first_of id (rows_of f))
first_by_rows P f holds = subst P (λ i id. first_value-rows f id i) holds

-- and so of the texts that are read as a type
pub one_by_rows : (P : (Text → Option Text) → Type 0) (f : Found) → P (one_text f) → P (λ id. one_of id (rows_of f))
one_by_rows P f holds = subst P (λ i id. one_text-rows f id i) holds

-- a name isn't two that differ
pub not_both : (name a b : Text) → bytes_eq a b ≡ false → name ≡ a → name ≡ b → ⊥
not_both name a b differ is_a is_b = false≢true (sym differ ∙ (bytes_eq-Decides a b).1 (sym is_a ∙ is_b))

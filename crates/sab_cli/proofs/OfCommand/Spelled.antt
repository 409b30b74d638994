-- Numbers as the command line spells them: the steps at a wait, and the seed.
use Rattle.std.proofs.Common.{ℕ, Option, Result, Some, None, Ok, Err, ◌≡◌, ◌∙◌, ◌<◌, ◌^◌, ap, subst, sym}
use Rattle.std.specs.Str.Parse.{ParsesUnsigned}
use Rattle.clap.specs.Words.{ReadsOne, Text}
use Rattle.sab_cli.specs.Command.Asked.{Spells}

-- if a type's `from_str` parses an unsigned number of so many bits, a text that spells one is read as that one
pub reads_number : {E : Type 0} → (bits : ℕ) (gives : Text → Result ℕ E → Type 0)
    → ((text : Text) (r : Result ℕ E) → gives text r → ParsesUnsigned bits 10 text r) →
    (text : Text) (n : ℕ) → Spells text n → n < 2 ^ bits → (r : Option ℕ) → ReadsOne gives text r → r ≡ Some n
reads_number bits gives parses text n spelled small (Some v) read =
    ap Some ((parses text (Ok v) read).1 ∙ spelled.1)
reads_number bits gives parses text n spelled small None read =
    absurd (parses text (Err read.0) read.1 (spelled.0, subst (λ (m : ℕ). m < 2 ^ bits) (sym spelled.1) small))

-- Scripts that are read from their tokens.
use Rattle.std.proofs.Common.{◌≡◌, ℕ, List, Option, Some, None, refl, arith}
use Rattle.std.specs.Prelude.{IsSome, IsUtf8}
use Rattle.json.specs.Token.{Token}
use Rattle.json.specs.Json.{Json, document}
use Rattle.json.specs.Find.{BeginsWith}
use Rattle.sab_reader.specs.Script.Plain.{HoldsTree}
use Rattle.sab_reader.specs.Script.Script.{IsScriptOf}
use Rattle.sab_reader.specs.Script.Setup.{SetupParts, Spells}
use Rattle.sab_reader.proofs.OfScript.OnlySetup.{only_setup}
use Rattle.sab_reader.proofs.OfScript.Shallow.{shallow_read}

-- what the tokens of a whole text hold is what the script says
pub plain_read : (script : List ℕ) (setup : SetupParts) (tokens : List Token) → IsUtf8 script → IsSome (document script)
    → ((j : Json) → document script ≡ Some j → BeginsWith tokens j) → HoldsTree 5 (λ d. Spells d setup) tokens
    → IsScriptOf script setup
plain_read script setup tokens utf8 some begins holds = go (document script) refl some
  where
    go : (o : Option Json) → document script ≡ o → IsSome o → IsScriptOf script setup
    go None e s = cc
    go (Some j) e s =
        let r = holds j (begins j e) in record {
          tree = r.0;
          reading = (utf8, shallow_read script j r.0 e (omega (arith, r.1.1)) r.1.0);
          spelled = r.2;
          only = only_setup r.0 setup r.2;
        }

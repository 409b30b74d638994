use Rattle.std.proofs.Common.{◌≡◌, drop, get_or, true, false, ◌==◌, sym, ap, ◌∙◌, arith, take_all, length-drop}
use Rattle.fast_float.specs.Text.{scan}
use Rattle.serde_json.specs.Read.{number_of, number_from}
use Rattle.sab_reader.proofs.OfScript.Tokens.{if_some}
use Rattle.sab_reader.proofs.script.plain.numbers.safe_integer.Goals as goal

pub returns-then-has_minus : goal.returns-then-has_minus
unfolding number_of
returns-then-has_minus c =
    let s = c.as_bytes-bytes.result.now in
    let signed : (get_or s 0 0 == 45) ≡ true = sym c.if-has_minus.ensures.value in
    let parts : c.scan.result ≡ scan (drop 1 s) =
    c.scan.ensures.parts ∙ ap scan (take_all _ (drop 1 s) (omega (arith, length-drop 1 s))) in
    let read : number_of s ≡ number_from true (scan (drop 1 s)) = rw signed in
    if_some c.below_zero.result
    (λ z h. (ap number_of (sym c.as_bytes-bytes.ensures.value) ∙ read ∙ ap (number_from true) (sym parts) ∙ h.0, h.1))
    c.below_zero.ensures

pub returns-else-has_minus : goal.returns-else-has_minus
unfolding number_of
returns-else-has_minus c =
    let s = c.as_bytes-bytes.result.now in
    let unsigned : (get_or s 0 0 == 45) ≡ false = sym c.if-has_minus.ensures.value in
    let read : number_of s ≡ number_from false (scan s) = rw unsigned in
    if_some c.not_below_zero.result
    (λ z h. (
      ap number_of (sym c.as_bytes-bytes.ensures.value) ∙ read
          ∙ ap (number_from false) (sym c.scan-else-has_minus.ensures.parts) ∙ h.0,
      h.1,
    ))
    c.not_below_zero.ensures

use Rattle.std.proofs.Common.{◌≡◌, length, drop, ap, sym, ◌∙◌, None}
use Rattle.std.proofs.Math.Seq.{drop-length}
use Rattle.std.proofs.lemmas.Str.{utf8_valid_len-IsUtf8}
use Rattle.std.specs.Str.Lossy.{utf8_valid_len, utf8_error_len}
use Rattle.sab_refusal.specs.Syntax.Stop.{broken_by}
use Rattle.sab_refusal.proofs.syntax.stop.broken_at.Goals as goal

pub returns-in-Ok : goal.returns-in-Ok
unfolding utf8_error_len
returns-in-Ok c =
    let text = c.args.text.now in
    sym (ap (λ bs. broken_by (utf8_error_len bs) (utf8_valid_len text))
    (ap (λ n. drop n text) (utf8_valid_len-IsUtf8 text c.in-Ok.ensures.cases.1) ∙ drop-length text))

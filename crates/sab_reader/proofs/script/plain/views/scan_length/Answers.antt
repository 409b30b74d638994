use Rattle.std.proofs.Common.{rules}
use Rattle.std.specs.Int.{w64}
use Rattle.std.proofs.lemmas.Int.{to_z-of_z}
use Rattle.sab_reader.proofs.OfScript.Tokens.{holds_by, holds_null}
use Rattle.sab_reader.proofs.script.plain.views.scan_length.Goals as goal

pub returns-then-is_null : goal.returns-then-is_null
returns-then-is_null c = holds_by c.args.element.now (λ d is. (is, tt)) (holds_null c.args.element.now c.if-is_null.ensures)

pub returns-in_ok-scan_whole : goal.returns-in_ok-scan_whole
returns-in_ok-scan_whole c =
    holds_by c.args.element.now (λ d h. rw (to_z-of_z w64 c.in_ok-scan_whole.field-0 (search rules)) h) c.in_ok-scan_whole.ensures

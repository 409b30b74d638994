use Rattle.std.proofs.Common.{◌≡◌, ◌≤◌, ◌∷◌, [], length, rules, arith}
use Rattle.sab_reader.proofs.OfScript.Tokens.{holds_by, holds_deeper}
use Rattle.sab_reader.proofs.script.plain.blocks.scan_lens.Goals as goal

pub returns-in_ok-scan_len-in-Bytes : goal.returns-in_ok-scan_len-in-Bytes
returns-in_ok-scan_len-in-Bytes c =
    let ts = c.args.element.now in
    let len = c.in_ok-scan_len-in-Bytes.field-0 in
    let items : c.push_reserved.new.self.items ≡ len ∷ [] =
    rw c.in_ok-lens-in-Bytes.ensures.items at c.push_reserved.ensures.items in
    rw c.in-Bytes.is (holds_deeper 0 1 ts (omega arith) (holds_by ts (λ d h. (len, h, items)) c.in_ok-scan_len-in-Bytes.ensures))

pub returns-else-is_empty : goal.returns-else-is_empty
returns-else-is_empty c =
    let some : 1 ≤ length c.in_ok-lens-in-Blocks.lens.items = search rules in
    rw c.in-Blocks.is (holds_by c.args.element.now (λ d h. (h.0, h.1, h.2, some)) c.in_ok-lens-in-Blocks.ensures)

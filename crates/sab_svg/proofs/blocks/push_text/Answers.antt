-- The pieces, one behind the other.
use Rattle.sab_svg.proofs.Behind.{behind}
use Rattle.sab_svg.proofs.EndTexts.{block_apart}
use Rattle.sab_svg.proofs.blocks.push_text.Goals as goal

pub returns-clause-bytes : goal.returns-clause-bytes
returns-clause-bytes c =
    rw (block_apart c.args.b c.args.bytes.now)
    (behind c.args.chunk.now _ _ _ _ c.push.ensures
    (behind c.push.new.self _ _ _ _ c.push_number.ensures.bytes
    (behind c.push_number.new.self _ _ _ _ c.push-2.ensures
    (behind c.push-2.new.self _ _ _ _ c.push_shown.ensures.bytes c.push_more.ensures.bytes))))

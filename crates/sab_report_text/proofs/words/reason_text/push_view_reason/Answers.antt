-- The pieces, one behind the other.
use Rattle.std.proofs.Common.{rules, ◌≡◌, ◌++◌}
use Rattle.sab_block.specs.Kind.{kind_name}
use Rattle.sab_block.specs.View.{kind_of}
use Rattle.sab_report_text.proofs.OfWords.Pieces.{three}
use Rattle.sab_report_text.proofs.words.reason_text.push_view_reason.Goals as goal

pub returns-in-AtomicKind-clause-bytes : goal.returns-in-AtomicKind-clause-bytes
returns-in-AtomicKind-clause-bytes c =
    let named : c.push-in-AtomicKind.new.self ≡ c.push.new.self ++ kind_name (kind_of c.args.view.view) = search rules in
    rw c.in-AtomicKind.is (three _ _ _ _ _ _ _ c.push.ensures named c.push-in-AtomicKind-2.ensures)

pub returns-in-WaitableKind-clause-bytes : goal.returns-in-WaitableKind-clause-bytes
returns-in-WaitableKind-clause-bytes c =
    let named : c.push-in-WaitableKind-2.new.self ≡ c.push-in-WaitableKind.new.self ++ kind_name (kind_of c.args.view.view)
    = search rules in
    rw c.in-WaitableKind.is (three _ _ _ _ _ _ _ c.push-in-WaitableKind.ensures named c.push-in-WaitableKind-3.ensures)

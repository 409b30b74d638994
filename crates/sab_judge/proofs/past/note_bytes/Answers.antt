-- The block's stretches are taken out, written, and put back.
use Rattle.std.proofs.Common.{◌∙◌, ◌+◌, Bool, cond, Option, Some, sym, subst, ap, arith}
use Rattle.std.specs.Prelude.{nat_eq}
use Rattle.std.specs.HashMap.{get}
use Rattle.sab_judge.specs.declared.stretch.Stretches.{Stretches}
use Rattle.sab_judge.specs.Past.{AreWritten}
use Rattle.sab_judge.specs.Stretch.{AreStretches, IsRewritten}
use Rattle.sab_judge.proofs.Written.{stretches_written, block_renewed}
use Rattle.sab_judge.proofs.past.note_bytes.Goals as goal

pub write-requires-clause-order : goal.write-requires-clause-order
write-requires-clause-order c =
    let found : AreWritten c.args.trace.now c.args.j c.args.access.place.block c.remove.result =
    subst (λ (x : Option Stretches). AreWritten c.args.trace.now c.args.j c.args.access.place.block x)
    (sym c.remove.ensures.value) (c.requires.writers c.args.access.place.block) in
    let kept : AreStretches c.args.trace.now c.args.j c.args.access.place.block c.in_ok-stretches.stretches.list.items =
    c.in_ok-stretches.ensures c.args.trace.now c.args.j c.args.access.place.block found in
    kept.order

pub write-requires-clause-some : goal.write-requires-clause-some
write-requires-clause-some c = omega (arith, c.requires.some)

pub returns : goal.returns
returns c =
    let found : AreWritten c.args.trace.now c.args.j c.args.access.place.block c.remove.result =
    subst (λ (x : Option Stretches). AreWritten c.args.trace.now c.args.j c.args.access.place.block x)
    (sym c.remove.ensures.value) (c.requires.writers c.args.access.place.block) in
    let kept : AreStretches c.args.trace.now c.args.j c.args.access.place.block c.in_ok-stretches.stretches.list.items =
    c.in_ok-stretches.ensures c.args.trace.now c.args.j c.args.access.place.block found in
    let changed : IsRewritten c.in_ok-stretches.stretches.list.items c.write.new.self.list.items
    c.args.access.place.byte (c.args.access.place.byte + c.args.access.len) c.args.j =
    c.in_ok-write.ensures in
    block_renewed c.args.trace.now c.args.j c.args.writers.now c.insert.new.self c.requires.access c.requires.writers
    (stretches_written c.requires.access c.requires.writes kept changed)
    (λ p e. c.in_ok-insert.ensures.updates.0 p
    ∙ ap (λ (b : Bool). cond b (Some c.write.new.self) (get nat_eq c.remove.new.self p)) e)
    (λ p e. c.in_ok-insert.ensures.updates.2 p e ∙ c.remove.ensures.updates.2 p e)

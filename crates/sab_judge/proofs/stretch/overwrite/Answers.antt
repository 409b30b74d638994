-- One stretch more has the event as its writer.
use Rattle.std.proofs.Common.{◌≡◌, ◌+◌, ◌<◌, length, refl, ap, arith}
use Rattle.std.proofs.lemmas.List.{get_or_read_under}
use Rattle.sab_judge.specs.declared.stretch.Stretch.{Stretch}
use Rattle.sab_judge.specs.Stretch.{no_stretch, stretch_at}
use Rattle.sab_judge.proofs.Stretching.{none_overwritten, one_more_overwritten}
use Rattle.sab_judge.proofs.stretch.overwrite.Goals as goal

pub loop-k-init : goal.loop-k-init
loop-k-init c = none_overwritten c.args.list.now.items c.args.from c.args.writer

pub loop-k-preserved : goal.loop-k-preserved
loop-k-preserved c =
    let inside : c.loop-k.k < length c.loop-k.list.items =
    omega (arith, c.loop-k-test.true, c.requires.within, c.loop-k.invariant.count) in
    let read : c.index.result.now ≡ stretch_at c.loop-k.list.items c.loop-k.k =
    get_or_read_under c.loop-k.list.items c.loop-k.k (length c.loop-k.list.items) c.index.result.now no_stretch
    c.index.ensures inside refl in
    one_more_overwritten (record { start = c.index.result.now.start; writer = c.args.writer + 1 }) c.loop-k.invariant
    c.loop-k.auto.k inside (ap (λ (s : Stretch). s.start) read) refl

pub returns : goal.returns
returns c =
    let end : c.loop-k.k ≡ c.args.to = omega (arith, c.loop-k-test.false, c.loop-k.auto.k-end, c.requires.forward) in
    rw end at c.loop-k.invariant

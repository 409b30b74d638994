-- Either a stretch begins at the byte, or one is put behind the one that has it.
use Rattle.std.proofs.Common.{◌≡◌, ◌∙◌, ℕ, length, List, refl, sym, ap, subst}
use Rattle.std.proofs.lemmas.List.{get_or_read_under}
use Rattle.sab_judge.specs.declared.stretch.Stretch.{Stretch}
use Rattle.sab_judge.specs.Stretch.{no_stretch, stretch_at, HasByte}
use Rattle.sab_judge.proofs.Stretching.{split_before, split_there}
use Rattle.sab_judge.proofs.stretch.split.Goals as goal

pub returns-then-start-byte : goal.returns-then-start-byte
returns-then-start-byte c =
    let has : HasByte c.args.list.now.items c.position_of-k.result c.args.byte =
    subst (λ (b : ℕ). HasByte c.args.list.now.items c.position_of-k.result b) c.from.ensures
    (subst (λ (xs : List Stretch). HasByte xs c.position_of-k.result c.from.result) c.deref.ensures.value
    c.position_of-k.ensures) in
    let read : c.index.result.now ≡ stretch_at c.args.list.now.items c.position_of-k.result =
    get_or_read_under c.args.list.now.items c.position_of-k.result (length c.args.list.now.items) c.index.result.now
    no_stretch c.index.ensures has.within refl in
    split_there c.requires has (sym (ap (λ (s : Stretch). s.start) read) ∙ c.if-start-byte.true)

pub returns : goal.returns
returns c =
    let has : HasByte c.args.list.now.items c.position_of-k.result c.args.byte =
    subst (λ (b : ℕ). HasByte c.args.list.now.items c.position_of-k.result b) c.from.ensures
    (subst (λ (xs : List Stretch). HasByte xs c.position_of-k.result c.from.result) c.deref.ensures.value
    c.position_of-k.ensures) in
    let read : c.index.result.now ≡ stretch_at c.args.list.now.items c.position_of-k.result =
    get_or_read_under c.args.list.now.items c.position_of-k.result (length c.args.list.now.items) c.index.result.now
    no_stretch c.index.ensures has.within refl in
    rw c.in_ok-insert.ensures.items
    (split_before (record { start = c.args.byte; writer = c.index.result.now.writer }) c.requires has
    (λ e. c.if-start-byte.false (ap (λ (s : Stretch). s.start) read ∙ e)) refl (ap (λ (s : Stretch). s.writer) read))

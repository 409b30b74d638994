-- The newest takes the place of the one that it is like, or is put behind the others.
use Rattle.std.proofs.Common.{◌≡◌, ◌<◌, ◌∙◌, List, length, slice_get, Some, refl, sym, subst}
use Rattle.std.proofs.lemmas.Option.{slice_get_read}
use Rattle.sab_judge.specs.declared.latest.Latest.{Latest}
use Rattle.sab_judge.specs.Event.{agent_at}
use Rattle.sab_judge.proofs.KeptLatest.{last_before, latest_renewed, latest_added, never_before}
use Rattle.sab_judge.proofs.Linking.{linked_first}
use Rattle.sab_judge.proofs.latest.note_latest.Goals as goal

pub behind-requires-clause-previous : goal.behind-requires-clause-previous
behind-requires-clause-previous c =
    let inside : c.in-Some.k < length c.args.list.now.items =
    subst (λ (xs : List Latest). c.in-Some.k < length xs) c.deref.ensures.value c.in-Some.ensures.0 in
    let at : slice_get c.args.list.now.items c.in-Some.k ≡ Some c.index.result.now =
    slice_get_read c.args.list.now.items (length c.args.list.now.items) c.in-Some.k c.index.result.now refl inside
    c.index.ensures in
    let key = c.in-Some.ensures.1 c.index.result.now
    (subst (λ (xs : List Latest). slice_get xs c.in-Some.k ≡ Some c.index.result.now) (sym c.deref.ensures.value) at) in
    let kept = c.requires.latest.each c.in-Some.k c.index.result.now at in
    last_before kept (record { agent = sym key.0 ∙ kept.agent; access = sym key.1 })

pub returns-in-Some-clause-latest : goal.returns-in-Some-clause-latest
returns-in-Some-clause-latest c =
    let inside : c.in-Some.k < length c.args.list.now.items =
    subst (λ (xs : List Latest). c.in-Some.k < length xs) c.deref.ensures.value c.in-Some.ensures.0 in
    let at : slice_get c.args.list.now.items c.in-Some.k ≡ Some c.index.result.now =
    slice_get_read c.args.list.now.items (length c.args.list.now.items) c.in-Some.k c.index.result.now refl inside
    c.index.ensures in
    let key = c.in-Some.ensures.1 c.index.result.now
    (subst (λ (xs : List Latest). slice_get xs c.in-Some.k ≡ Some c.index.result.now) (sym c.deref.ensures.value) at) in
    let kept = c.requires.latest.each c.in-Some.k c.index.result.now at in
    latest_renewed c.index.result.now (record { agent = agent_at c.args.trace.now c.args.j; position = c.args.j })
    c.requires.latest at inside (record { agent = sym key.0 ∙ kept.agent; access = sym key.1 }) c.requires.begins refl
    refl

pub returns-in_ok-push-in-None-clause-latest : goal.returns-in_ok-push-in-None-clause-latest
returns-in_ok-push-in-None-clause-latest c = rw c.in_ok-push-in-None.ensures.items
    (latest_added (record { agent = agent_at c.args.trace.now c.args.j; position = c.args.j }) c.requires.latest
    (λ k t e like. c.in-None.ensures k t
    (subst (λ (xs : List Latest). slice_get xs k ≡ Some t) (sym c.deref.ensures.value) e)
    ((c.requires.latest.each k t e).agent ∙ sym like.agent) (sym like.access)) c.requires.begins refl refl)

pub returns-in_ok-push-in-None-clause-link : goal.returns-in_ok-push-in-None-clause-link
returns-in_ok-push-in-None-clause-link c = linked_first c.first.ensures (never_before c.requires.latest
    (λ k t e like. c.in-None.ensures k t
    (subst (λ (xs : List Latest). slice_get xs k ≡ Some t) (sym c.deref.ensures.value) e)
    ((c.requires.latest.each k t e).agent ∙ sym like.agent) (sym like.access)) c.requires.begins)

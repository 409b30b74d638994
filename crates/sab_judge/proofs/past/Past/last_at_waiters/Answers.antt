-- What the look-up finds is the last.
use Rattle.std.proofs.Common.{ℕ, Option, sym, subst, ◌∙◌}
use Rattle.sab_judge.specs.Sought.{AtWaiters, IsLastBelow}
use Rattle.sab_judge.proofs.past.Past.last_at_waiters.Goals as goal

pub returns : goal.returns
returns c trace n past = subst (λ (from : Option ℕ). IsLastBelow trace (AtWaiters c.args.place) n from)
    (sym (c.copied.ensures ∙ c.get.ensures.value)) (past.waiters c.args.place)

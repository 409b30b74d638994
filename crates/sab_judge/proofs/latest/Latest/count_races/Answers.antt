-- As many race as aren't known, or none.
use Rattle.std.proofs.Common.{◌∙◌, ℕ, sym, subst, arith}
use Rattle.sab_judge.specs.Race.{Counts}
use Rattle.sab_judge.specs.RaceKind.{IsRaceOf}
use Rattle.sab_judge.specs.Link.{IsLike}
use Rattle.sab_judge.proofs.Racing.{none_unknown, none_of_agent, none_conflicts, unknown_race}
use Rattle.sab_judge.proofs.latest.Latest.count_races.Goals as goal
use Rattle.sab_judge.proofs.latest.Latest.count_races.Goals.{then-position-bound-via-then-position-bound, then-position-bound-via-else-position-bound+then-self-trace, then-position-bound-via-else-position-bound+else-self-trace+then-not-takes}

pub returns-then-position-bound : goal.returns-then-position-bound
returns-then-position-bound c = elim c.then-position-bound.branch [
  | then-position-bound-via-then-position-bound w ↦ none_unknown c.requires.event_clock.known c.requires.latest
      (omega (arith, w.if-position-bound.true, c.bound-bound.ensures))
  | then-position-bound-via-else-position-bound+then-self-trace w ↦ none_of_agent c.requires.latest w.if-self-trace.true
  | then-position-bound-via-else-position-bound+else-self-trace+then-not-takes w ↦
      none_conflicts (sym w.takes.ensures ∙ w.if-not-takes.true)
]

pub returns : goal.returns
returns c = subst (λ (n : ℕ). Counts (λ i. IsRaceOf c.args.kind c.args.trace.now i c.args.j × IsLike c.args.trace.now c.args.self.position i)
    c.args.j n) (sym c.from.ensures)
    (unknown_race c.requires.event_clock.known c.requires.event_clock.within c.requires.latest c.if-self-trace.false
    (sym c.takes.ensures ∙ c.if-not-takes.false) (rw c.bound-bound.ensures at c.count_from.ensures))

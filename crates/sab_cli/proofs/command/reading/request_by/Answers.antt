use Rattle.std.proofs.Common.{rules, codes, refl, sym, subst}
use Rattle.clap.specs.Words.{first_value, found_of, rows_of}
use Rattle.sab_cli.specs.Command.Asked.{IsExplained, IsGiven, IsJudge, IsRace, IsReplay, IsSearch}
use Rattle.sab_cli.specs.Command.Source.{Names}
use Rattle.sab_cli.proofs.OfCommand.Rows.{first_by_rows, not_both}
use Rattle.sab_cli.proofs.command.reading.request_by.Goals as goal
use Rattle.sab_cli.proofs.command.reading.request_by.Goals.{in-replay, in-race, in-judge, in-search}

pub returns-in_default-clause-asked : goal.returns-in_default-clause-asked
returns-in_default-clause-asked c =
    let f = found_of c.args.matches.now in
    let source = first_by_rows (λ v. Names (v (codes "file")) c.source_of-source.result) f c.source_of-source.ensures in (
      source,
      λ e. absurd (c.in_default.not-replay e),
      λ e. absurd (c.in_default.not-race e),
      λ e. absurd (c.in_default.not-judge e),
      λ e. absurd (c.in_default.not-search e),
      λ e. (refl, refl),
    )

pub returns-clause-asked : goal.returns-clause-asked
returns-clause-asked c =
    let f = found_of c.args.matches.now in
    let source = first_by_rows (λ v. Names (v (codes "file")) c.source_of-source.result) f c.source_of-source.ensures in
    let flag : IsGiven (first_value f (codes "explain")) c.has_flag.result = search rules in
    let explained : IsExplained (rows_of f) c.has_flag.result = first_by_rows (λ v. IsGiven (v (codes "explain")) c.has_flag.result) f flag in
    elim c.match-name.branch [
      | in-replay w ↦ (
        source,
        λ e. (subst (IsReplay (rows_of f)) (sym w.task-is) w.replay_task-task.ensures.task, explained),
        λ e. absurd (not_both _ (codes "replay") (codes "race") refl w.in-replay.is e),
        λ e. absurd (not_both _ (codes "replay") (codes "judge") refl w.in-replay.is e),
        λ e. absurd (not_both _ (codes "replay") (codes "search") refl w.in-replay.is e),
        λ e. absurd (not_both _ (codes "replay") (codes "check") refl w.in-replay.is e),
      )
      | in-race w ↦ (
        source,
        λ e. absurd (not_both _ (codes "race") (codes "replay") refl w.in-race.is e),
        λ e. (subst (IsRace (rows_of f)) (sym w.task-is) w.race_job.ensures.job, explained),
        λ e. absurd (not_both _ (codes "race") (codes "judge") refl w.in-race.is e),
        λ e. absurd (not_both _ (codes "race") (codes "search") refl w.in-race.is e),
        λ e. absurd (not_both _ (codes "race") (codes "check") refl w.in-race.is e),
      )
      | in-judge w ↦ (
        source,
        λ e. absurd (not_both _ (codes "judge") (codes "replay") refl w.in-judge.is e),
        λ e. absurd (not_both _ (codes "judge") (codes "race") refl w.in-judge.is e),
        λ e. (subst (IsJudge (rows_of f)) (sym w.task-is) w.judge_task-task.ensures.task, explained),
        λ e. absurd (not_both _ (codes "judge") (codes "search") refl w.in-judge.is e),
        λ e. absurd (not_both _ (codes "judge") (codes "check") refl w.in-judge.is e),
      )
      | in-search w ↦ (
        source,
        λ e. absurd (not_both _ (codes "search") (codes "replay") refl w.in-search.is e),
        λ e. absurd (not_both _ (codes "search") (codes "race") refl w.in-search.is e),
        λ e. absurd (not_both _ (codes "search") (codes "judge") refl w.in-search.is e),
        λ e. (subst (IsSearch (rows_of f)) (sym w.task-is) w.search_job.ensures.job, explained),
        λ e. absurd (not_both _ (codes "search") (codes "check") refl w.in-search.is e),
      )
    ]

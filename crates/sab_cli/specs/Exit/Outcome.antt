-- What a run comes to.
use Rattle.std.specs.Prelude.{Bool, true, false}
use Rattle.sab_replay.specs.declared.script_runner.ended.Ended.{Ended}
use Rattle.sab_replay.specs.declared.script_runner.ended.Ended.TheVariants as E
use Rattle.sab_cli.specs.declared.exit.outcome.Outcome.{Outcome}
use Rattle.sab_cli.specs.declared.exit.outcome.Outcome.TheVariants.{Done, Unfinished, Racy}

-- a run that ended so, where all calls were to return or not
abbrev pub outcome_of : Ended → Bool → Outcome
outcome_of E.Finished finish = Done
outcome_of E.Unfinished false = Done
outcome_of E.Unfinished true = Unfinished

-- where the run was judged besides, and has unordered accesses or none
abbrev pub judged_outcome : Bool → Ended → Bool → Outcome
judged_outcome true ended finish = Racy
judged_outcome false ended finish = outcome_of ended finish

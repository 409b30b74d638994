use Rattle.std.proofs.Common.{◌≡◌, ◌++◌, replicate}
use Rattle.sab_plan.specs.declared.schedule.Move.TheVariants.{Step}
use Rattle.sab_race.proofs.script_moves.push_steps.Given as goal

abbrev pub invariant-loop : goal.invariant-loop
invariant-loop l = l.moves.items ≡ l.fn.moves.items ++ replicate l.counter (Step l.agent)

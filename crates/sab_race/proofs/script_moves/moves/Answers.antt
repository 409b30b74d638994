use Rattle.std.proofs.Common.{arith, ◌∙◌, ap, length, List}
use Rattle.std.proofs.lemmas.List.{take_all}
use Rattle.sab_plan.specs.declared.call.Call.{Call}
use Rattle.sab_plan.specs.Script.{ScriptParts}
use Rattle.sab_race.specs.Moves.{moves_of}
use Rattle.sab_race.proofs.UnderWay.{moves_length}
use Rattle.sab_race.proofs.script_moves.moves.Goals as goal

pub returns-clause-most : goal.returns-clause-most
returns-clause-most c =
    let calls = c.deref-call-items.ensures.value ∙ ap (λ (s : ScriptParts). s.calls) c.script.view_is in
    let whole = take_all c.loop-call.call-index c.deref-call-items.result.now (omega (arith, c.loop-call-test.false)) in
    let all = c.loop-call.invariant ∙ ap (λ (cs : List Call). moves_of cs c.args.agent c.args.spins) (whole ∙ calls) in
    omega (
      arith,
      ap length all,
      moves_length c.args.script.now.calls c.args.agent 0 c.args.spins,
      c.script_count-count.ensures,
    )

use Rattle.std.proofs.Common.{◌≤◌, ◌^◌, arith, ◌∙◌, length, ap}
use Rattle.sab_race.specs.Moves.{count_of}
use Rattle.sab_race.proofs.UnderWay.{begins}
use Rattle.sab_race.proofs.race.Race.new.Goals as goal

pub invariant_of-result : goal.invariant_of-result
invariant_of-result c =
    let reserved = c.in_ok-reserve.ensures in
    let fresh = c.in_ok-sim.ensures in
    let agendas = rw c.scripts-2.ensures.scripts at c.in_ok-agendas.ensures in
    let count = rw c.scripts.ensures.scripts at c.count_moves-total.ensures in
    let entries = ap length (reserved.journal ∙ fresh.journal) in
    let few : count_of c.args.plan.scripts c.args.spins ≤ 2 ^ 20 =
    omega (arith, count, c.if-total-gt-MAX_ENTRIES.false) in
    let room : count_of c.args.plan.scripts c.args.spins ≤ c.reserve.new.self.reserved =
    omega (arith, reserved.room, count, few, ap length fresh.journal) in
    rw (reserved.plan ∙ fresh.plan, reserved.moves ∙ fresh.moves) (begins c.args.plan c.args.spins _
    c.reserve.new.self.reserved c.in_ok-agendas.agendas.items agendas few entries room)

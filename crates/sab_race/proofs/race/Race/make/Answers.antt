use Rattle.std.proofs.lemmas.List.{get_or_read}
use Rattle.sab_race.specs.Agenda.{no_agenda}
use Rattle.sab_race.proofs.UnderWay.{stepped, has_agent, has_left, not_ok}
use Rattle.sab_race.proofs.race.Race.make.Goals as goal

pub invariant_of-self : goal.invariant_of-self
invariant_of-self c =
    let here = has_agent _ _ c.args.agent c.self.view_is c.requires.agent in
    let left = has_left _ _ c.args.agent c.self.view_is c.requires.left in
    let same = get_or_read c.self.inside.agendas.items _ _ here c.index_mut.ensures.value no_agenda in
    let step = c.step.ensures in
    rw c.take_next-next.ensures.made (stepped _ _ _ _ _ _ _ _ _ _ _ _ _ c.step.result c.self.invariant here same left
    c.take_next-next.ensures.next step.plan step.moves step.longer step.reserved step.spare).1

pub unreachable-requires : goal.unreachable-requires
unreachable-requires c =
    let here = has_agent _ _ c.args.agent c.self.view_is c.requires.agent in
    let left = has_left _ _ c.args.agent c.self.view_is c.requires.left in
    let same = get_or_read c.self.inside.agendas.items _ _ here c.index_mut.ensures.value no_agenda in
    let step = c.step.ensures in
    not_ok c.step.result _ c.in_default.is (stepped _ _ _ _ _ _ _ _ _ _ _ _ _ c.step.result c.self.invariant here same
    left c.take_next-next.ensures.next step.plan step.moves step.longer step.reserved step.spare).0

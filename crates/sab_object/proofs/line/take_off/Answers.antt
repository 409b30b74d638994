use Rattle.std.proofs.Common.{sym, ◌∙◌, subst, arith, ◌<◌, length}
use Rattle.sab_object.specs.Kept.{AreAgents}
use Rattle.sab_object.proofs.LineAgents.{agents_remove}
use Rattle.sab_object.proofs.Woken.{kept_remove, kept_skip, kept_end}
use Rattle.sab_object.proofs.line.take_off.Goals as goal

pub returns-clause-line : goal.returns-clause-line
returns-clause-line c t = sym (kept_end _ c.loop-i.i _ (omega (arith, c.loop-i-test.false, c.len.ensures))) ∙ c.loop-i.invariant.rest

pub loop-i-preserved-then-is_other : goal.loop-i-preserved-then-is_other
loop-i-preserved-then-is_other c =
    let lt : c.loop-i.i < length c.loop-i.line.items = omega (arith, c.loop-i-test.true, c.len.ensures) in
    record {
      rest = kept_skip _ c.loop-i.i _ c.index.result.now lt c.index.ensures (sym c.is_other.ensures ∙ c.if-is_other.true) _ c.loop-i.invariant.rest;
      capacity = c.loop-i.invariant.capacity;
      agents = c.loop-i.invariant.agents;
    }

pub loop-i-preserved : goal.loop-i-preserved
loop-i-preserved c =
    let lt : c.loop-i.i < length c.loop-i.line.items = omega (arith, c.loop-i-test.true, c.len.ensures) in
    record {
      rest = kept_remove _ _ c.loop-i.i _ c.index.result.now lt c.index.ensures (sym c.is_other.ensures ∙ c.if-is_other.false) c.remove.ensures.items _ c.loop-i.invariant.rest;
      capacity = c.remove.ensures.capacity ∙ c.loop-i.invariant.capacity;
      agents = λ n h. subst (AreAgents n) (sym c.remove.ensures.items) (agents_remove _ c.loop-i.i n (c.loop-i.invariant.agents n h));
    }

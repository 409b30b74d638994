use Rattle.std.proofs.Common.{inl, inr, sym, ap, ◌∙◌, arith, ◌≡◌, ◌⊎◌, ◌≤◌, ◌<◌, true, length}
use Rattle.std.proofs.lemmas.List.Edits.{length-remove}
use Rattle.sab_object.specs.Object.{is_at}
use Rattle.sab_object.proofs.Woken.{taken_rest, taken_woken, passed_rest, passed_woken, over_rest, over_woken, read_twice}
use Rattle.sab_object.proofs.LineAgents.{agents_length, agents_remove, agent_below}
use Rattle.sab_object.proofs.line.wake.Goals as goal
use Rattle.sab_object.proofs.line.wake.Goals.{then-loop-left-test+else-i-len, else-loop-left-test}

-- there are no more waiters than agents
pub overflow_cast-result : goal.overflow_cast-result
overflow_cast-result c =
    let few = agents_length (length c.args.woken.now) c.args.line.now.items c.requires.agents in
    omega (
      arith,
      few,
      c.requires.few,
      c.woken_count-many.ensures.most,
      c.waiting_at.ensures.most,
      ap length c.deref.ensures.value,
    )

pub bounds-woken-waiter : goal.bounds-woken-waiter
bounds-woken-waiter c =
    let lt : c.loop-left.i < length c.loop-left.line.items = omega (arith, c.if-i-len.true, c.len.ensures) in
    let below = agent_below c.loop-left.line.items c.loop-left.i _ c.remove-waiter.result c.loop-left.invariant.agents lt c.remove-waiter.ensures.value in
    omega (arith, below, c.loop-left.auto.woken)

pub loop-left-preserved-then-eq : goal.loop-left-preserved-then-eq
loop-left-preserved-then-eq c =
    let lt : c.loop-left.i < length c.loop-left.line.items = omega (arith, c.if-i-len.true, c.len.ensures) in
    let below = agent_below c.loop-left.line.items c.loop-left.i _ c.remove-waiter.result c.loop-left.invariant.agents lt c.remove-waiter.ensures.value in
    let one = read_twice c.loop-left.line.items c.loop-left.i c.index.result.now c.remove-waiter.result lt c.index.ensures c.remove-waiter.ensures.value in
    let at : is_at c.args.place c.remove-waiter.result ≡ true = ap (is_at c.args.place) (sym one) ∙ sym c.if-eq.ensures in
    record {
      rest = taken_rest _ _ c.loop-left.i c.loop-left.left c.args.place c.remove-waiter.result c.loop-left-test.true lt c.remove-waiter.ensures.items c.remove-waiter.ensures.value at _ c.loop-left.invariant.rest;
      woken = λ b. taken_woken _ _ c.loop-left.i c.loop-left.left c.args.place c.remove-waiter.result c.loop-left-test.true lt c.remove-waiter.ensures.items c.remove-waiter.ensures.value at
          c.loop-left.woken b _ (omega (arith, below, c.loop-left.auto.woken)) (c.loop-left.invariant.woken b);
      agents = rw c.remove-waiter.ensures.items (agents_remove c.loop-left.line.items c.loop-left.i _ c.loop-left.invariant.agents);
      capacity = c.remove-waiter.ensures.capacity ∙ c.loop-left.invariant.capacity;
      within = omega (arith, lt, ap length c.remove-waiter.ensures.items, length-remove c.loop-left.line.items c.loop-left.i lt);
    }

pub loop-left-preserved : goal.loop-left-preserved
loop-left-preserved c =
    let lt : c.loop-left.i < length c.loop-left.line.items = omega (arith, c.if-i-len.true, c.len.ensures) in
    record {
      rest = passed_rest _ c.loop-left.i c.loop-left.left c.args.place c.index.result.now c.loop-left-test.true lt c.index.ensures (sym c.if-eq.ensures) _ c.loop-left.invariant.rest;
      woken = λ b. passed_woken _ c.loop-left.i c.loop-left.left c.args.place c.index.result.now c.loop-left-test.true lt c.index.ensures (sym c.if-eq.ensures) c.loop-left.woken b _ (c.loop-left.invariant.woken b);
      agents = c.loop-left.invariant.agents;
      capacity = c.loop-left.invariant.capacity;
      within = omega (arith, lt);
    }

over : (c : goal.Left-loop-left) → (c.loop-left.left ≡ 0) ⊎ (length c.loop-left.line.items ≤ c.loop-left.i)
over c = elim c.loop-left-test.branch [
  | then-loop-left-test+else-i-len w ↦ inr (omega (arith, w.if-i-len.false, w.len.ensures))
  | else-loop-left-test w ↦ inl (omega (arith, w.loop-left-test.false))
]

pub returns-clause-line : goal.returns-clause-line
returns-clause-line c = sym (over_rest _ c.loop-left.i c.loop-left.left c.args.place (over c)) ∙ c.loop-left.invariant.rest

pub returns-clause-woken : goal.returns-clause-woken
returns-clause-woken c b = sym (over_woken c.loop-left.line.items c.loop-left.i c.loop-left.left c.args.place (over c) c.loop-left.woken b) ∙ c.loop-left.invariant.woken b

use Rattle.std.proofs.Common.{ℕ, ◌≡◌, ◌-◌, ◌&&◌, ◌==◌, not, filter, length, vec_capacity}
use Rattle.sab_plan.specs.declared.waiter.Waiter.{Waiter}
use Rattle.sab_object.specs.Object.{is_at}
use Rattle.sab_object.specs.Kept.{AreAgents}
use Rattle.sab_object.proofs.Woken.{kept_from}
use Rattle.sab_object.proofs.line.take_off.Given as goal

abbrev pub invariant-loop-i : goal.invariant-loop-i
invariant-loop-i l = record {
  rest : kept_from l.i (λ (w : Waiter). not (is_at l.waiter.place w && (w.agent == l.waiter.agent))) l.line.items ≡ filter (λ (w : Waiter). not (is_at l.waiter.place w && (w.agent == l.waiter.agent))) l.fn.line.items;
  capacity : vec_capacity l.line ≡ vec_capacity l.fn.line;
  agents : (n : ℕ) → AreAgents n l.fn.line.items → AreAgents n l.line.items;
}

abbrev pub decreases-loop-i : goal.decreases-loop-i
decreases-loop-i l = length l.line.items - l.i

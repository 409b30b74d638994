use Rattle.std.proofs.Common.{◌≡◌, ℕ, ◌-◌, ◌≤◌, ◌||◌, false, length, take, get_or, vec_capacity}
use Rattle.sab_object.specs.Object.{waiters, without_first}
use Rattle.sab_object.specs.Kept.{AreAgents}
use Rattle.sab_object.proofs.Woken.{rest_from, names_from, has}
use Rattle.sab_object.proofs.line.wake.Given as goal

abbrev pub invariant-loop-left : goal.invariant-loop-left
invariant-loop-left l = record {
  rest : rest_from l.i l.left l.place l.line.items ≡ without_first l.many l.place l.fn.line.items;
  woken : (b : ℕ) → (get_or l.woken b false || has b (take l.left (names_from l.i l.place l.line.items))) ≡ (get_or l.fn.woken b false || has b (take l.many (waiters l.place l.fn.line.items)));
  agents : AreAgents (length l.fn.woken) l.line.items;
  capacity : vec_capacity l.line ≡ vec_capacity l.fn.line;
  within : l.i ≤ length l.line.items;
}

abbrev pub decreases-loop-left : goal.decreases-loop-left
decreases-loop-left l = length l.line.items - l.i

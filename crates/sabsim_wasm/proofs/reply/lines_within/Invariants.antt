use Rattle.std.proofs.Common.{◌≡◌, ◌-◌, ◌<◌, ◌≤◌, ℕ, length, get_or}
use Rattle.sabsim_wasm.proofs.reply.lines_within.Given as goal

abbrev pub invariant-loop-cut : goal.invariant-loop-cut
invariant-loop-cut l = record {
  within : l.cut ≤ length l.text;
  fits : l.cut ≤ l.size;
  most : (n : ℕ) → l.cut < n → n ≤ length l.text → n ≤ l.size → get_or l.text (n - 1) 0 ≡ 10 → ⊥;
}

abbrev pub decreases-loop-cut : goal.decreases-loop-cut
decreases-loop-cut l = l.cut

-- The longest text of a report, as loops find it, and that no text is longer.
use Rattle.std.proofs.Common.{◌≡◌, ℕ, zero, suc, ◌<◌, ◌≤◌, ◌+◌, List, [], ◌∷◌, length, max, Some, slice_get, arith, add-one, drop-cons, drop, get_or, take, replicate, ap, ◌∙◌}
use Rattle.std.proofs.lemmas.Grind.{common_steps}
use Rattle.std.proofs.lemmas.List.{take-replicate}
use Rattle.std.proofs.Math.Nat.{le-max_left}
use Rattle.sab_plan.specs.declared.entry.Entry.{Entry}
use Rattle.sab_plan.specs.declared.progress.Progress.{Progress}
use Rattle.sab_plan.specs.Report.{ReportParts}
use Rattle.sab_report_text.specs.Text.Text.{entry_text, agent_text}
use Rattle.sab_report_text.specs.Words.Column.{longest_entry, longest_agent, column_of, HasRoom}

max_assoc : (a b c : ℕ) → max a (max b c) ≡ max (max a b) c
max_assoc a b c = omega arith

-- one entry is measured, and the rest is left
pub entries_left : (journal : List Entry) (k : ℕ) (d : Entry) (m : ℕ) → k < length journal
    → max m (longest_entry k (drop k journal))
    ≡ max (max m (length (entry_text k (get_or journal k d)))) (longest_entry (k + 1) (drop (k + 1) journal))
entries_left journal k d m h = rw (drop-cons journal k d, add-one) (max_assoc m _ _)

-- one agent is measured, and the rest is left
pub agents_left : (agents : List Progress) (a : ℕ) (d : Progress) (m : ℕ) → a < length agents
    → max m (longest_agent a (drop a agents))
    ≡ max (max m (length (agent_text a (get_or agents a d)))) (longest_agent (a + 1) (drop (a + 1) agents))
agents_left agents a d m h = rw (drop-cons agents a d, add-one) (max_assoc m _ _)

entry_fits : (i : ℕ) (journal : List Entry) (k : ℕ) (e : Entry) → slice_get journal k ≡ Some e
    → length (entry_text (i + k) e) ≤ longest_entry i journal
entry_fits i [] k e h = absurd (cc)
entry_fits i (f ∷ journal) zero e h = grind (arith, common_steps, le-max_left)
entry_fits i (f ∷ journal) (suc k) e h =
    let z : i + suc k ≡ i + 1 + k = omega arith in
    let rest = entry_fits (i + 1) journal k e h in
    rw z (omega (arith, rest))

agent_fits : (i : ℕ) (agents : List Progress) (a : ℕ) (p : Progress) → slice_get agents a ≡ Some p
    → length (agent_text (i + a) p) ≤ longest_agent i agents
agent_fits i [] a p h = absurd (cc)
agent_fits i (q ∷ agents) zero p h = grind (arith, common_steps, le-max_left)
agent_fits i (q ∷ agents) (suc a) p h =
    let z : i + suc a ≡ i + 1 + a = omega arith in
    let rest = agent_fits (i + 1) agents a p h in
    rw z (omega (arith, rest))

-- the words of a report stand in its column
pub has_room : (report : ReportParts) (column : ℕ) → column ≡ column_of report → HasRoom report column
has_room report column is = record {
  entries = λ k e h.
      let z : 0 + k ≡ k = omega arith in
      let fits : length (entry_text k e) ≤ longest_entry 0 report.journal =
      rw z at (entry_fits 0 report.journal k e h) in
      omega (arith, is, fits);
  agents = λ a p h.
      let z : 0 + a ≡ a = omega arith in
      let fits : length (agent_text a p) ≤ longest_agent 0 report.agents =
      rw z at (agent_fits 0 report.agents a p h) in
      omega (arith, is, fits);
}

-- spaces up to a column, of as many as there can be
pub spaces_taken : (n m : ℕ) → n ≤ 255 → n ≡ m → take {A = ℕ} n (replicate 255 32) ≡ replicate m 32
spaces_taken n m few is = take-replicate {X = ℕ} n 255 32 few ∙ ap (λ (k : ℕ). replicate {A = ℕ} k 32) is

-- The lines of a report as JSON, one after the other.
use Rattle.std.proofs.Common.{◌≡◌, ℕ, ◌+◌, ◌<◌, List, ◌++◌, length, Option, None, refl, add-one, drop-cons, drop, get_or, slice_index_or, Global, arith}
use Rattle.std.proofs.lemmas.Grind.{common_steps}
use Rattle.std.specs.Prelude.{Vec}
use Rattle.std.specs.Io.KnownBytes.{Appends, Keeps, append_known}
use Rattle.sab_plan.specs.declared.progress.Progress.{Progress}
use Rattle.sab_plan.specs.Report.{items_of_each}
use Rattle.sab_plan.specs.declared.standing.Standing.{Standing}
use Rattle.sab_report_text.proofs.OfText.Appending.{left_after, left_written}
use Rattle.sab_report_text.specs.JsonLines.StandingData.{agent_data}
use Rattle.sab_report_text.specs.JsonLines.Lines.{line, block_data, block_lines, agent_lines}

blocks_left : (bs : List (Vec ℕ Global)) (k : ℕ) (d : Vec ℕ Global) → k < length bs
    → block_lines k (items_of_each (drop k bs)) ≡ line (block_data k (get_or bs k d).items)
    ++ block_lines (k + 1) (items_of_each (drop (k + 1) bs))
blocks_left bs k d h = rw (drop-cons bs k d, add-one) refl

pub blocks_after : (a b y : Option (List ℕ)) (bs : List (Vec ℕ Global)) (k : ℕ) (d : Vec ℕ Global) (all : List ℕ)
    → k < length bs → Appends a (append_known b (block_lines k (items_of_each (drop k bs)))) all
    → Appends b y (line (block_data k (get_or bs k d).items))
    → Appends a (append_known y (block_lines (k + 1) (items_of_each (drop (k + 1) bs)))) all
blocks_after a b y bs k d all h p q =
    left_written a b y (line (block_data k (get_or bs k d).items)) (block_lines (k + 1) (items_of_each (drop (k + 1) bs)))
    all (rw (blocks_left bs k d h) at p) q

agents_left : (names : List (List ℕ)) (ss : List (Option Standing)) (ps : List Progress) (k : ℕ) (d : Progress)
    → k < length ps → agent_lines names ss k (drop k ps)
    ≡ line (agent_data names k (get_or ps k d) (slice_index_or ss k None))
    ++ agent_lines names ss (k + 1) (drop (k + 1) ps)
agents_left names ss ps k d h = rw (drop-cons ps k d, add-one) refl

pub agents_after : (a b y : Option (List ℕ)) (chunk : List ℕ) (names : List (List ℕ)) (ss : List (Option Standing))
    (ps : List Progress) (k : ℕ) (d : Progress) (all : List ℕ)
    → k < length ps → Appends a (append_known (append_known b chunk) (agent_lines names ss k (drop k ps))) all
    → Keeps (append_known b (chunk ++ line (agent_data names k (get_or ps k d) (slice_index_or ss k None)))) y
    → Appends a (append_known y (agent_lines names ss (k + 1) (drop (k + 1) ps))) all
agents_after a b y chunk names ss ps k d all h p q =
    grind (arith, common_steps, left_after, line, agent_data, get_or, slice_index_or, agent_lines, drop, agents_left)

-- Texts that go through a chunk to a writer, and the lines of agents among them.
use Rattle.std.proofs.Common.{◌≡◌, ℕ, ◌+◌, List, [], ◌++◌, length, Option, Some, None, Result, OnOk, refl, sym, append_assoc, append-nil, add-one, drop-cons, drop, get_or, slice_index_or, ◌<◌, arith}
use Rattle.std.proofs.lemmas.Grind.{common_steps}
use Rattle.std.proofs.lemmas.Result.{on_ok_weaker}
use Rattle.std.specs.Io.KnownBytes.{Appends, Keeps, append_known}
use Rattle.sab_plan.specs.declared.progress.Progress.{Progress}
use Rattle.sab_plan.specs.declared.standing.Standing.{Standing}
use Rattle.sab_report_text.proofs.OfText.Appending.{left_after}
use Rattle.sab_report_text.specs.Words.Explained.{standing_line, standing_lines}

pub appends_none : (a : Option (List ℕ)) → Appends a a []
appends_none None = tt
appends_none (Some x) = sym (append-nil x)

-- a chunk may be written to make room, and then a piece goes into it
pub room_then : (x b : Option (List ℕ)) (kept chunk piece : List ℕ) → Keeps x (append_known b kept)
    → chunk ≡ kept ++ piece → Appends x (append_known b chunk) piece
room_then None b kept chunk piece p q = tt
room_then (Some x) None kept chunk piece p q = absurd p
room_then (Some x) (Some y) kept chunk piece p q = rw (q, ← p, append_assoc) refl

-- a chunk may be written to make room, and then a text goes behind it
pub kept_then : (x y b : Option (List ℕ)) (text : List ℕ) → Keeps x y → Appends y b text → Appends x b text
kept_then None y b text p q = tt
kept_then (Some x) None b text p q = absurd p
kept_then (Some x) (Some y) b text p q = rw (← p) q

standings_left : (column : ℕ) (names : List (List ℕ)) (ss : List (Option Standing)) (ps : List Progress) (k : ℕ)
    (d : Progress)
    → k < length ps
    → standing_lines column names ss k (drop k ps)
    ≡ standing_line column names k (get_or ps k d) (slice_index_or ss k None)
    ++ standing_lines column names ss (k + 1) (drop (k + 1) ps)
standings_left column names ss ps k d h = rw (drop-cons ps k d, add-one) refl

pub standings_after : (column : ℕ) (a b y : Option (List ℕ)) (chunk : List ℕ) (names : List (List ℕ))
    (ss : List (Option Standing)) (ps : List Progress) (k : ℕ) (d : Progress) (all : List ℕ)
    → k < length ps → Appends a (append_known (append_known b chunk) (standing_lines column names ss k (drop k ps))) all
    → Keeps (append_known b (chunk ++ standing_line column names k (get_or ps k d) (slice_index_or ss k None))) y
    → Appends a (append_known y (standing_lines column names ss (k + 1) (drop (k + 1) ps))) all
standings_after column a b y chunk names ss ps k d all h p q =
    grind (arith, common_steps, left_after, standing_line, get_or, slice_index_or, standing_lines, drop, standings_left)

out : (x b c : Option (List ℕ)) (chunk text : List ℕ) → Appends x (append_known b chunk) text → Appends b c chunk
    → Appends x c text
out None b c chunk text p q = tt
out (Some x) None c chunk text p q = absurd p
out (Some x) (Some y) None chunk text p q = absurd q
out (Some x) (Some y) (Some z) chunk text p q = cc

-- the chunk is written
pub chunk_written_out : {T E : Type 0} (r : Result T E) (x b c : Option (List ℕ)) (chunk text : List ℕ)
    → Appends x (append_known b chunk) text → OnOk r (Appends b c chunk) → OnOk r (Appends x c text)
chunk_written_out r x b c chunk text p q = on_ok_weaker r (out x b c chunk text p) q

pub from_empty : (a b : Option (List ℕ)) (chunk text : List ℕ) → chunk ≡ [] → Appends (append_known a chunk) b text
    → Appends a b text
from_empty None b chunk text e p = tt
from_empty (Some x) None chunk text e p = p
from_empty (Some x) (Some y) chunk text e p = rw (← append-nil x) (rw e at p)

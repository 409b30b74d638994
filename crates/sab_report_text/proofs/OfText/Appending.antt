-- Pieces that go through a chunk to a writer.
use Rattle.std.proofs.Common.{◌≡◌, ℕ, ◌+◌, ◌<◌, List, [], ◌++◌, length, get_or, drop, Option, Some, None, Result, OnOk, Global, append_assoc, append-nil, refl, add-one, drop-cons}
use Rattle.std.specs.Prelude.{Vec}
use Rattle.std.specs.Io.KnownBytes.{Appends, Keeps, append_known}
use Rattle.std.proofs.lemmas.Result.{on_ok_weaker}
use Rattle.sab_plan.specs.declared.entry.Entry.{Entry}
use Rattle.sab_plan.specs.declared.progress.Progress.{Progress}
use Rattle.sab_plan.specs.Report.{items_of_each}
use Rattle.sab_report_text.specs.declared.text.lines.Lines.{Lines}
use Rattle.sab_report_text.specs.Text.Lines.{line_if}
use Rattle.sab_report_text.specs.Text.Text.{entry_line, journal_lines, block_line, block_lines, agent_line, agent_lines}

pub appends_both : (a b c : Option (List ℕ)) (xs ys : List ℕ) → Appends a b xs → Appends b c ys → Appends a c (xs ++ ys)
appends_both None b c xs ys p q = tt
appends_both (Some x) None c xs ys p q = absurd p
appends_both (Some x) (Some y) None xs ys p q = absurd q
appends_both (Some x) (Some y) (Some z) xs ys p q = rw (q, p, append_assoc) refl

-- the last call's result is returned as it is
pub appends_last : {T E : Type 0} (r : Result T E) (a b c : Option (List ℕ)) (xs ys : List ℕ) → Appends a b xs
    → OnOk r (Appends b c ys) → OnOk r (Appends a c (xs ++ ys))
appends_last r a b c xs ys p q = on_ok_weaker r (appends_both a b c xs ys p) q

-- a chunk that is written keeps what was to be written
pub kept_out : (b c : Option (List ℕ)) (chunk : List ℕ) → Appends b c chunk
    → Keeps (append_known b chunk) (append_known c [])
kept_out None c chunk p = tt
kept_out (Some x) None chunk p = p
kept_out (Some x) (Some y) chunk p = rw append-nil p

pub kept_same : (a : Option (List ℕ)) → Keeps a a
kept_same None = tt
kept_same (Some x) = refl

pub kept_appended : (a b : Option (List ℕ)) (chunk text : List ℕ) → Keeps (append_known a (chunk ++ text)) b
    → Appends (append_known a chunk) b text
kept_appended None b chunk text p = tt
kept_appended (Some x) None chunk text p = p
kept_appended (Some x) (Some y) chunk text p = rw append_assoc p

-- a text goes into the chunk, and then the chunk may be written
pub append_kept : {T E : Type 0} (r : Result T E) (a b : Option (List ℕ)) (chunk text : List ℕ)
    → OnOk r (Keeps (append_known a (chunk ++ text)) b) → OnOk r (Appends (append_known a chunk) b text)
append_kept r a b chunk text p = on_ok_weaker r (kept_appended a b chunk text) p

pub out_appended : (a b c : Option (List ℕ)) (chunk text : List ℕ)
    → Appends (append_known a []) (append_known b chunk) text → Appends b c chunk → Appends a c text
out_appended None b c chunk text p q = tt
out_appended (Some x) None c chunk text p q = absurd p
out_appended (Some x) (Some y) None chunk text p q = absurd q
out_appended (Some x) (Some y) (Some z) chunk text p q = rw (q, p, append-nil) refl

-- from an empty chunk to one that is written
pub written_out : {T E : Type 0} (r : Result T E) (a b c : Option (List ℕ)) (chunk text : List ℕ)
    → Appends (append_known a []) (append_known b chunk) text → OnOk r (Appends b c chunk) → OnOk r (Appends a c text)
written_out r a b c chunk text p q = on_ok_weaker r (out_appended a b c chunk text p) q

-- a loop has its whole text left at first, and nothing in the end
pub all_left : (a : Option (List ℕ)) (all : List ℕ) → Appends a (append_known a all) all
all_left None all = tt
all_left (Some x) all = refl

pub none_left : (a b : Option (List ℕ)) (all : List ℕ) → Appends a (append_known b []) all → Appends a b all
none_left None b all p = tt
none_left (Some x) None all p = p
none_left (Some x) (Some y) all p = rw (← append-nil y) p

-- a piece is written, and the rest is left
pub left_written : (a b y : Option (List ℕ)) (piece rest all : List ℕ) → Appends a (append_known b (piece ++ rest)) all
    → Appends b y piece → Appends a (append_known y rest) all
left_written None b y piece rest all p q = tt
left_written (Some x) None y piece rest all p q = absurd p
left_written (Some x) (Some z) None piece rest all p q = absurd q
left_written (Some x) (Some z) (Some y) piece rest all p q = rw (q, append_assoc) p

-- a piece goes into the chunk, and then bytes of the chunk may go out
pub left_after : (a b y : Option (List ℕ)) (chunk piece rest all : List ℕ)
    → Appends a (append_known (append_known b chunk) (piece ++ rest)) all → Keeps (append_known b (chunk ++ piece)) y
    → Appends a (append_known y rest) all
left_after a b y chunk piece rest all p q =
    left_written a (append_known b chunk) y piece rest all p (kept_appended b y chunk piece q)

-- the line of entry k, if it has one
abbrev line_at : Lines → ℕ → Entry → List ℕ
line_at lines k e = line_if lines e.what (entry_line k e)

journal_left : (lines : Lines) (es : List Entry) (k : ℕ) (d : Entry) → k < length es
    → journal_lines lines k (drop k es)
    ≡ line_at lines k (get_or es k d) ++ journal_lines lines (k + 1) (drop (k + 1) es)
journal_left lines es k d h = rw (drop-cons es k d, add-one) refl

pub journal_after : (a b y : Option (List ℕ)) (chunk : List ℕ) (lines : Lines) (es : List Entry) (k : ℕ) (d : Entry)
    (all : List ℕ)
    → k < length es → Appends a (append_known (append_known b chunk) (journal_lines lines k (drop k es))) all
    → Keeps (append_known b (chunk ++ line_at lines k (get_or es k d))) y
    → Appends a (append_known y (journal_lines lines (k + 1) (drop (k + 1) es))) all
journal_after a b y chunk lines es k d all h p q =
    left_after a b y chunk (line_at lines k (get_or es k d)) (journal_lines lines (k + 1) (drop (k + 1) es)) all
    (rw (journal_left lines es k d h) at p) q

blocks_left : (bs : List (Vec ℕ Global)) (k : ℕ) (d : Vec ℕ Global) → k < length bs
    → block_lines k (items_of_each (drop k bs)) ≡ block_line k (get_or bs k d).items
    ++ block_lines (k + 1) (items_of_each (drop (k + 1) bs))
blocks_left bs k d h = rw (drop-cons bs k d, add-one) refl

pub blocks_after : (a b y : Option (List ℕ)) (bs : List (Vec ℕ Global)) (k : ℕ) (d : Vec ℕ Global) (all : List ℕ)
    → k < length bs → Appends a (append_known b (block_lines k (items_of_each (drop k bs)))) all
    → Appends b y (block_line k (get_or bs k d).items)
    → Appends a (append_known y (block_lines (k + 1) (items_of_each (drop (k + 1) bs)))) all
blocks_after a b y bs k d all h p q =
    left_written a b y (block_line k (get_or bs k d).items) (block_lines (k + 1) (items_of_each (drop (k + 1) bs))) all
    (rw (blocks_left bs k d h) at p) q

agents_left : (ps : List Progress) (k : ℕ) (d : Progress) → k < length ps
    → agent_lines k (drop k ps) ≡ agent_line k (get_or ps k d) ++ agent_lines (k + 1) (drop (k + 1) ps)
agents_left ps k d h = rw (drop-cons ps k d, add-one) refl

pub agents_after : (a b y : Option (List ℕ)) (chunk : List ℕ) (ps : List Progress) (k : ℕ) (d : Progress) (all : List ℕ)
    → k < length ps → Appends a (append_known (append_known b chunk) (agent_lines k (drop k ps))) all
    → Keeps (append_known b (chunk ++ agent_line k (get_or ps k d))) y
    → Appends a (append_known y (agent_lines (k + 1) (drop (k + 1) ps))) all
agents_after a b y chunk ps k d all h p q =
    left_after a b y chunk (agent_line k (get_or ps k d)) (agent_lines (k + 1) (drop (k + 1) ps)) all
    (rw (agents_left ps k d h) at p) q

-- Nodes that go through a chunk to a writer.
use Rattle.std.proofs.Common.{◌≡◌, ℕ, ◌+◌, ◌-◌, ◌<◌, suc, List, ◌++◌, length, Option, None, Result, OnOk, arith, drop, get_or, slice_index_or, Global}
use Rattle.std.specs.Prelude.{Vec}
use Rattle.std.proofs.lemmas.List.{drop_more}
use Rattle.std.specs.Io.KnownBytes.{Appends, Keeps, append_known}
use Rattle.sab_plan.specs.Report.{items_of_each}
use Rattle.sab_plan.specs.declared.standing.Standing.{Standing}
use Rattle.sab_report_text.proofs.OfText.Appending.{left_written, appends_last}
use Rattle.sab_report_text.proofs.OfWords.ChunkTexts.{room_then}
use Rattle.sab_svg.specs.Xml.Xml.{nodes, nodes_text}
use Rattle.sab_svg.proofs.OfXml.Texts.{nodes_text_both}
use Rattle.sab_svg.specs.declared.shape.Shape.{Shape}
use Rattle.sab_svg.specs.Ends.{drawn_end, drawn_ends, block_line, drawn_blocks}
use Rattle.sab_svg.specs.Frame.{lane, lanes}
use Rattle.sab_svg.proofs.Behind.{behind}

-- a chunk may be written to make room, then two pieces go into it, and then a third
pub three_then : {T E : Type 0} (r : Result T E) (x b y : Option (List ℕ)) (kept one two p q more : List ℕ)
    → Keeps x (append_known b kept) → one ≡ kept ++ p → two ≡ one ++ q → OnOk r (Appends (append_known b two) y more)
    → OnOk r (Appends x y (p ++ q ++ more))
three_then r x b y kept one two p q more k e f appended =
    appends_last r x (append_known b two) y (p ++ q) more
    (room_then x b kept two (p ++ q) k (behind kept one two p q e f)) appended

-- a piece goes into it, and more is left
pub left_then : (a x b : Option (List ℕ)) (kept chunk piece rest all : List ℕ)
    → Appends a (append_known x (piece ++ rest)) all → Keeps x (append_known b kept) → chunk ≡ kept ++ piece
    → Appends a (append_known (append_known b chunk) rest) all
left_then a x b kept chunk piece rest all p q r =
    left_written a x (append_known b chunk) piece rest all p (room_then x b kept chunk piece q r)

-- ---- agents that aren't done

ends_left : (names : List (List ℕ)) (shape : Shape) (ss : List (Option Standing)) (k n : ℕ) → k < n
    → nodes_text (nodes (drawn_ends names shape ss k (n - k)))
    ≡ nodes_text (nodes (drawn_end names shape k (slice_index_or ss k None)))
    ++ nodes_text (nodes (drawn_ends names shape ss (k + 1) (n - (k + 1))))
ends_left names shape ss k n h =
    let e : n - k ≡ suc (n - (k + 1)) = omega arith in
    rw e (nodes_text_both (drawn_end names shape k (slice_index_or ss k None))
    (drawn_ends names shape ss (k + 1) (n - (k + 1))))

pub ends_after : (a x b : Option (List ℕ)) (kept chunk : List ℕ) (names : List (List ℕ)) (shape : Shape)
    (ss : List (Option Standing)) (k n : ℕ) (all : List ℕ) → k < n
    → Appends a (append_known x (nodes_text (nodes (drawn_ends names shape ss k (n - k))))) all
    → Keeps x (append_known b kept)
    → chunk ≡ kept ++ nodes_text (nodes (drawn_end names shape k (slice_index_or ss k None)))
    → Appends a (append_known (append_known b chunk)
    (nodes_text (nodes (drawn_ends names shape ss (k + 1) (n - (k + 1)))))) all
ends_after a x b kept chunk names shape ss k n all h p q r =
    left_then a x b kept chunk (nodes_text (nodes (drawn_end names shape k (slice_index_or ss k None))))
    (nodes_text (nodes (drawn_ends names shape ss (k + 1) (n - (k + 1))))) all
    (rw (ends_left names shape ss k n h) at p) q r

-- ---- lanes

lanes_left : (shape : Shape) (k n : ℕ) → k < n → nodes_text (nodes (lanes shape k (n - k)))
    ≡ nodes_text (nodes (lane shape k)) ++ nodes_text (nodes (lanes shape (k + 1) (n - (k + 1))))
lanes_left shape k n h =
    let e : n - k ≡ suc (n - (k + 1)) = omega arith in
    rw e (nodes_text_both (lane shape k) (lanes shape (k + 1) (n - (k + 1))))

pub lanes_after : (a x b : Option (List ℕ)) (kept chunk : List ℕ) (shape : Shape) (k n : ℕ) (all : List ℕ) → k < n
    → Appends a (append_known x (nodes_text (nodes (lanes shape k (n - k))))) all
    → Keeps x (append_known b kept) → chunk ≡ kept ++ nodes_text (nodes (lane shape k))
    → Appends a (append_known (append_known b chunk) (nodes_text (nodes (lanes shape (k + 1) (n - (k + 1)))))) all
lanes_after a x b kept chunk shape k n all h p q r =
    left_then a x b kept chunk (nodes_text (nodes (lane shape k)))
    (nodes_text (nodes (lanes shape (k + 1) (n - (k + 1))))) all (rw (lanes_left shape k n h) at p) q r

-- ---- blocks

blocks_left : (shape : Shape) (bs : List (Vec ℕ Global)) (k : ℕ) (d : Vec ℕ Global) → k < length bs
    → nodes_text (nodes (drawn_blocks shape k (items_of_each (drop k bs))))
    ≡ nodes_text (nodes (block_line shape k (get_or bs k d).items))
    ++ nodes_text (nodes (drawn_blocks shape (k + 1) (items_of_each (drop (k + 1) bs))))
blocks_left shape bs k d h =
    rw (drop_more bs k d h)
    (nodes_text_both (block_line shape k (get_or bs k d).items)
    (drawn_blocks shape (k + 1) (items_of_each (drop (k + 1) bs))))

pub blocks_after : (a x b : Option (List ℕ)) (kept chunk : List ℕ) (shape : Shape) (bs : List (Vec ℕ Global)) (k : ℕ)
    (d : Vec ℕ Global) (all : List ℕ) → k < length bs
    → Appends a (append_known x (nodes_text (nodes (drawn_blocks shape k (items_of_each (drop k bs)))))) all
    → Keeps x (append_known b kept) → chunk ≡ kept ++ nodes_text (nodes (block_line shape k (get_or bs k d).items))
    → Appends a (append_known (append_known b chunk)
    (nodes_text (nodes (drawn_blocks shape (k + 1) (items_of_each (drop (k + 1) bs)))))) all
blocks_after a x b kept chunk shape bs k d all h p q r =
    left_then a x b kept chunk (nodes_text (nodes (block_line shape k (get_or bs k d).items)))
    (nodes_text (nodes (drawn_blocks shape (k + 1) (items_of_each (drop (k + 1) bs))))) all
    (rw (blocks_left shape bs k d h) at p) q r

-- All names in a picture are names of XML, and no element has two attributes of one name.
use Rattle.std.proofs.Common.{ℕ, zero, suc, ◌+◌, Bool, true, false, cond, List, [], ◌∷◌, ◌++◌, length, Option, Some, None, refl, map}
use Rattle.std.specs.Prelude.{nat_lt, codes, slice_index_or}
use Rattle.sab_block.specs.declared.operand.Operand.{Operand}
use Rattle.sab_plan.specs.declared.call.Call.{Call}
use Rattle.sab_plan.specs.declared.entry.What.{What}
use Rattle.sab_plan.specs.declared.entry.What.TheVariants.{Began, Acted, Enlisted, Left, Returned, Stuck}
use Rattle.sab_plan.specs.declared.entry.Entry.{Entry}
use Rattle.sab_plan.specs.Plan.{PlanParts}
use Rattle.sab_plan.specs.Report.{ReportParts}
use Rattle.sab_plan.specs.declared.fact.Fact.{Fact}
use Rattle.sab_plan.specs.declared.fact.Found.{Found}
use Rattle.sab_plan.specs.declared.fact.Found.TheVariants as F
use Rattle.sab_plan.specs.Fact.{woken_in}
use Rattle.sab_plan.specs.declared.standing.At.{At}
use Rattle.sab_plan.specs.declared.standing.At.TheVariants as A
use Rattle.sab_plan.specs.declared.standing.Standing.{Standing}
use Rattle.sab_report_text.specs.Words.FactText.{is_same, fact_words}
use Rattle.sab_report_text.specs.Words.Explained.{standing_words}
use Rattle.sab_report_text.specs.Words.FactFormat.{noted, no_sinces}
use Rattle.sab_svg.specs.Xml.Xml.{Node, nodes}
use Rattle.sab_svg.specs.Xml.WellFormed.{attribute_names, AreAttributeNames, IsNamed, AreNamed, IsDocument}
use Rattle.sab_svg.proofs.OfXml.Names.{name_tested, attribute_names_tested, node_tested, nodes_tested}
use Rattle.sab_svg.proofs.OfXml.WellFormed.{document, named_both}
use Rattle.sab_svg.specs.declared.shape.Shape.{Shape}
use Rattle.sab_svg.specs.Shape.{shape_of}
use Rattle.sab_svg.specs.Pieces.{label, rectangle, across, down, title, agent_words, group, newline}
use Rattle.sab_svg.specs.Moves.{call_since, wait_since, bars_of, done_label, changed, change_of, arrow, pieces_of, drawn_entries}
use Rattle.sab_svg.specs.Ends.{open_call, open_wait, open_bar, drawn_end, drawn_ends, drawn_blocks}
use Rattle.sab_svg.specs.Frame.{root_attributes, style_text, tip, bands, background, lanes, legend}
use Rattle.sab_svg.specs.Picture.{drawn, svg_text}

-- a node whose names are names; nodes whose names are
pub record Named (n : Node) : Type 0 where
  pub is : IsNamed n

pub record AllNamed (ns : List Node) : Type 0 where
  pub are : AreNamed (nodes ns)

none : AllNamed []
none = record { are = tt }

alone : {n : Node} → Named n → AllNamed (n ∷ [])
alone p = record { are = (p.is, tt) }

both : {a b : List Node} → AllNamed a → AllNamed b → AllNamed (a ++ b)
both {a} {b} p q = record { are = named_both a b p.are q.are }

-- a node on a line of its own, before others
line : {n : Node} {ns : List Node} → Named n → AllNamed ns → AllNamed (n ∷ newline ∷ ns)
line p q = record { are = (p.is, (tt, q.are)) }

-- ---- pieces

label_named : (class : List ℕ) (x y : ℕ) (s : List ℕ) → Named (label class x y s)
unfolding label
label_named class x y s = record { is = node_tested (label class x y s) refl }

rectangle_named : (class : List ℕ) (x y w h : ℕ) → Named (rectangle class x y w h)
unfolding rectangle
rectangle_named class x y w h = record { is = node_tested (rectangle class x y w h) refl }

across_named : (class : List ℕ) (x y end : ℕ) → Named (across class x y end)
unfolding across
across_named class x y end = record { is = node_tested (across class x y end) refl }

down_named : (class : List ℕ) (x y end : ℕ) → Named (down class x y end)
unfolding down
down_named class x y end = record { is = node_tested (down class x y end) refl }

group_named : (s : List ℕ) (pieces : List Node) → AllNamed pieces → Named (group s pieces)
unfolding group
group_named s pieces p = record {
  is = (name_tested (codes "g") refl, tt, (node_tested (title s) refl, p.are));
}

-- ---- entries

call_since_named : (shape : Shape) (a : ℕ) (since : Option ℕ) (end : ℕ) → AllNamed (call_since shape a since end)
call_since_named shape a None end = none
call_since_named shape a (Some j) end = alone (rectangle_named _ _ _ _ _)

wait_since_named : (shape : Shape) (a : ℕ) (since : Option ℕ) (end : ℕ) → AllNamed (wait_since shape a since end)
wait_since_named shape a None end = none
wait_since_named shape a (Some j) end = alone (rectangle_named _ _ _ _ _)

bars_named : (shape : Shape) (k a : ℕ) (since : Option ℕ) (what : What) → AllNamed (bars_of shape k a since what)
bars_named shape k a since Began = alone (rectangle_named _ _ _ _ _)
bars_named shape k a since (Acted x) = call_since_named shape a since _
bars_named shape k a since Enlisted = call_since_named shape a since _
bars_named shape k a since (Left x) = wait_since_named shape a since _
bars_named shape k a since (Returned x) = call_since_named shape a since _
bars_named shape k a since (Stuck why) = none

done_named : (names : List (List ℕ)) (x y : ℕ) (call : Option Call) (what : What)
    → AllNamed (done_label names x y call what)
done_named names x y call Began = alone (label_named _ _ _ _)
done_named names x y call (Acted z) = alone (label_named _ _ _ _)
done_named names x y call Enlisted = alone (label_named _ _ _ _)
done_named names x y call (Left z) = alone (label_named _ _ _ _)
done_named names x y call (Returned z) = none
done_named names x y call (Stuck why) = alone (label_named _ _ _ _)

-- what may be left out
unless : (b : Bool) (n : Node) → Named n → AllNamed (cond b [] (n ∷ []))
unless true n p = none
unless false n p = alone p

changed_named : (names : List (List ℕ)) (shape : Shape) (k : ℕ) (call : Option Call) (x y : Operand)
    → AllNamed (changed names shape k call x y)
changed_named names shape k call x y = unless (is_same x y) _ (label_named _ _ _ _)

change_named : (names : List (List ℕ)) (shape : Shape) (k : ℕ) (call : Option Call) (found : Found)
    → AllNamed (change_of names shape k call found)
change_named names shape k call (F.Wrote x y) = changed_named names shape k call x y
change_named names shape k call (F.Compared x y exchanged) = changed_named names shape k call x y
change_named names shape k call F.Nothing = none
change_named names shape k call (F.Read x) = none
change_named names shape k call (F.Differs x) = none
change_named names shape k call (F.Joined ahead) = none
change_named names shape k call (F.Notified woken n) = none
change_named names shape k call F.Waited = none
change_named names shape k call (F.WokenBy j) = none
change_named names shape k call (F.Failed check) = none

either : (b : Bool) (n m : Node) → Named n → Named m → Named (cond b n m)
either true n m p q = p
either false n m p q = q

arrow_named : (shape : Shape) (k a chars b : ℕ) → Named (arrow shape k a chars b)
arrow_named shape k a chars b = either (nat_lt a b) _ _ (across_named _ _ _ _) (across_named _ _ _ _)

arrows_named : (shape : Shape) (k a chars : ℕ) (woken : List ℕ) → AllNamed (map (arrow shape k a chars) woken)
arrows_named shape k a chars [] = none
arrows_named shape k a chars (b ∷ woken) =
    both (alone (arrow_named shape k a chars b)) (arrows_named shape k a chars woken)

pieces_named : (names : List (List ℕ)) (shape : Shape) (k : ℕ) (e : Entry) (fact : Fact)
    → AllNamed (pieces_of names shape k e fact)
pieces_named names shape k e fact =
    both (both (both (both (alone (label_named _ _ _ _)) (bars_named shape k e.agent fact.since e.what))
    (done_named names _ _ fact.call e.what)) (change_named names shape k fact.call fact.found))
    (arrows_named shape k e.agent _ (woken_in fact.found))

entries_named : (names : List (List ℕ)) (plan : PlanParts) (shape : Shape) (sinces : List (Option ℕ)) (k : ℕ)
    (journal : List Entry) (facts : List Fact) → AllNamed (drawn_entries names plan shape sinces k journal facts)
entries_named names plan shape sinces k [] facts = none
entries_named names plan shape sinces k (e ∷ journal) [] = none
entries_named names plan shape sinces k (e ∷ journal) (fact ∷ facts) =
    line (group_named (agent_words e.agent (fact_words names plan sinces e fact)) _ (pieces_named names shape k e fact))
    (entries_named names plan shape (noted sinces k e) (k + 1) journal facts)

-- ---- ends

open_call_named : (shape : Shape) (a : ℕ) (since : Option ℕ) → AllNamed (open_call shape a since)
open_call_named shape a None = none
open_call_named shape a (Some j) = alone (rectangle_named _ _ _ _ _)

open_wait_named : (shape : Shape) (a : ℕ) (since : Option ℕ) → AllNamed (open_wait shape a since)
open_wait_named shape a None = none
open_wait_named shape a (Some j) = alone (rectangle_named _ _ _ _ _)

open_bar_named : (shape : Shape) (a : ℕ) (since : Option ℕ) (at : At) → AllNamed (open_bar shape a since at)
open_bar_named shape a since A.Ready = none
open_bar_named shape a since A.Begun = open_call_named shape a since
open_bar_named shape a since (A.Waits notified) = open_wait_named shape a since
open_bar_named shape a since (A.Woken k) = open_wait_named shape a since
open_bar_named shape a since A.Answered = open_call_named shape a since

end_named : (names : List (List ℕ)) (shape : Shape) (a : ℕ) (s : Option Standing)
    → AllNamed (drawn_end names shape a s)
end_named names shape a None = none
end_named names shape a (Some s) =
    line (group_named (agent_words a (standing_words names s)) _ (both (open_bar_named shape a s.since s.at)
    (alone (label_named _ _ _ _)))) none

ends_named : (names : List (List ℕ)) (shape : Shape) (standings : List (Option Standing)) (a n : ℕ)
    → AllNamed (drawn_ends names shape standings a n)
ends_named names shape standings a zero = none
ends_named names shape standings a (suc n) =
    both (end_named names shape a (slice_index_or standings a None)) (ends_named names shape standings (a + 1) n)

blocks_named : (shape : Shape) (b : ℕ) (blocks : List (List ℕ)) → AllNamed (drawn_blocks shape b blocks)
blocks_named shape b [] = none
blocks_named shape b (bytes ∷ blocks) = both (line (label_named _ _ _ _) none) (blocks_named shape (b + 1) blocks)

-- ---- the frame

background_named : (shape : Shape) → AllNamed (background shape)
unfolding label rectangle tip bands style_text
background_named shape = record { are = nodes_tested (nodes (background shape)) refl }

lanes_named : (shape : Shape) (a n : ℕ) → AllNamed (lanes shape a n)
lanes_named shape a zero = none
lanes_named shape a (suc n) =
    both (line (down_named _ _ _ _) (line (label_named _ _ _ _) none)) (lanes_named shape (a + 1) n)

legend_named : (shape : Shape) → AllNamed (legend shape)
unfolding label rectangle across
legend_named shape = record { are = nodes_tested (nodes (legend shape)) refl }

-- ---- the picture

root_named : (shape : Shape) → AreAttributeNames (attribute_names (root_attributes shape))
unfolding root_attributes
root_named shape = attribute_names_tested (attribute_names (root_attributes shape)) refl

drawn_named : (names : List (List ℕ)) (plan : PlanParts) (shape : Shape) (report : ReportParts) (facts : List Fact)
    (standings : List (Option Standing)) → AllNamed (drawn names plan shape report facts standings)
drawn_named names plan shape report facts standings =
    both (both (both (both (both (background_named shape) (lanes_named shape 0 shape.agents))
    (entries_named names plan shape no_sinces 0 report.journal facts))
    (ends_named names shape standings 0 shape.agents)) (blocks_named shape 0 report.blocks)) (legend_named shape)

pub picture_document : (names : List (List ℕ)) (plan : PlanParts) (report : ReportParts) (facts : List Fact)
    (standings : List (Option Standing)) → IsDocument (svg_text names plan report facts standings)
picture_document names plan report facts standings =
    let shape = shape_of names plan (length report.schedule) in
    let all = drawn_named names plan shape report facts standings in
    document (codes "svg") (root_attributes shape) (nodes (drawn names plan shape report facts standings))
    (name_tested (codes "svg") refl, root_named shape, all.are)

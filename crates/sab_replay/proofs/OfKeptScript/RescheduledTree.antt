-- The tree of a script with other moves: it has no float, nests no deeper than a text may, and spells the setup with
-- them.
use Rattle.std.proofs.Common.{◌≡◌, ℕ, ◌<◌, ◌≤◌, List, [], ◌∷◌, length, All, false, codes, refl, ap, ◌∙◌, arith}
use Rattle.std.proofs.lemmas.List.Elements.{All-head, All-tail}
use Rattle.serde_json.specs.Data.{Data, null, boolean, number, string, array, object, depth, items_depth}
use Rattle.serde_json.specs.Read.{max_depth}
use Rattle.serde_json.specs.Written.{has_float, items_have_float}
use Rattle.sab_plan.specs.declared.schedule.Move.{Move}
use Rattle.sab_plan.specs.declared.schedule.Move.TheVariants.{Step, TimeUp}
use Rattle.sab_plan.specs.Schedule.{agent_of}
use Rattle.sab_reader.specs.declared.script.schedule.TheConstants.{MAX_MOVES}
use Rattle.sab_reader.specs.Script.Reading.{SpellsEach}
use Rattle.sab_reader.specs.Script.Schedule.{SpellsMove}
use Rattle.sab_reader.specs.Script.Setup.{SetupParts, Spells, script_object}
use Rattle.sab_reader.proofs.OfScript.Forms.{by_form}
use Rattle.sab_replay.specs.KeptScript.Rescheduled.{move_items, rescheduled, with_schedule}
use Rattle.sab_replay.proofs.OfKeptScript.PutMember.{float_put, depth_put}

moves_whole : (moves : List Move) → items_have_float (move_items moves) ≡ false
moves_whole [] = refl
moves_whole (Step a ∷ moves) = moves_whole moves
moves_whole (TimeUp a ∷ moves) = moves_whole moves

pub whole : (tree : Data) (moves : List Move) → has_float tree ≡ false → has_float (rescheduled tree moves) ≡ false
whole null moves h = h
whole (boolean b) moves h = h
whole (number n) moves h = h
whole (string s) moves h = h
whole (array items) moves h = h
whole (object members) moves h = float_put (codes "schedule") (array (move_items moves)) members (moves_whole moves) h

moves_depth : (moves : List Move) → items_depth (move_items moves) ≤ 1
moves_depth [] = omega arith
moves_depth (Step a ∷ moves) = omega (arith, moves_depth moves)
moves_depth (TimeUp a ∷ moves) = omega (arith, moves_depth moves)

pub shallow : (tree : Data) (moves : List Move) → depth tree ≤ max_depth → depth (rescheduled tree moves) ≤ max_depth
shallow null moves h = h
shallow (boolean b) moves h = h
shallow (number n) moves h = h
shallow (string s) moves h = h
shallow (array items) moves h = h
shallow (object members) moves h =
    omega (arith, moves_depth moves, depth_put (codes "schedule") (array (move_items moves)) members)

-- in a script the moves are in the place of its own
replaced : (tree : Data) (setup : SetupParts) (moves : List Move) (h : Spells tree setup)
    → rescheduled tree moves
    ≡ script_object h.form (array h.agent_trees) h.lens_tree (array (move_items moves)) (array h.view_trees)
replaced tree setup moves h =
    ap (λ d. rescheduled d moves) h.tree
    ∙ by_form
    (λ form.
    rescheduled (script_object form (array h.agent_trees) h.lens_tree (array h.move_trees) (array h.view_trees)) moves
    ≡ script_object form (array h.agent_trees) h.lens_tree (array (move_items moves)) (array h.view_trees))
    refl refl h.form

-- moves of agents that are there are spelled by their trees
spelled : (agents : ℕ) (moves : List Move) → All (λ m. agent_of m < agents) moves
    → SpellsEach (SpellsMove agents) (move_items moves) moves
spelled agents [] h = tt
spelled agents (m ∷ moves) h =
    let first = All-head (λ (m : Move). agent_of m < agents) m moves h in
    let rest = All-tail (λ (m : Move). agent_of m < agents) m moves h in
    ((refl, first), spelled agents moves rest)

-- the setup is the same, except for its schedule
pub respelled : (tree : Data) (setup : SetupParts) (moves : List Move) → Spells tree setup → length moves ≤ MAX_MOVES
    → All (λ m. agent_of m < length setup.plan.scripts) moves
    → Spells (rescheduled tree moves) (with_schedule setup moves)
respelled tree setup moves h few named = record {
  form = h.form;
  agent_trees = h.agent_trees;
  lens_tree = h.lens_tree;
  move_trees = move_items moves;
  view_trees = h.view_trees;
  tree = replaced tree setup moves h;
  lens = h.lens;
  views = h.views;
  described = h.described;
  agents = h.agents;
  schedule = (spelled (length setup.plan.scripts) moves named, few);
}

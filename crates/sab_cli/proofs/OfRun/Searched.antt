-- A search of the file of automata that a reader gave.
use Rattle.std.proofs.Common.{◌≡◌, ◌≢◌, ℕ, ◌≤◌, Bool, List, length, Option, Some, None, IfSome, Result, Ok, Err, IfErr, inl, inr, refl, sym, subst, ap}
use Rattle.std.specs.Io.KnownBytes.{Keeps}
use Rattle.sab_refusal.specs.declared.read_fault.ReadFault.{ReadFault}
use Rattle.sab_refusal.specs.declared.read_fault.ReadFault.TheVariants as R
use Rattle.sab_refusal.specs.Reason.{fault_of}
use Rattle.sab_refusal.specs.ReadFault.{number_of as read_number}
use Rattle.sab_automata_reader.specs.declared.automata_text.limits.TheConstants.{MAX_FILE}
use Rattle.sab_automata_reader.specs.declared.automata_text.faults.EdgeFault.{EdgeFault}
use Rattle.sab_automata_reader.specs.declared.automata_text.faults.EdgeFault.TheVariants as edge
use Rattle.sab_automata_reader.specs.declared.automata_text.faults.EdgesFault.{EdgesFault}
use Rattle.sab_automata_reader.specs.declared.automata_text.faults.EdgesFault.TheVariants as edges
use Rattle.sab_automata_reader.specs.declared.automata_text.faults.AccessFault.{AccessFault}
use Rattle.sab_automata_reader.specs.declared.automata_text.faults.AccessFault.TheVariants as access
use Rattle.sab_automata_reader.specs.declared.automata_text.faults.ChoiceFault.{ChoiceFault}
use Rattle.sab_automata_reader.specs.declared.automata_text.faults.ChoiceFault.TheVariants as choice
use Rattle.sab_automata_reader.specs.declared.automata_text.faults.NodeFault.{NodeFault}
use Rattle.sab_automata_reader.specs.declared.automata_text.faults.NodeFault.TheVariants as node
use Rattle.sab_automata_reader.specs.declared.automata_text.faults.AutomatonFault.{AutomatonFault}
use Rattle.sab_automata_reader.specs.declared.automata_text.faults.AutomatonFault.TheVariants as automaton
use Rattle.sab_automata_reader.specs.declared.automata_text.faults.AutomataFault.{AutomataFault}
use Rattle.sab_automata_reader.specs.declared.automata_text.faults.AutomataFault.TheVariants as automata
use Rattle.sab_automata_reader.specs.declared.automata_text.faults.AgentFault.{AgentFault}
use Rattle.sab_automata_reader.specs.declared.automata_text.faults.AgentFault.TheVariants as agent
use Rattle.sab_automata_reader.specs.declared.automata_text.faults.AgentsFault.{AgentsFault}
use Rattle.sab_automata_reader.specs.declared.automata_text.faults.AgentsFault.TheVariants as agents
use Rattle.sab_automata_reader.specs.declared.automata_text.faults.FileFault.{FileFault}
use Rattle.sab_automata_reader.specs.declared.automata_text.faults.FileFault.TheVariants as file
use Rattle.sab_automata_reader.specs.declared.automata_text.faults.Refusal.{Refusal}
use Rattle.sab_automata_reader.specs.declared.automata_text.faults.Refusal.TheVariants as refusal
use Rattle.sab_automata_reader.specs.AutomataText.Faults.{edge_number, edges_number, access_number, choice_number, node_number, automaton_number}
use Rattle.sab_automata_reader.specs.AutomataText.Faults.{automata_number, agent_number, agents_number, file_number, refusal_number}
use Rattle.sab_replay.specs.declared.faults.tool_fault.ToolFault.{ToolFault}
use Rattle.sab_replay.specs.declared.faults.tool_fault.ToolFault.TheVariants.{TooMany, OutOfMemory, BadShape, BadName, BadNumber, BadCall, BadView, BadAgent, NotJson, TooLong, NoBlock, BadEdge, NoNode, BadRange}
use Rattle.sab_replay.specs.Faults.ToolFault.{number_of}
use Rattle.sab_cli.specs.declared.command.job.SearchForm.{SearchForm}
use Rattle.sab_cli.specs.declared.command.job.SearchForm.TheVariants as F
use Rattle.sab_cli.specs.declared.command.job.SearchJob.{SearchJob}
use Rattle.sab_cli.specs.declared.exit.outcome.Outcome.{Outcome}
use Rattle.sab_search.specs.declared.ending.SearchEnd.{SearchEnd}
use Rattle.sab_replay.specs.ScriptRunner.Input.{IsFaultOfInput}
use Rattle.sab_replay.proofs.OfScriptRunner.ReplaySteps.{keeps_same}
use Rattle.sab_cli.specs.declared.run.failure.Failure.{Failure}
use Rattle.sab_cli.specs.Run.Failure.{unexplained}
use Rattle.sab_cli.proofs.OfRun.Flushed.{appends_kept}
use Rattle.sab_cli.specs.Run.Searching.{RunsSearch, RunsSearchGiven, SearchesBy, IsFailureAfter, IsSearchFailure, outcome_of}

-- ---- each refusal has the number of a fault

-- no fault has the number
abbrev HasNone : ℕ → Type 0
HasNone n = (fault : ToolFault) → number_of fault ≢ n

of_read : (f : ReadFault) → HasNone (read_number f) → ⊥
of_read R.TooMany none = none TooMany refl
of_read R.OutOfMemory none = none OutOfMemory refl
of_read R.BadShape none = none BadShape refl
of_read R.BadName none = none BadName refl
of_read R.BadNumber none = none BadNumber refl
of_read R.BadCall none = none BadCall refl
of_read R.BadView none = none BadView refl
of_read R.BadAgent none = none BadAgent refl
of_read R.NoBlock none = none NoBlock refl

of_edge : (f : EdgeFault) → HasNone (edge_number f) → ⊥
of_edge edge.Shape none = none BadShape refl
of_edge edge.NoText none = none BadShape refl
of_edge (edge.NoAnswer x) none = none BadEdge refl
of_edge (edge.NoWhole reason) none = of_read (fault_of reason) none
of_edge (edge.NoNode n many) none = none BadEdge refl

of_edges : (f : EdgesFault) → HasNone (edges_number f) → ⊥
of_edges edges.NoArray none = none BadShape refl
of_edges (edges.TooMany n) none = none TooMany refl
of_edges (edges.Edge n f) none = of_edge f none
of_edges (edges.Twice n m) none = none BadEdge refl

of_access : (f : AccessFault) → HasNone (access_number f) → ⊥
of_access access.Shape none = none BadShape refl
of_access (access.NoWhole n reason) none = of_read (fault_of reason) none
of_access access.NoHex none = none BadShape refl
of_access access.NoRange none = none BadRange refl

of_choice : (f : ChoiceFault) → HasNone (choice_number f) → ⊥
of_choice (choice.NoWhole reason) none = of_read (fault_of reason) none
of_choice (choice.NoCount n) none = none BadNumber refl

of_node : (f : NodeFault) → HasNone (node_number f) → ⊥
of_node node.Shape none = none BadShape refl
of_node (node.Call r) none = of_read (fault_of r.why) none
of_node (node.Read f) none = of_access f none
of_node (node.Write f) none = of_access f none
of_node node.NoFlag none = none BadShape refl
of_node node.NotFinished none = none BadShape refl
of_node node.NoText none = none BadShape refl
of_node (node.Edges f) none = of_edges f none
of_node (node.WriteEdges n) none = none BadEdge refl
of_node (node.Choose f) none = of_choice f none

of_automaton : (f : AutomatonFault) → HasNone (automaton_number f) → ⊥
of_automaton automaton.Shape none = none BadShape refl
of_automaton automaton.NoText none = none BadShape refl
of_automaton (automaton.NameForm x) none = none BadName refl
of_automaton automaton.NoArray none = none BadShape refl
of_automaton automaton.NoNodes none = none NoNode refl
of_automaton (automaton.TooMany n) none = none TooMany refl
of_automaton (automaton.Node n f) none = of_node f none
of_automaton (automaton.Back n m) none = none BadEdge refl

of_automata : (f : AutomataFault) → HasNone (automata_number f) → ⊥
of_automata automata.NoArray none = none BadShape refl
of_automata automata.NoAutomata none = none NoNode refl
of_automata (automata.Automaton n f) none = of_automaton f none
of_automata (automata.Twice n m) none = none BadName refl
of_automata (automata.TooMany n) none = none TooMany refl

of_agent : (f : AgentFault) → HasNone (agent_number f) → ⊥
of_agent agent.Shape none = none BadShape refl
of_agent agent.NoText none = none BadShape refl
of_agent (agent.NoAutomaton x) none = none NoNode refl
of_agent agent.NoFlag none = none BadShape refl

of_agents : (f : AgentsFault) → HasNone (agents_number f) → ⊥
of_agents agents.NoArray none = none BadShape refl
of_agents (agents.TooMany n) none = none TooMany refl
of_agents (agents.Agent n f) none = of_agent f none

of_file : (f : FileFault) → HasNone (file_number f) → ⊥
of_file file.Shape none = none BadShape refl
of_file (file.Script r) none = of_read (fault_of r.why) none
of_file file.NoViews none = none BadShape refl
of_file (file.Initial f) none = none BadShape refl
of_file (file.Automata f) none = of_automata f none
of_file (file.Agents f) none = of_agents f none

pub has_a_fault : (r : Refusal) → HasNone (refusal_number r) → ⊥
has_a_fault (refusal.TooLong n) none = none TooLong refl
has_a_fault (refusal.NotJson place) none = none NotJson refl
has_a_fault (refusal.File f) none = of_file f none

-- ---- of the bytes that a reader had

-- how the search ended
pub searched_given : (known old new : Option (List ℕ)) (job : SearchJob) (outcome : Outcome) (input file : List ℕ)
    → IfSome known (λ bytes. input ≡ bytes) → file ≡ input → length input ≤ MAX_FILE
    → RunsSearch job outcome old new file → IfSome known (RunsSearchGiven job outcome old new)
searched_given None old new job outcome input file all same few done = tt
searched_given (Some bytes) old new job outcome input file all same few done =
    subst (λ (s : List ℕ). RunsSearchGiven job outcome old new s) all
    (few, subst (λ (s : List ℕ). RunsSearch job outcome old new s) same done)

-- what it failed for
failed_given : (known old new : Option (List ℕ)) (job : SearchJob) (explain : Bool) (failure : Failure)
    (input file : List ℕ) → IfSome known (λ bytes. input ≡ bytes) → file ≡ input → length input ≤ MAX_FILE
    → IsFailureAfter job explain old new file failure → IsSearchFailure known job explain old new failure
failed_given None old new job explain failure input file all same few failed = inr tt
failed_given (Some bytes) old new job explain failure input file all same few failed =
    inr (subst (λ (s : List ℕ). (length s ≤ MAX_FILE) × IsFailureAfter job explain old new s failure) all
    (few, subst (λ (s : List ℕ). IsFailureAfter job explain old new s failure) same failed))

pub failed_by : {T : Type 0} (r : Result T Failure) (known old new : Option (List ℕ)) (job : SearchJob) (explain : Bool)
    (input file : List ℕ) → IfSome known (λ bytes. input ≡ bytes) → file ≡ input → length input ≤ MAX_FILE
    → IfErr r (IsFailureAfter job explain old new file) → IfErr r (IsSearchFailure known job explain old new)
failed_by (Ok x) known old new job explain input file all same few failed = tt
failed_by (Err failure) known old new job explain input file all same few failed =
    failed_given known old new job explain failure input file all same few failed

-- the bytes can't be had
pub unread : (known old : Option (List ℕ)) (job : SearchJob) (explain : Bool) (fault : ToolFault) (failure : Failure)
    → IsFaultOfInput MAX_FILE known fault → failure ≡ unexplained fault
    → IsSearchFailure known job explain old old failure
unread known old job explain fault failure is same =
    inl (
      keeps_same old,
      subst (λ (f : Failure). IsFaultOfInput MAX_FILE known f.fault) (sym same) is,
      ap (λ (f : Failure). f.explanation) same,
    )

-- ---- and the flush after it

-- what was written is still written
still : (form : SearchForm) (job : SearchJob) (old mid new : Option (List ℕ)) (file : List ℕ) (end : SearchEnd)
    → SearchesBy form job old mid file end → Keeps mid new → SearchesBy form job old new file end
still (F.Findings format states) job old mid new file end searches kept =
    (searches.0, searches.1, appends_kept old mid new (searches.0) (searches.2) kept)
still (F.Script failure) job old mid new file end scripts kept =
    (scripts.0, scripts.1, appends_kept old mid new (scripts.0) (scripts.2) kept)

pub flushed : (job : SearchJob) (old mid new : Option (List ℕ)) (file : List ℕ) (end : SearchEnd) (outcome : Outcome)
    → SearchesBy job.form job old mid file end → Keeps mid new → outcome ≡ outcome_of end
    → RunsSearch job outcome old new file
flushed job old mid new file end outcome searches kept is =
    (end, still job.form job old mid new file end searches kept, is)

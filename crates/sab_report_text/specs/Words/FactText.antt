-- The words of a fact.
use Rattle.std.specs.Prelude.{ℕ, ◌+◌, ◌-◌, ◌==◌, Bool, true, false, if◌then◌else◌, List, [], ◌∷◌, ◌++◌, length, flat_map, Option, Some, None, codes, decimal, slice_get, slice_index_or}
use Rattle.std.specs.Ordering.{int_eq}
use Rattle.sab_block.specs.declared.check.Check.{Check}
use Rattle.sab_block.specs.declared.check.Check.TheVariants as X
use Rattle.sab_block.specs.declared.operand.Operand.{Operand}
use Rattle.sab_block.specs.Kind.{is_big, kind_name}
use Rattle.sab_block.specs.Operand.{whole_of}
use Rattle.sab_block.specs.View.{kind_of, len_of}
use Rattle.sab_plan.specs.declared.answer.Answer.{Answer}
use Rattle.sab_plan.specs.declared.answer.Answer.TheVariants.{Threw}
use Rattle.sab_plan.specs.declared.call.Call.{Call}
use Rattle.sab_plan.specs.declared.plan_view.PlanView.{PlanView}
use Rattle.sab_plan.specs.declared.entry.Why.{Why}
use Rattle.sab_plan.specs.declared.entry.Why.TheVariants.{Endless}
use Rattle.sab_plan.specs.declared.entry.What.{What}
use Rattle.sab_plan.specs.declared.entry.What.TheVariants.{Began, Returned, Stuck}
use Rattle.sab_plan.specs.declared.entry.Entry.{Entry}
use Rattle.sab_plan.specs.Call.{view_of}
use Rattle.sab_plan.specs.Plan.{PlanParts}
use Rattle.sab_plan.specs.declared.fact.Found.{Found}
use Rattle.sab_plan.specs.declared.fact.Found.TheVariants as F
use Rattle.sab_plan.specs.declared.fact.Fact.{Fact}
use Rattle.sab_report_text.specs.Text.Text.{operand_text}
use Rattle.sab_report_text.specs.Words.CallText.{name_of, argument, call_text, element_text}

-- a number of things, in the singular or the plural
abbrev pub counted : ℕ → List ℕ → List ℕ → List ℕ
counted n one many = decimal n ++ (if n == 1 then one else many)

-- since which entry, where there is one
abbrev pub since_text : Option ℕ → List ℕ
since_text None = []
since_text (Some k) = codes " since " ++ decimal k

-- at which element an agent stands in line, and since when
unfoldable pub stand_text : List ℕ → Option ℕ → List ℕ
stand_text element since = codes " at " ++ element ++ since_text since

-- one more agent of several
abbrev pub next_agent : ℕ → List ℕ
next_agent a = argument (decimal a)

-- who is before an agent in line, oldest first
abbrev pub ahead_text : List ℕ → List ℕ
ahead_text [] = codes ", first in line"
ahead_text (a ∷ agents) =
    codes " behind agent" ++ (if length agents == 0 then [] else codes "s") ++ codes " " ++ decimal a
    ++ flat_map next_agent agents

-- since which entry an agent stands where it does, by what is known of all agents
abbrev pub since_of : List (Option ℕ) → ℕ → List ℕ
since_of sinces a = since_text (slice_index_or sinces a None)

-- an agent and since when it waited; and one more of several
abbrev pub sleeper : List (Option ℕ) → ℕ → List ℕ
sleeper sinces a = decimal a ++ since_of sinces a

abbrev pub next_sleeper : List (Option ℕ) → ℕ → List ℕ
next_sleeper sinces a = argument (sleeper sinces a)

-- why a notify wakes nobody, where so many wait
abbrev pub unwoken_text : ℕ → List ℕ
unwoken_text n = codes "its count is below 1, and " ++ counted n (codes " agent waits") (codes " agents wait")

abbrev pub idle_text : ℕ → List ℕ
idle_text n = if n == 0 then codes "nobody waits" else unwoken_text n

-- what a notify does that wakes nobody
abbrev pub nobody_text : List ℕ → ℕ → List ℕ
nobody_text element n = codes " wakes nobody: " ++ idle_text n ++ codes " at " ++ element

-- the one agent that a notify wakes
abbrev pub one_woken_text : List ℕ → List (Option ℕ) → ℕ → List ℕ
one_woken_text element sinces a =
    codes "agent " ++ decimal a ++ codes ", which waited at " ++ element ++ since_of sinces a

-- the agents that a notify wakes, oldest first: one, and the others
abbrev pub more_woken_text : List ℕ → List (Option ℕ) → ℕ → List ℕ → List ℕ
more_woken_text element sinces a agents =
    codes "agents that waited at " ++ element ++ codes ": " ++ sleeper sinces a ++ flat_map (next_sleeper sinces) agents

abbrev pub woken_text : List ℕ → List (Option ℕ) → ℕ → List ℕ → List ℕ
woken_text element sinces a agents =
    if length agents == 0 then one_woken_text element sinces a else more_woken_text element sinces a agents

-- how many wait on
abbrev pub still_text : ℕ → List ℕ
still_text n = if n == 0 then [] else codes "; " ++ counted n (codes " still waits") (codes " still wait")

-- what a notify does that wakes one agent and others, of so many that waited
abbrev pub some_text : List ℕ → List (Option ℕ) → ℕ → List ℕ → ℕ → List ℕ
some_text element sinces a agents waiting =
    codes " wakes " ++ woken_text element sinces a agents ++ still_text (waiting - (length agents + 1))

-- what a notify does that wakes these agents, of so many that waited
abbrev pub notified_text : List ℕ → List (Option ℕ) → List ℕ → ℕ → List ℕ
notified_text element sinces [] waiting = nobody_text element waiting
notified_text element sinces (a ∷ agents) waiting = some_text element sinces a agents waiting

-- what a view is or has for which a call on it fails a check
abbrev pub view_reason : PlanView → Check → List ℕ
view_reason v X.AtomicKind = codes " is " ++ kind_name (kind_of v.view) ++ codes ", which Atomics doesn't take"
view_reason v X.WaitableKind = codes " is " ++ kind_name (kind_of v.view) ++ codes ", not Int32 or BigInt64"
view_reason v X.Index = codes " has " ++ counted (len_of v.view) (codes " element") (codes " elements")
view_reason v X.Operand = codes " takes " ++ (if is_big (kind_of v.view) then codes "BigInts" else codes "Numbers")
view_reason v X.CanBlock = []

-- the same where the plan has that view
abbrev pub view_reason_in : Check → Option PlanView → List ℕ
view_reason_in check (Some v) = view_reason v check
view_reason_in check None = []

-- why an agent's call throws
abbrev pub reason_text : List (List ℕ) → PlanParts → ℕ → Call → Check → List ℕ
reason_text names plan a call X.CanBlock = codes "agent " ++ decimal a ++ codes " can't block"
reason_text names plan a call check =
    name_of names (view_of call) ++ view_reason_in check (slice_get plan.views (view_of call))

-- the two are one number
abbrev pub is_same : Operand → Operand → Bool
is_same x y = int_eq (whole_of x) (whole_of y)

abbrev pub changed_text : List ℕ → Operand → Operand → List ℕ
changed_text element x y =
    codes " changes " ++ element ++ codes " from " ++ operand_text x ++ codes " to " ++ operand_text y

-- a store or a read-modify-write of an element that was x and is y
abbrev pub wrote_text : List ℕ → Operand → Operand → List ℕ
wrote_text element x y =
    if is_same x y then codes " leaves " ++ element ++ codes " at " ++ operand_text y else changed_text element x y

-- a compare-exchange that exchanged one number for the same
abbrev pub stayed_text : List ℕ → Operand → List ℕ
stayed_text element y = codes " exchanges, " ++ element ++ codes " stays " ++ operand_text y

-- a compare-exchange that exchanged
abbrev pub exchanged_text : List ℕ → Operand → Operand → List ℕ
exchanged_text element x y = if is_same x y then stayed_text element y else changed_text element x y

-- what an element is, for which a call does nothing
unfoldable pub element_is : List ℕ → Operand → List ℕ
element_is element x = codes ", " ++ element ++ codes " is " ++ operand_text x

-- a compare-exchange that exchanged, or one that failed
abbrev pub compared_text : List ℕ → Operand → Operand → Bool → List ℕ
compared_text element x y true = exchanged_text element x y
compared_text element x y false = codes " fails" ++ element_is element x

-- what came of a call of an agent: behind the call
abbrev pub outcome_text : List (List ℕ) → PlanParts → List (Option ℕ) → ℕ → Call → Option ℕ → Found → List ℕ
outcome_text names plan sinces a call since F.Nothing = []
outcome_text names plan sinces a call since (F.Read x) = codes " reads " ++ operand_text x
outcome_text names plan sinces a call since (F.Wrote x y) = wrote_text (element_text names call) x y
outcome_text names plan sinces a call since (F.Compared x y exchanged) =
    compared_text (element_text names call) x y exchanged
outcome_text names plan sinces a call since (F.Differs x) =
    codes " doesn't wait" ++ element_is (element_text names call) x
outcome_text names plan sinces a call since (F.Joined ahead) =
    codes " waits at " ++ element_text names call ++ ahead_text ahead
outcome_text names plan sinces a call since (F.Notified woken waiting) =
    notified_text (element_text names call) sinces woken waiting
outcome_text names plan sinces a call since (F.WokenBy k) = codes " was woken by " ++ decimal k
outcome_text names plan sinces a call since (F.Failed check) = codes " throws: " ++ reason_text names plan a call check
outcome_text names plan sinces a call since F.Waited =
    codes " times out after waiting" ++ stand_text (element_text names call) since

-- why the time of a wait can't be up, or the call that an agent waits in
abbrev pub wait_text : Why → List ℕ → List ℕ
wait_text Endless call = codes ", and " ++ call ++ codes " has no timeout"
wait_text why call = codes ", in " ++ call

-- why a move of an agent that has a call left had no effect
abbrev pub stuck_text : List (List ℕ) → Call → Option ℕ → Why → Found → List ℕ
stuck_text names call since why F.Waited =
    codes "waits" ++ stand_text (element_text names call) since ++ wait_text why (call_text names call)
stuck_text names call since why (F.WokenBy k) = codes "doesn't wait any more: it was woken by " ++ decimal k
stuck_text names call since why found = codes "doesn't wait"

-- how a call ends that has this answer
abbrev pub return_words : Answer → List ℕ
return_words (Threw thrown) = codes "throws out of "
return_words answer = codes "returns from "

-- what an entry did, of an agent that has a call left
abbrev pub called_words : List (List ℕ) → PlanParts → List (Option ℕ) → ℕ → Call → Fact → What → List ℕ
called_words names plan sinces a call fact Began = codes "calls " ++ call_text names call
called_words names plan sinces a call fact (Returned x) = return_words x ++ call_text names call
called_words names plan sinces a call fact (Stuck why) = stuck_text names call fact.since why fact.found
called_words names plan sinces a call fact what =
    call_text names call ++ outcome_text names plan sinces a call fact.since fact.found

-- why there is nothing left to call, by how many calls have returned
abbrev pub done_text : ℕ → List ℕ
done_text n = if n == 0 then codes "it has no calls" else codes "all its calls have returned"

-- the words of an entry, by the call that it is of
abbrev pub words_of : List (List ℕ) → PlanParts → List (Option ℕ) → Entry → Fact → Option Call → List ℕ
words_of names plan sinces e fact None = done_text e.call
words_of names plan sinces e fact (Some call) = called_words names plan sinces e.agent call fact e.what

abbrev pub fact_words : List (List ℕ) → PlanParts → List (Option ℕ) → Entry → Fact → List ℕ
fact_words names plan sinces e fact = words_of names plan sinces e fact fact.call

-- The text of a check.
use Rattle.std.specs.Prelude.{ℕ, ◌+◌, ◌==◌, suc, Bool, List, [], ◌∷◌, ◌++◌, length, Option, Some, None, codes, decimal, slice_get, if◌then◌else◌}
use Rattle.std.specs.Fmt.{signed_decimal}
use Rattle.sab_block.specs.Kind.{kind_name}
use Rattle.sab_block.specs.Thrown.{name_of}
use Rattle.sab_plan.specs.declared.call.Call.{Call}
use Rattle.sab_plan.specs.declared.plan_view.PlanView.{PlanView}
use Rattle.sab_plan.specs.Call.{function_of, view_of}
use Rattle.sab_plan.specs.Script.{ScriptParts}
use Rattle.sab_refusal.specs.declared.location.Location.TheVariants as at
use Rattle.sab_refusal.specs.declared.member.Member.TheVariants.{Agents, Calls}
use Rattle.sab_refusal.specs.Location.{location_text}
use Rattle.sab_reader.specs.Script.Views.{view_names}
use Rattle.sab_reader.specs.Script.Setup.{SetupParts}
use Rattle.sab_reader.specs.declared.check.cause.ThrowReason.{ThrowReason}
use Rattle.sab_reader.specs.declared.check.cause.ThrowReason.TheVariants.{NotAtomic, NotWaitable, NoElement, NotNumber, NotBigInt, CannotBlock}
use Rattle.sab_reader.specs.declared.check.cause.Cause.{Cause}
use Rattle.sab_reader.specs.Check.Cause.{first_cause}

-- what is amiss
abbrev pub reason_text : ThrowReason → List ℕ
reason_text (NotAtomic kind) = codes "Atomics doesn't take " ++ kind_name kind
reason_text (NotWaitable kind) = kind_name kind ++ codes " isn't waitable"
reason_text (NoElement index len) =
    codes "there is no index " ++ (signed_decimal index ++ (codes ": the length is " ++ decimal len))
reason_text (NotNumber kind) = kind_name kind ++ codes " takes Numbers and no BigInts"
reason_text (NotBigInt kind) = kind_name kind ++ codes " takes BigInts and no Numbers"
reason_text CannotBlock = codes "the agent can't block"

-- a warning of a call that throws whenever it acts
abbrev pub warning_text : ℕ → ℕ → List ℕ → List ℕ → Cause → List ℕ
warning_text agent call word view cause =
    codes "warning: "
    ++ (location_text (at.Call Agents agent Calls call) ++ (codes ": " ++ (word ++ (codes " on " ++ (view
    ++ (codes " always throws " ++ (name_of cause.thrown ++ (codes ": " ++ reason_text cause.reason))))))))

-- the name of a view by its position
abbrev pub name_in : Option (List ℕ) → List ℕ
name_in None = []
name_in (Some name) = name

-- why a call throws whenever it acts, if it does
abbrev pub cause_on : Bool → Option PlanView → Call → Option Cause
cause_on can_block None call = None
cause_on can_block (Some v) call = first_cause can_block v.view call

-- a line of a warning, or none
abbrev pub line_of : ℕ → ℕ → List ℕ → List ℕ → Option Cause → List ℕ
line_of agent call word view None = []
line_of agent call word view (Some cause) = warning_text agent call word view cause ++ codes "\n"

-- a call's
abbrev pub call_lines : SetupParts → Bool → ℕ → ℕ → Call → List ℕ
call_lines setup can_block agent call c =
    line_of agent call (function_of c) (name_in (slice_get (view_names setup.views) (view_of c)))
    (cause_on can_block (slice_get setup.plan.views (view_of c)) c)

-- those of an agent's calls from the given one on
abbrev pub calls_lines : SetupParts → Bool → ℕ → ℕ → List Call → List ℕ
calls_lines setup can_block agent call [] = []
calls_lines setup can_block agent call (c ∷ cs) =
    call_lines setup can_block agent call c ++ calls_lines setup can_block agent (suc call) cs

-- those of the agents from the given one on
abbrev pub agents_lines : SetupParts → ℕ → List ScriptParts → List ℕ
agents_lines setup agent [] = []
agents_lines setup agent (s ∷ ss) = calls_lines setup s.can_block agent 0 s.calls ++ agents_lines setup (suc agent) ss

-- a number and a word, with an s behind it except for 1
abbrev pub plural : ℕ → List ℕ → List ℕ
plural n word = decimal n ++ (codes " " ++ (word ++ (if n == 1 then [] else codes "s")))

-- how many calls all agents have
abbrev pub count_calls : List ScriptParts → ℕ
count_calls [] = 0
count_calls (s ∷ ss) = length s.calls + count_calls ss

-- the line of a script that isn't refused
abbrev pub ok_text : SetupParts → List ℕ
ok_text setup =
    codes "ok: " ++ (plural (length setup.plan.lens) (codes "block") ++ (codes ", "
    ++ (plural (length setup.views) (codes "view") ++ (codes ", "
    ++ (plural (length setup.plan.scripts) (codes "agent") ++ (codes ", "
    ++ (plural (count_calls setup.plan.scripts) (codes "call") ++ (codes ", "
    ++ (plural (length setup.schedule) (codes "move") ++ codes "\n")))))))))

-- that line, and a line for each call that throws whenever it acts
abbrev pub accepted_text : SetupParts → List ℕ
accepted_text setup = ok_text setup ++ agents_lines setup 0 setup.plan.scripts

-- The texts of trees, piece by piece.
use Rattle.std.proofs.Common.{◌≡◌, ℕ, ℤ, pos, negsuc, Bool, true, false, List, [], ◌∷◌, ◌++◌, Option, Some, None, refl, sym, ap, ◌∙◌, append_assoc, arith}
use Rattle.std.proofs.lemmas.Grind.{common_steps}
use Rattle.std.specs.Prelude.{codes, flat_map, option_map}
use Rattle.std.specs.Fmt.{decimal, signed_decimal}
use Rattle.json.specs.Print.{escape, escape_byte}
use Rattle.serde_json.specs.Data.{Data, string, Members, no_members, member}
use Rattle.serde_json.specs.Find.{of_integer}
use Rattle.serde_json.specs.Written.{number_text, compact_text, items_text, members_text}
use Rattle.sab_block.specs.declared.operand.Operand.{Operand}
use Rattle.sab_block.specs.Operand.{is_bigint, whole_of}
use Rattle.sab_block.specs.declared.rmw_op.RmwOp.TheVariants.{Exchange, Add, Sub, And, Or, Xor}
use Rattle.sab_block.specs.declared.access.Access.TheVariants.{Load, Store, Rmw, CompareExchange}
use Rattle.sab_plan.specs.declared.call.Call.{Call}
use Rattle.sab_plan.specs.declared.call.Call.TheVariants as C
use Rattle.sab_plan.specs.Call.{function_of, view_of, index_of, arguments_of}
use Rattle.sab_plan.specs.declared.progress.Progress.{Progress}
use Rattle.sab_plan.specs.declared.entry.Entry.{Entry}
use Rattle.sab_plan.specs.declared.fact.Fact.{Fact}
use Rattle.sab_plan.specs.declared.standing.At.{At}
use Rattle.sab_plan.specs.declared.standing.At.TheVariants as S
use Rattle.sab_plan.specs.declared.standing.Standing.{Standing}
use Rattle.sab_report_text.specs.Text.Text.{hex_byte}
use Rattle.sab_report_text.specs.Words.CallText.{name_of}
use Rattle.sab_report_text.specs.JsonLines.Members.{member_if, member_text_if}
use Rattle.sab_report_text.specs.JsonLines.CallData.{AreNames, natural, whole_data, operand_data, argument_items, call_data}
use Rattle.sab_report_text.specs.JsonLines.FactData.{answer_in, what_name, why_in, place_data, found_data, entry_data}
use Rattle.sab_report_text.specs.JsonLines.StandingData.{at_name, notified_in, waker_in, standing_data, agent_data}
use Rattle.sab_report_text.specs.JsonLines.Lines.{line, block_data}
use Rattle.sab_report_text.proofs.OfJsonLines.Plain.{escape_same, signed_decimal_plain, hex_plain, name_plain}

pub whole_text : (z : ℤ) → number_text (of_integer z) ≡ signed_decimal z
whole_text (pos n) = refl
whole_text (negsuc n) = refl

pub number_operand : (x : Operand) → is_bigint x ≡ false → compact_text (operand_data x) ≡ signed_decimal (whole_of x)
unfolding operand_data
number_operand x h = ap (λ (b : Bool). compact_text (whole_data b (whole_of x))) h ∙ whole_text (whole_of x)

pub bigint_operand : (x : Operand) → is_bigint x ≡ true
    → compact_text (operand_data x) ≡ codes "\"" ++ (signed_decimal (whole_of x) ++ codes "\"")
unfolding operand_data
bigint_operand x h =
    ap (λ (b : Bool). compact_text (whole_data b (whole_of x))) h
    ∙ ap (λ (s : List ℕ). 34 ∷ (s ++ 34 ∷ []))
    (escape_same (signed_decimal (whole_of x)) (signed_decimal_plain (whole_of x)))

escape_function : (call : Call) → escape (function_of call) ≡ function_of call
unfolding escape_byte
escape_function (C.Access view (Load index)) = refl
escape_function (C.Access view (Store index x)) = refl
escape_function (C.Access view (Rmw Exchange index x)) = refl
escape_function (C.Access view (Rmw Add index x)) = refl
escape_function (C.Access view (Rmw Sub index x)) = refl
escape_function (C.Access view (Rmw And index x)) = refl
escape_function (C.Access view (Rmw Or index x)) = refl
escape_function (C.Access view (Rmw Xor index x)) = refl
escape_function (C.Access view (CompareExchange index x y)) = refl
escape_function (C.Wait view index x timeout) = refl
escape_function (C.Notify view index count) = refl

pub call_json : (names : List (List ℕ)) (call : Call) → AreNames names
    → compact_text (call_data names call) ≡ (codes "[\"" ++ (function_of call ++ codes "\",\""))
    ++ (name_of names (view_of call) ++ (codes "\"," ++ (signed_decimal (index_of call)
    ++ items_text true (argument_items (arguments_of call)))))
unfolding call_data
call_json names call h =
    let word = function_of call in
    let name = name_of names (view_of call) in
    let end = signed_decimal (index_of call) ++ items_text true (argument_items (arguments_of call)) in
    rw (escape_function call, escape_same name (name_plain names (view_of call) h), whole_text (index_of call))
    (ap (λ (s : List ℕ). 91 ∷ 34 ∷ s) (append_assoc word (34 ∷ []) (44 ∷ 34 ∷ ((name ++ 34 ∷ []) ++ 44 ∷ end))
    ∙ ap (λ (s : List ℕ). word ++ 34 ∷ 44 ∷ 34 ∷ s) (append_assoc name (34 ∷ []) (44 ∷ end))
    ∙ sym (append_assoc word (34 ∷ 44 ∷ 34 ∷ []) (name ++ 34 ∷ 44 ∷ end))))

-- ---- members that may be left out

-- a member that may be left out, before others
pub member_before : (key : List ℕ) (o : Option Data) (rest : Members) → escape key ≡ key
    → members_text true (member_if key o rest) ≡ member_text_if key o ++ members_text true rest
member_before key None rest h = refl
member_before key (Some d) rest h = grind (arith, common_steps, compact_text, members_text, append_assoc)

-- the same before a text
pub then_member : (key : List ℕ) (o : Option Data) (rest : Members) (end : List ℕ) → escape key ≡ key
    → members_text true (member_if key o rest) ++ end ≡ member_text_if key o ++ (members_text true rest ++ end)
then_member key o rest end h =
    ap (λ (s : List ℕ). s ++ end) (member_before key o rest h)
    ∙ append_assoc (member_text_if key o) (members_text true rest) end

-- the same between two texts
pub text_then : (text key : List ℕ) (o : Option Data) (rest : Members) (end : List ℕ) → escape key ≡ key
    → (text ++ members_text true (member_if key o rest)) ++ end
    ≡ text ++ (member_text_if key o ++ (members_text true rest ++ end))
text_then text key o rest end h =
    append_assoc text (members_text true (member_if key o rest)) end
    ∙ ap (λ (s : List ℕ). text ++ s) (then_member key o rest end h)

-- ---- lines

pub entry_json : (names : List (List ℕ)) (k : ℕ) (e : Entry) (fact : Fact)
    → line (entry_data names k e fact) ≡ codes "{\"agent\":" ++ (decimal e.agent
    ++ (member_text_if (codes "answer") (answer_in e.what) ++ (codes ",\"call\":" ++ (decimal e.call
    ++ (member_text_if (codes "does") (option_map (call_data names) fact.call) ++ (codes ",\"entry\":" ++ (decimal k
    ++ (member_text_if (codes "found") (found_data fact.found)
    ++ (member_text_if (codes "place") (option_map place_data fact.place)
    ++ (member_text_if (codes "since") (option_map natural fact.since)
    ++ (members_text true (member (codes "what") (string (what_name e.what)) (member_if (codes "why") (why_in e.what)
    no_members)) ++ codes "\n")))))))))))
unfolding entry_data escape_byte
entry_json names k e fact =
    let answer = answer_in e.what in
    let does = option_map (call_data names) fact.call in
    let found = found_data fact.found in
    let place = option_map place_data fact.place in
    let since = option_map natural fact.since in
    let what = member (codes "what") (string (what_name e.what)) (member_if (codes "why") (why_in e.what) no_members) in
    let from_since = member_if (codes "since") since what in
    let from_place = member_if (codes "place") place from_since in
    let from_entry = member (codes "entry") (natural k) (member_if (codes "found") found from_place) in
    let from_call = member (codes "call") (natural e.call) (member_if (codes "does") does from_entry) in
    let end = codes "\n" in
    ap (λ (s : List ℕ). codes "{\"agent\":" ++ s)
    (text_then (decimal e.agent) (codes "answer") answer from_call end refl
    ∙ ap (λ (s : List ℕ). decimal e.agent ++ (member_text_if (codes "answer") answer ++ (codes ",\"call\":" ++ s)))
    (text_then (decimal e.call) (codes "does") does from_entry end refl
    ∙ ap (λ (s : List ℕ). decimal e.call ++ (member_text_if (codes "does") does ++ (codes ",\"entry\":" ++ s)))
    (text_then (decimal k) (codes "found") found from_place end refl
    ∙ ap (λ (s : List ℕ). decimal k ++ (member_text_if (codes "found") found ++ s))
    (then_member (codes "place") place from_since end refl
    ∙ ap (λ (s : List ℕ). member_text_if (codes "place") place ++ s)
    (then_member (codes "since") since what end refl)))))

pub block_json : (b : ℕ) (bytes : List ℕ) → line (block_data b bytes)
    ≡ (codes "{\"block\":" ++ (decimal b ++ codes ",\"bytes\":\"")) ++ (flat_map hex_byte bytes ++ codes "\"}\n")
unfolding block_data escape_byte
block_json b bytes =
    let hex = flat_map hex_byte bytes in
    rw (escape_same hex (hex_plain bytes))
    (ap (λ (s : List ℕ). codes "{\"block\":" ++ s)
    (append_assoc (decimal b) (codes ",\"bytes\":\"" ++ ((hex ++ 34 ∷ []) ++ 125 ∷ [])) (codes "\n")
    ∙ ap (λ (s : List ℕ). decimal b ++ (codes ",\"bytes\":\"" ++ s))
    (append_assoc (hex ++ 34 ∷ []) (125 ∷ []) (codes "\n") ∙ append_assoc hex (34 ∷ []) (codes "}\n"))
    ∙ sym (append_assoc (decimal b) (codes ",\"bytes\":\"") (hex ++ codes "\"}\n"))))

escape_at : (at : At) → escape (at_name at) ≡ at_name at
unfolding escape_byte
escape_at S.Ready = refl
escape_at S.Begun = refl
escape_at (S.Waits notified) = refl
escape_at (S.Woken k) = refl
escape_at S.Answered = refl

pub standing_json : (names : List (List ℕ)) (s : Standing)
    → compact_text (standing_data names s) ≡ (codes "{\"at\":\"" ++ (at_name s.at ++ codes "\",\"does\":"))
    ++ (compact_text (call_data names s.call) ++ (member_text_if (codes "notified") (notified_in s.at)
    ++ (member_text_if (codes "place") (option_map place_data s.place)
    ++ (member_text_if (codes "since") (option_map natural s.since)
    ++ (member_text_if (codes "woken_by") (waker_in s.at) ++ codes "}")))))
unfolding standing_data escape_byte
standing_json names s =
    let at = at_name s.at in
    let does = compact_text (call_data names s.call) in
    let notified = notified_in s.at in
    let place = option_map place_data s.place in
    let since = option_map natural s.since in
    let waker = waker_in s.at in
    let from_waker = member_if (codes "woken_by") waker no_members in
    let from_since = member_if (codes "since") since from_waker in
    let from_place = member_if (codes "place") place from_since in
    let from_notified = member_if (codes "notified") notified from_place in
    rw (escape_at s.at)
    (ap (λ (t : List ℕ). codes "{\"at\":\"" ++ t)
    (append_assoc at (34 ∷ []) (codes ",\"does\":" ++ (does ++ members_text true from_notified))
    ∙ ap (λ (t : List ℕ). at ++ (codes "\",\"does\":" ++ (does ++ t)))
    (member_before (codes "notified") notified from_place refl
    ∙ ap (λ (t : List ℕ). member_text_if (codes "notified") notified ++ t)
    (member_before (codes "place") place from_since refl
    ∙ ap (λ (t : List ℕ). member_text_if (codes "place") place ++ t)
    (member_before (codes "since") since from_waker refl
    ∙ ap (λ (t : List ℕ). member_text_if (codes "since") since ++ t)
    (member_before (codes "woken_by") waker no_members refl))))
    ∙ sym (append_assoc at (codes "\",\"does\":") _)))

pub agent_json : (names : List (List ℕ)) (a : ℕ) (p : Progress) (s : Option Standing)
    → line (agent_data names a p s) ≡ codes "{\"agent\":" ++ (decimal a ++ (codes ",\"of\":" ++ (decimal p.total
    ++ (codes ",\"returned\":" ++ (decimal p.returned
    ++ (member_text_if (codes "standing") (option_map (standing_data names) s) ++ codes "}\n"))))))
unfolding agent_data escape_byte
agent_json names a p s =
    let standing = option_map (standing_data names) s in
    let from_standing = member_if (codes "standing") standing no_members in
    let from_returned = member (codes "returned") (natural p.returned) from_standing
    in
    let from_of = member (codes "of") (natural p.total) from_returned in
    ap (λ (t : List ℕ). codes "{\"agent\":" ++ t) (append_assoc (decimal a) (members_text true from_of) (codes "\n")
    ∙ ap (λ (t : List ℕ). decimal a ++ (codes ",\"of\":" ++ t))
    (append_assoc (decimal p.total) (members_text true from_returned) (codes "\n")
    ∙ ap (λ (t : List ℕ). decimal p.total ++ (codes ",\"returned\":" ++ t))
    (text_then (decimal p.returned) (codes "standing") standing no_members (codes "\n") refl)))

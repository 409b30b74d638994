-- The trees of the lines have each key once and in order.
use Rattle.std.proofs.Common.{ℕ, suc, ℤ, Bool, true, false, List, [], ◌∷◌, Option, Some, None, IfSome, refl}
use Rattle.std.specs.Prelude.{codes, option_map}
use Rattle.std.specs.Cmp.Lexicographic.{nat_list_cmp_total}
use Rattle.serde_json.specs.Data.{Data, Members, no_members, member}
use Rattle.sab_block.specs.declared.operand.Operand.{Operand}
use Rattle.sab_block.specs.Operand.{is_bigint, whole_of}
use Rattle.sab_plan.specs.declared.argument.Argument.{Argument}
use Rattle.sab_plan.specs.declared.argument.Argument.TheVariants.{Value, Limit}
use Rattle.sab_plan.specs.declared.call.Call.{Call}
use Rattle.sab_plan.specs.Call.{arguments_of}
use Rattle.sab_plan.specs.declared.place.Place.{Place}
use Rattle.sab_plan.specs.declared.answer.Answer.{Answer}
use Rattle.sab_plan.specs.declared.answer.Answer.TheVariants as A
use Rattle.sab_plan.specs.declared.entry.What.{What}
use Rattle.sab_plan.specs.declared.entry.What.TheVariants.{Began, Acted, Enlisted, Left, Returned, Stuck}
use Rattle.sab_plan.specs.declared.entry.Entry.{Entry}
use Rattle.sab_plan.specs.declared.progress.Progress.{Progress}
use Rattle.sab_plan.specs.declared.fact.Found.{Found}
use Rattle.sab_plan.specs.declared.fact.Found.TheVariants as F
use Rattle.sab_plan.specs.declared.fact.Fact.{Fact}
use Rattle.sab_plan.specs.declared.standing.At.{At}
use Rattle.sab_plan.specs.declared.standing.At.TheVariants as S
use Rattle.sab_plan.specs.declared.standing.Standing.{Standing}
use Rattle.sab_report_text.specs.JsonLines.Members.{member_if}
use Rattle.sab_report_text.specs.JsonLines.CallData.{natural, whole_data, operand_data, argument_data, argument_items, call_data}
use Rattle.sab_report_text.specs.JsonLines.FactData.{answer_data, answer_in, why_in, place_data, agent_items, found_data, entry_data}
use Rattle.sab_report_text.specs.JsonLines.StandingData.{notified_in, waker_in, standing_data, agent_data}
use Rattle.sab_report_text.specs.JsonLines.Lines.{block_data}
use Rattle.sab_report_text.proofs.OfJsonLines.ReadingBack.{IsBefore, IsInOrder, AreInOrder, FollowInOrder}

-- ---- members that may be left out

earlier : (n : ℕ) (k l : List ℕ) (ms : Members) → IsBefore k l → FollowInOrder n l ms → FollowInOrder n k ms
earlier n k l no_members lt h = tt
earlier n k l (member m d ms) lt h = (nat_list_cmp_total.trans k l m lt h.0, h.1)

pub follow_if : (n : ℕ) (k l : List ℕ) (o : Option Data) (ms : Members) → IsBefore k l → IfSome o (IsInOrder n)
    → FollowInOrder n l ms → FollowInOrder n k (member_if l o ms)
follow_if n k l None ms lt h others = earlier n k l ms lt others
follow_if n k l (Some d) ms lt h others = (lt, (h, others))

-- ---- calls

whole_in_order : (n : ℕ) (big : Bool) (z : ℤ) → IsInOrder n (whole_data big z)
whole_in_order n false z = tt
whole_in_order n true z = tt

operand_in_order : (n : ℕ) (x : Operand) → IsInOrder n (operand_data x)
unfolding operand_data
operand_in_order n x = whole_in_order n (is_bigint x) (whole_of x)

argument_in_order : (n : ℕ) (x : Argument) → IsInOrder n (argument_data x)
argument_in_order n (Value x) = operand_in_order n x
argument_in_order n (Limit z) = tt

arguments_in_order : (n : ℕ) (xs : List Argument) → AreInOrder n (argument_items xs)
arguments_in_order n [] = tt
arguments_in_order n (x ∷ xs) = (argument_in_order n x, arguments_in_order n xs)

pub call_in_order : (n : ℕ) (names : List (List ℕ)) (call : Call) → IsInOrder (suc n) (call_data names call)
unfolding call_data
call_in_order n names call = (tt, (tt, (tt, arguments_in_order n (arguments_of call))))

pub does_in_order : (n : ℕ) (names : List (List ℕ)) (o : Option Call)
    → IfSome (option_map (call_data names) o) (IsInOrder (suc n))
does_in_order n names None = tt
does_in_order n names (Some call) = call_in_order n names call

-- ---- entries

answer_in_order : (n : ℕ) (answer : Answer) → IsInOrder n (answer_data answer)
unfolding answer_data
answer_in_order n (A.Value x) = operand_in_order n x
answer_in_order n A.Woken = tt
answer_in_order n A.NotEqual = tt
answer_in_order n A.TimedOut = tt
answer_in_order n (A.Count count) = tt
answer_in_order n (A.Threw thrown) = tt

answered_in_order : (n : ℕ) (what : What) → IfSome (answer_in what) (IsInOrder n)
answered_in_order n Began = tt
answered_in_order n (Acted x) = answer_in_order n x
answered_in_order n Enlisted = tt
answered_in_order n (Left x) = answer_in_order n x
answered_in_order n (Returned x) = answer_in_order n x
answered_in_order n (Stuck why) = tt

why_in_order : (n : ℕ) (what : What) → IfSome (why_in what) (IsInOrder n)
why_in_order n Began = tt
why_in_order n (Acted x) = tt
why_in_order n Enlisted = tt
why_in_order n (Left x) = tt
why_in_order n (Returned x) = tt
why_in_order n (Stuck why) = tt

place_in_order : (n : ℕ) (o : Option Place) → IfSome (option_map place_data o) (IsInOrder (suc n))
unfolding place_data
place_in_order n None = tt
place_in_order n (Some p) = (tt, (refl, (tt, tt)))

pub since_in_order : (n : ℕ) (o : Option ℕ) → IfSome (option_map natural o) (IsInOrder n)
since_in_order n None = tt
since_in_order n (Some k) = tt

agents_in_order : (n : ℕ) (agents : List ℕ) → AreInOrder n (agent_items agents)
agents_in_order n [] = tt
agents_in_order n (a ∷ agents) = (tt, agents_in_order n agents)

found_in_order : (n : ℕ) (found : Found) → IfSome (found_data found) (IsInOrder (suc (suc n)))
unfolding found_data
found_in_order n F.Nothing = tt
found_in_order n (F.Read x) = (operand_in_order (suc n) x, tt)
found_in_order n (F.Wrote x y) = (operand_in_order (suc n) y, (refl, (operand_in_order (suc n) x, tt)))
found_in_order n (F.Compared x y exchanged) =
    (operand_in_order (suc n) y, (refl, (operand_in_order (suc n) x, (refl, (tt, tt)))))
found_in_order n (F.Differs x) = (operand_in_order (suc n) x, tt)
found_in_order n (F.Joined ahead) = (agents_in_order n ahead, tt)
found_in_order n (F.Notified woken waiting) = (tt, (refl, (agents_in_order n woken, tt)))
found_in_order n (F.WokenBy k) = (tt, tt)
found_in_order n (F.Failed check) = (tt, tt)
found_in_order n F.Waited = (tt, tt)

pub entry_in_order : (n : ℕ) (names : List (List ℕ)) (k : ℕ) (e : Entry) (fact : Fact)
    → IsInOrder (suc (suc (suc n))) (entry_data names k e fact)
unfolding entry_data
entry_in_order n names k e fact =
    let m = suc (suc n) in
    let found = found_in_order n fact.found in
    let why = follow_if m (codes "what") (codes "why") (why_in e.what) no_members refl (why_in_order m e.what) tt in (
      tt,
      follow_if m (codes "agent") (codes "answer") (answer_in e.what) _ refl (answered_in_order m e.what) (
        refl,
        (
          tt,
          follow_if m (codes "call") (codes "does") (option_map (call_data names) fact.call) _ refl
              (does_in_order (suc n) names fact.call) (
                refl,
                (
                  tt,
                  follow_if m (codes "entry") (codes "found") (found_data fact.found) _ refl found
                      (follow_if m (codes "found") (codes "place") (option_map place_data fact.place) _ refl
                      (place_in_order (suc n) fact.place)
                      (follow_if m (codes "place") (codes "since") (option_map natural fact.since) _ refl
                      (since_in_order m fact.since) (
                        refl,
                        (tt, why),
                      ))),
                ),
              ),
        ),
      ),
    )

-- ---- blocks and agents

pub block_in_order : (n b : ℕ) (bytes : List ℕ) → IsInOrder (suc n) (block_data b bytes)
unfolding block_data
block_in_order n b bytes = (tt, (refl, (tt, tt)))

notified_in_order : (n : ℕ) (at : At) → IfSome (notified_in at) (IsInOrder n)
notified_in_order n S.Ready = tt
notified_in_order n S.Begun = tt
notified_in_order n (S.Waits notified) = tt
notified_in_order n (S.Woken k) = tt
notified_in_order n S.Answered = tt

waker_in_order : (n : ℕ) (at : At) → IfSome (waker_in at) (IsInOrder n)
waker_in_order n S.Ready = tt
waker_in_order n S.Begun = tt
waker_in_order n (S.Waits notified) = tt
waker_in_order n (S.Woken k) = tt
waker_in_order n S.Answered = tt

standing_in_order : (n : ℕ) (names : List (List ℕ)) (s : Standing) → IsInOrder (suc (suc n)) (standing_data names s)
unfolding standing_data
standing_in_order n names s =
    let m = suc n in
    let since = since_in_order m s.since in
    let woken = waker_in_order m s.at in
    let waker = follow_if m (codes "since") (codes "woken_by") (waker_in s.at) no_members refl woken tt
    in (
      tt,
      (
        refl,
        (
          call_in_order n names s.call,
          follow_if m (codes "does") (codes "notified") (notified_in s.at) _ refl (notified_in_order m s.at)
              (follow_if m (codes "notified") (codes "place") (option_map place_data s.place) _ refl
              (place_in_order n s.place)
              (follow_if m (codes "place") (codes "since") (option_map natural s.since) _ refl since
              waker)),
        ),
      ),
    )

standings_in_order : (n : ℕ) (names : List (List ℕ)) (o : Option Standing)
    → IfSome (option_map (standing_data names) o) (IsInOrder (suc (suc n)))
standings_in_order n names None = tt
standings_in_order n names (Some s) = standing_in_order n names s

pub agent_in_order : (n : ℕ) (names : List (List ℕ)) (a : ℕ) (p : Progress) (s : Option Standing)
    → IsInOrder (suc (suc (suc n))) (agent_data names a p s)
unfolding agent_data
agent_in_order n names a p s = (
  tt,
  (
    refl,
    (
      tt,
      (
        refl,
        (
          tt,
          follow_if (suc (suc n)) (codes "returned") (codes "standing") (option_map (standing_data names) s) no_members
              refl (standings_in_order n names s) tt,
        ),
      ),
    ),
  ),
)

-- How a race goes on.
use Rattle.std.proofs.Common.{◌≡◌, ◌≢◌, ℕ, zero, suc, ◌+◌, ◌<◌, ◌≤◌, ◌==◌, Bool, true, false, List, [], ◌∷◌, ◌++◌, length, get_or, take, set, replicate, slice_get, refl, sym, subst, ◌∙◌, ap, arith, length-append}
use Rattle.std.proofs.lemmas.Bool.Decides.{nat_tests}
use Rattle.std.proofs.lemmas.Grind.{common_steps}
use Rattle.std.proofs.lemmas.List.{get_or-set_same, get_or-set_other, length-set, take_more, length-replicate}
use Rattle.std.proofs.lemmas.List.Elements.{filter-append}
use Rattle.std.proofs.lemmas.List.Sums.{sum_by-set, get_or-le-sum_by, sum_by-cons}
use Rattle.std.specs.Prelude.{Result, Ok, Err, IsOk, OnOk, ◌^◌}
use Rattle.sab_sim.specs.declared.sim_fault.SimFault.{SimFault}
use Rattle.sab_plan.specs.declared.call.Call.{Call}
use Rattle.sab_plan.specs.declared.call.Call.TheVariants as C
use Rattle.sab_plan.specs.declared.schedule.Move.{Move}
use Rattle.sab_plan.specs.declared.schedule.Move.TheVariants.{Step, TimeUp}
use Rattle.sab_plan.specs.Schedule.{agent_of}
use Rattle.sab_plan.specs.Script.{ScriptParts}
use Rattle.sab_plan.specs.Plan.{PlanParts, calls_of, calls_in}
use Rattle.sab_race.specs.Moves.{call_moves, moves_of, part, count_of}
use Rattle.sab_race.specs.Agenda.{AgendaParts, agenda_at, left_in, left_of, no_agenda, after_next}
use Rattle.sab_race.specs.Race.{RaceParts, IsAgenda, IsUnderWay, AreFresh}

-- each move names the agent
abbrev Names : ℕ → List Move → Type 0
Names a [] = Unit {0}
Names a (m ∷ ms) = (agent_of m ≡ a) × Names a ms

Names-append : (a : ℕ) (xs ys : List Move) → Names a xs → Names a ys → Names a (xs ++ ys)
Names-append a [] ys p q = q
Names-append a (x ∷ xs) ys p q = (p.0, Names-append a xs ys p.1 q)

Names-replicate : (a n : ℕ) (m : Move) → agent_of m ≡ a → Names a (replicate n m)
Names-replicate a zero m p = tt
Names-replicate a (suc n) m p = (p, Names-replicate a n m p)

Names-at : (a : ℕ) (ms : List Move) (i : ℕ) (d : Move) → Names a ms → i < length ms → agent_of (get_or ms i d) ≡ a
Names-at a [] i d p h = absurd (omega arith)
Names-at a (m ∷ ms) zero d p h = p.0
Names-at a (m ∷ ms) (suc i) d p h = Names-at a ms i d p.1 (omega arith)

Names-call : (a spins : ℕ) (c : Call) → Names a (call_moves c a spins)
Names-call a spins (C.Access view access) = (refl, (refl, (refl, tt)))
Names-call a spins (C.Notify view index count) = (refl, (refl, (refl, tt)))
Names-call a spins (C.Wait view index x timeout) =
    Names-append a ((Step a ∷ Step a ∷ []) ++ replicate spins (Step a)) (TimeUp a ∷ Step a ∷ Step a ∷ [])
    (Names-append a (Step a ∷ Step a ∷ []) (replicate spins (Step a)) (refl, (refl, tt))
    (Names-replicate a spins (Step a) refl))
    (refl, (refl, (refl, tt)))

Names-moves : (a spins : ℕ) (cs : List Call) → Names a (moves_of cs a spins)
Names-moves a spins [] = tt
Names-moves a spins (c ∷ cs) =
    Names-append a (call_moves c a spins) (moves_of cs a spins) (Names-call a spins c) (Names-moves a spins cs)

-- one more move of an agent ends its part of the schedule
part-own : (schedule : List Move) (m : Move) (a : ℕ) → agent_of m ≡ a
    → part (schedule ++ m ∷ []) a ≡ part schedule a ++ m ∷ []
part-own schedule m a is =
    let test : (agent_of m == a) ≡ true = grind (arith, nat_tests) in
    filter-append (λ x. agent_of x == a) schedule (m ∷ []) ∙ rw test refl

-- and leaves each other part
part-other : (schedule : List Move) (m : Move) (a : ℕ) → agent_of m ≢ a → part (schedule ++ m ∷ []) a ≡ part schedule a
part-other schedule m a is =
    let test : (agent_of m == a) ≡ false = grind (arith, nat_tests) in
    filter-append (λ x. agent_of x == a) schedule (m ∷ []) ∙ rw test (grind (arith, common_steps))

-- the next move of an agenda names its agent
next_names : (plan : PlanParts) (spins : ℕ) (schedule : List Move) (a : ℕ) (t : AgendaParts) (d : Move)
    → IsAgenda plan spins schedule a t → t.made < length t.moves → agent_of (get_or t.moves t.made d) ≡ a
next_names plan spins schedule a t d is h =
    let below : t.made < length (moves_of (calls_of plan a) a spins) = rw is.moves at h in
    rw is.moves (Names-at a (moves_of (calls_of plan a) a spins) t.made d (Names-moves a spins (calls_of plan a)) below)

-- once its next move was made, it is the agent's agenda still
own_goes_on : (plan : PlanParts) (spins : ℕ) (schedule : List Move) (a : ℕ) (t : AgendaParts) (m : Move)
    → IsAgenda plan spins schedule a t → t.made < length t.moves → m ≡ get_or t.moves t.made m
    → IsAgenda plan spins (schedule ++ m ∷ []) a (after_next t)
own_goes_on plan spins schedule a t m is h at =
    let known : agent_of m ≡ a = ap agent_of at ∙ next_names plan spins schedule a t m is h in
    record {
      moves = is.moves;
      made =
          part-own schedule m a known ∙ (ap (λ (xs : List Move). xs ++ m ∷ []) is.made
          ∙ sym (take_more t.moves t.made m h ∙ ap (λ (x : Move). take t.made t.moves ++ x ∷ []) (sym at)));
      within = omega arith;
    }

other_goes_on : (plan : PlanParts) (spins : ℕ) (schedule : List Move) (b : ℕ) (t : AgendaParts) (m : Move)
    → IsAgenda plan spins schedule b t → agent_of m ≢ b → IsAgenda plan spins (schedule ++ m ∷ []) b t
other_goes_on plan spins schedule b t m is apart =
    record { moves = is.moves; made = part-other schedule m b apart ∙ is.made; within = is.within }

each_goes_on : (plan : PlanParts) (spins : ℕ) (schedule : List Move) (entries reserved : ℕ) (agendas : List AgendaParts)
    (a b : ℕ) (m : Move)
    → IsUnderWay plan spins schedule entries reserved agendas → a < length agendas
    → (agenda_at agendas a).made < length (agenda_at agendas a).moves
    → m ≡ get_or (agenda_at agendas a).moves (agenda_at agendas a).made m → b < length agendas
    → (v : Bool) → (b == a) ≡ v
    → IsAgenda plan spins (schedule ++ m ∷ []) b (agenda_at (set agendas a (after_next (agenda_at agendas a))) b)
each_goes_on plan spins schedule entries reserved agendas a b m is here left at there true test =
    let same : b ≡ a = grind (arith, nat_tests) in
    let P : ℕ → Type 0 = λ k. IsAgenda plan spins (schedule ++ m ∷ []) k
    (agenda_at (set agendas a (after_next (agenda_at agendas a))) k) in
    subst P (sym same) (rw (get_or-set_same agendas a (after_next (agenda_at agendas a)) no_agenda here)
    (own_goes_on plan spins schedule a (agenda_at agendas a) m (is.each a here) left at))
each_goes_on plan spins schedule entries reserved agendas a b m is here left at there false test =
    let other : b ≢ a = grind (arith, nat_tests) in
    let known : agent_of m ≡ a =
    ap agent_of at ∙ next_names plan spins schedule a (agenda_at agendas a) m (is.each a here) left in
    rw (get_or-set_other agendas a b (after_next (agenda_at agendas a)) no_agenda other)
    (other_goes_on plan spins schedule b (agenda_at agendas b) m (is.each b there) (omega arith))

-- one more move of an agent keeps the race under way
goes_on : (plan : PlanParts) (spins : ℕ) (schedule : List Move) (entries entries' reserved reserved' : ℕ)
    (agendas : List AgendaParts) (a : ℕ) (m : Move)
    → IsUnderWay plan spins schedule entries reserved agendas → a < length agendas
    → (agenda_at agendas a).made < length (agenda_at agendas a).moves
    → m ≡ get_or (agenda_at agendas a).moves (agenda_at agendas a).made m → entries' ≡ entries + 1
    → reserved ≤ reserved' + 1
    → IsUnderWay plan spins (schedule ++ m ∷ []) entries' reserved' (set agendas a (after_next (agenda_at agendas a)))
goes_on plan spins schedule entries entries' reserved reserved' agendas a m is here left at one most =
    let size : length (set agendas a (after_next (agenda_at agendas a))) ≡ length agendas =
    length-set agendas a (after_next (agenda_at agendas a)) in
    let fewer = sum_by-set left_in agendas a (after_next (agenda_at agendas a)) no_agenda here in
    record {
      count = size ∙ is.count;
      each =
          λ b h. each_goes_on plan spins schedule entries reserved agendas a b m is here left at (omega arith) (b == a)
          refl;
      fits = omega (arith, is.fits, one, fewer);
      room = omega (arith, is.room, fewer);
    }

from_ok : {T E P : Type 0} (r : Result T E) → IsOk r → OnOk r P → P
from_ok (Ok x) h p = p
from_ok (Err e) h p = cc

-- what a step of the simulator says of the race round it
pub stepped : (plan plan' : PlanParts) (spins : ℕ) (schedule schedule' : List Move)
    (entries entries' reserved reserved' : ℕ) (agendas : List AgendaParts) (a : ℕ) (m : Move) (t : AgendaParts)
    (r : Result (Unit {0}) SimFault)
    → IsUnderWay plan spins schedule entries reserved agendas → a < length agendas → t ≡ agenda_at agendas a
    → 0 < left_in (agenda_at agendas a)
    → m ≡ get_or t.moves t.made m → plan' ≡ plan → OnOk r (schedule' ≡ schedule ++ m ∷ [])
    → OnOk r (entries' ≡ entries + 1) → reserved ≤ reserved' + 1
    → (agent_of m < length plan.scripts → entries < 2 ^ 20 → 0 < reserved → IsOk r)
    → IsOk r × IsUnderWay plan' spins schedule' entries' reserved' (set agendas a (after_next t))
stepped plan plan' spins schedule schedule' entries entries' reserved reserved' agendas a m t r is here same left at
    plans made longer most spare =
    let at' : m ≡ get_or (agenda_at agendas a).moves (agenda_at agendas a).made m = rw same at at in
    let known : agent_of m ≡ a =
    ap agent_of at' ∙ next_names plan spins schedule a (agenda_at agendas a) m (is.each a here) (omega arith) in
    let total : left_in (agenda_at agendas a) ≤ left_of agendas = get_or-le-sum_by left_in agendas a no_agenda here in
    let ok : IsOk r = spare (omega (arith, known, here, is.count)) (omega (arith, is.fits, total, left))
    (omega (arith, is.room, total, left)) in (
      ok,
      rw (plans, from_ok r ok made, same) (goes_on plan spins schedule entries entries' reserved reserved' agendas a
          m is here (omega arith) at' (from_ok r ok longer) most),
    )

-- as many moves for a call, whichever the agent
call_length : (c : Call) (a b spins : ℕ) → length (call_moves c a spins) ≡ length (call_moves c b spins)
call_length (C.Access view access) a b spins = refl
call_length (C.Notify view index count) a b spins = refl
call_length (C.Wait view index x timeout) a b spins =
    let p = length-replicate spins (Step a) in
    let q = length-replicate spins (Step b) in
    grind (arith, common_steps, length-replicate)

pub moves_length : (cs : List Call) (a b spins : ℕ) → length (moves_of cs a spins) ≡ length (moves_of cs b spins)
moves_length [] a b spins = refl
moves_length (c ∷ cs) a b spins =
    omega (
      arith,
      length-append (call_moves c a spins) (moves_of cs a spins),
      length-append (call_moves c b spins)
          (moves_of cs b spins),
      call_length c a b spins,
      moves_length cs a b spins,
    )

-- what is left at the start is all
left_counts : (agendas : List AgendaParts) (scripts : List ScriptParts) (spins : ℕ) → length agendas ≡ length scripts
    → ((i : ℕ) → i < length scripts
    → left_in (agenda_at agendas i) ≡ length (moves_of (calls_in (slice_get scripts i)) 0 spins))
    → left_of agendas ≡ count_of scripts spins
left_counts [] [] spins same each = refl
left_counts [] (s ∷ scripts) spins same each = absurd (omega arith)
left_counts (x ∷ agendas) [] spins same each = absurd (omega arith)
left_counts (x ∷ agendas) (s ∷ scripts) spins same each =
    let rest : left_of agendas ≡ count_of scripts spins =
    left_counts agendas scripts spins (omega arith) (λ i h. each (suc i) (omega arith)) in
    let first : left_in x ≡ length (moves_of s.calls 0 spins) = each 0 (omega arith) in
    let count = sum_by-cons (λ (r : ScriptParts). length (moves_of r.calls 0 spins)) s scripts in
    sum_by-cons left_in x agendas ∙ omega (arith, rest, first, count)

-- a race in which no move was made
pub begins : (plan : PlanParts) (spins entries reserved : ℕ) (agendas : List AgendaParts)
    → AreFresh plan.scripts spins agendas
    → count_of plan.scripts spins ≤ 2 ^ 20 → entries ≡ 0 → count_of plan.scripts spins ≤ reserved
    → IsUnderWay plan spins [] entries reserved agendas
begins plan spins entries reserved agendas is few none most =
    let total : left_of agendas ≡ count_of plan.scripts spins =
    left_counts agendas plan.scripts spins is.count
    (λ i h. rw (is.each i h) (omega (arith, moves_length (calls_of plan i) i 0 spins))) in
    record {
      count = is.count;
      each =
          λ a h. rw (is.each a (omega (arith, is.count))) (record { moves = refl; made = refl; within = omega arith });
      fits = omega (arith, total, few, none);
      room = omega (arith, total, most);
    }

-- the record of the fields and the value that it stands for
pub has_agent : (v w : RaceParts) (a : ℕ) → v ≡ w → a < length w.agendas → a < length v.agendas
has_agent v w a same h = rw same h

pub has_left : (v w : RaceParts) (a : ℕ) → v ≡ w → 0 < left_in (agenda_at w.agendas a)
    → 0 < left_in (agenda_at v.agendas a)
has_left v w a same h = rw same h

pub not_ok : {T E : Type 0} (r : Result T E) (e : E) → r ≡ Err e → IsOk r → ⊥
not_ok (Ok x) e is ok = cc
not_ok (Err y) e is ok = cc

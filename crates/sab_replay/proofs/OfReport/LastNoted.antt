-- What is noted of each agent is its last entry with an effect.
use Rattle.std.proofs.Common.{◌≡◌, inl, inr, ℕ, ◌+◌, ◌<◌, ◌≤◌, List, [], ◌∷◌, ◌++◌, length, Bool, true, false, Option, Some, None, refl, sym, ◌∙◌, subst, arith, append_assoc, append-nil, length-append}
use Rattle.std.specs.Prelude.{slice_index_or}
use Rattle.std.proofs.lemmas.Bool.{cases_lt}
use Rattle.std.proofs.lemmas.List.{length-set, get_or-set_other, get_or-replicate, ext_get_or}
use Rattle.sab_plan.specs.declared.entry.Entry.{Entry}
use Rattle.sab_plan.specs.declared.plan.TheConstants.Plan.{MAX_AGENTS}
use Rattle.sab_plan.specs.Entry.{is_stuck}
use Rattle.sab_replay.specs.Explain.Fact.{IsLast}
use Rattle.sab_replay.specs.Explain.Explainer.{AreLast}
use Rattle.sab_replay.proofs.OfExplain.LastOnes.{AreLast-push, IsLast-one, last_kept}
use Rattle.sab_report_text.specs.Words.FactFormat.{noted, sinces_after, no_sinces}
use Rattle.sab_replay.specs.Report.Facts.{NotesLast}

length-noted : (last : List (Option ℕ)) (k : ℕ) (e : Entry) → length last ≡ MAX_AGENTS
    → length (noted last k e) ≡ MAX_AGENTS
length-noted last k e n = go (is_stuck e.what) refl
  where
    go : (b : Bool) → is_stuck e.what ≡ b → length (noted last k e) ≡ MAX_AGENTS
    go true s = rw s n
    go false s = rw s (length-set last e.agent (Some k) ∙ n)

-- an entry of an agent beyond these is noted nowhere
noted-beyond : (last : List (Option ℕ)) (k : ℕ) (e : Entry) (a : ℕ) → MAX_AGENTS ≤ e.agent → a < MAX_AGENTS
    → slice_index_or (noted last k e) a None ≡ slice_index_or last a None
noted-beyond last k e a beyond l = go (is_stuck e.what) refl
  where
    go : (b : Bool) → is_stuck e.what ≡ b → slice_index_or (noted last k e) a None ≡ slice_index_or last a None
    go true s = rw s refl
    go false s = rw s (get_or-set_other last e.agent a (Some k) None (λ q. omega (arith, beyond, l, q)))

last_noted : (journal : List Entry) (e : Entry) (last : List (Option ℕ)) → length last ≡ MAX_AGENTS
    → AreLast journal last → AreLast (journal ++ e ∷ []) (noted last (length journal) e)
last_noted journal e last n all = elim (cases_lt e.agent MAX_AGENTS) [
  | inl room ↦
      AreLast-push journal e last (noted last (length journal) e) (let m = n in omega (arith, room, m)) refl all
  | inr beyond ↦ λ a l.
      rw (noted-beyond last (length journal) e a beyond l)
      (last_kept journal e a (slice_index_or last a None) (λ q s. absurd (omega (arith, beyond, l, q))) (all a l))
]

-- after some entries, and then others
last_after : (before journal : List Entry) (last : List (Option ℕ)) → length last ≡ MAX_AGENTS → AreLast before last
    → AreLast (before ++ journal) (sinces_after last (length before) journal)
last_after before [] last n all = rw (append-nil before) all
last_after before (e ∷ journal) last n all =
    let count : length (before ++ e ∷ []) ≡ length before + 1 = length-append before (e ∷ []) in
    let more = last_after (before ++ e ∷ []) journal (noted last (length before) e)
    (length-noted last (length before) e n) (last_noted before e last n all) in
    subst (λ (es : List Entry). AreLast es (sinces_after (noted last (length before) e) (length before + 1) journal))
    (append_assoc before (e ∷ []) journal)
    (subst (λ (k : ℕ). AreLast ((before ++ e ∷ []) ++ journal) (sinces_after (noted last (length before) e) k journal))
    count more)

none_first : AreLast [] no_sinces
none_first a l = none (slice_index_or no_sinces a None) (get_or-replicate MAX_AGENTS a None None l)
  where
    none : (o : Option ℕ) → o ≡ None → IsLast [] a o
    none o e = rw e (λ j x. absurd (let bad = x.1 in cc))

pub notes_last : NotesLast
notes_last journal a l = last_after [] journal no_sinces refl none_first a l

length-sinces : (last : List (Option ℕ)) (k : ℕ) (journal : List Entry) → length last ≡ MAX_AGENTS
    → length (sinces_after last k journal) ≡ MAX_AGENTS
length-sinces last k [] n = n
length-sinces last k (e ∷ journal) n = length-sinces (noted last k e) (k + 1) journal (length-noted last k e n)

-- an array of each agent's last entry is what is noted, since an agent has one last entry
pub sinces_are : (journal : List Entry) (last : List (Option ℕ)) → length last ≡ MAX_AGENTS → AreLast journal last
    → last ≡ sinces_after no_sinces 0 journal
sinces_are journal last n all =
    ext_get_or None last (sinces_after no_sinces 0 journal) (n ∙ sym (length-sinces no_sinces 0 journal refl))
    (λ a l. let below : a < MAX_AGENTS = omega (arith, l, n) in
    IsLast-one journal a (slice_index_or last a None) (slice_index_or (sinces_after no_sinces 0 journal) a None)
    (all a below) (notes_last journal a below))

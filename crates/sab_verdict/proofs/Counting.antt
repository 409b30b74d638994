-- Agents that were noted, and how many they are.
use Rattle.std.proofs.Common.{◌≡◌, ℕ, ◌<◌, ◌≤◌, Bool, false, List, length, get_or, take, refl, ap, ◌∙◌}
use Rattle.std.proofs.lemmas.List.{take_all}
use Rattle.std.proofs.lemmas.List.FromFn.{fill_by_all}
use Rattle.std.specs.Prelude.{count_by}
use Rattle.sab_judge.specs.declared.event.Event.{Event}
use Rattle.sab_judge.specs.declared.trace.TheConstants.Trace.{MAX_AGENTS}
use Rattle.sab_verdict.specs.Events.{is_accessing, agents_of}

-- those of the first k events, which are all
pub counted_agents : (seen : List Bool) (trace : List Event) (k : ℕ) → length trace ≤ k → length seen ≡ MAX_AGENTS
    → ((a : ℕ) → a < MAX_AGENTS → get_or seen a false ≡ is_accessing (take k trace) a) → count_by (λ b. b) seen ≡ agents_of trace
unfolding agents_of
counted_agents seen trace k past all each =
    rw (fill_by_all (is_accessing trace) seen MAX_AGENTS false all
    (λ a h. each a h ∙ ap (λ (events : List Event). is_accessing events a) (take_all k trace past))) refl

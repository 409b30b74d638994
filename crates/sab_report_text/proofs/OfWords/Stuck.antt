-- An agent that neither waits nor was woken.
use Rattle.std.proofs.Common.{◌≡◌, ℕ, List, Option, refl}
use Rattle.std.specs.Prelude.{codes}
use Rattle.sab_plan.specs.declared.call.Call.{Call}
use Rattle.sab_plan.specs.declared.entry.Why.{Why}
use Rattle.sab_plan.specs.declared.fact.Found.{Found}
use Rattle.sab_plan.specs.declared.fact.Found.TheVariants as F
use Rattle.sab_report_text.specs.Words.FactText.{stuck_text}

pub not_waiting : (names : List (List ℕ)) (call : Call) (since : Option ℕ) (why : Why) (found : Found)
    → (found ≡ F.Waited → ⊥) → ((k : ℕ) → found ≡ F.WokenBy k → ⊥)
    → stuck_text names call since why found ≡ codes "doesn't wait"
not_waiting names call since why F.Waited p q = absurd (p refl)
not_waiting names call since why (F.WokenBy k) p q = absurd (q k refl)
not_waiting names call since why F.Nothing p q = refl
not_waiting names call since why (F.Read x) p q = refl
not_waiting names call since why (F.Wrote x y) p q = refl
not_waiting names call since why (F.Compared x y e) p q = refl
not_waiting names call since why (F.Differs x) p q = refl
not_waiting names call since why (F.Joined ahead) p q = refl
not_waiting names call since why (F.Notified woken n) p q = refl
not_waiting names call since why (F.Failed check) p q = refl

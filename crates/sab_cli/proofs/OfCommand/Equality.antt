-- Equality of forms and jobs: those that the derived `==` finds equal are the same.
use Rattle.std.proofs.Common.{◌≡◌, ℕ, Option, Some, None, true, nat_eq, refl, ap, rules}
use Rattle.std.specs.Cmp.{booleans_Decides}
use Rattle.std.specs.Option.{option_eq}
use borrow.Author.Tests.{eqb-true}
use Rattle.std.proofs.lemmas.Bool.{and_parts, false≢true}
use denote.Enum.Bare.{same_true}
use Rattle.sab_automata.specs.declared.program.Timeouts.{Timeouts}
use Rattle.sab_automata.specs.contracts.program.Timeouts.{the_type as timeouts_type}
use Rattle.sab_automata.specs.contracts.program.TimeoutsPartialEq.TheImpl as timeouts
use Rattle.sab_race.proofs.Equality.{same_share}
use Rattle.sab_report_text.proofs.OfText.Equality.{same_report_form, same_verdict_format}
use Rattle.sab_cli.specs.declared.command.job.RunForm.{RunForm}
use Rattle.sab_cli.specs.declared.command.job.RunForm.TheVariants.{Report, Script}
use Rattle.sab_cli.specs.contracts.command.job.RunFormPartialEq.TheImpl as form
use Rattle.sab_cli.specs.declared.command.job.Job.{Job}
use Rattle.sab_cli.specs.declared.command.job.Job.TheVariants.{Replay, Check, Judge}
use Rattle.sab_cli.specs.contracts.command.job.JobPartialEq.TheImpl as job
use Rattle.sab_cli.specs.declared.command.job.RaceJob.{RaceJob}
use Rattle.sab_cli.specs.contracts.command.job.RaceJobPartialEq.TheImpl as race
use Rattle.sab_cli.specs.declared.command.job.SearchForm.{SearchForm}
use Rattle.sab_cli.specs.declared.command.job.SearchForm.TheVariants as S
use Rattle.sab_cli.specs.contracts.command.job.SearchFormPartialEq.TheImpl as search_form
use Rattle.sab_cli.specs.declared.command.job.SearchJob.{SearchJob}
use Rattle.sab_cli.specs.contracts.command.job.SearchJobPartialEq.TheImpl as search_job
use Rattle.sab_cli.specs.declared.command.request.Task.{Task}
use Rattle.sab_cli.specs.declared.command.request.Task.TheVariants.{OfScript, OfRace, OfTrace, OfSearch}
use Rattle.sab_cli.specs.contracts.command.request.TaskPartialEq.TheImpl as task

same_seed : (x y : Option ℕ) → option_eq nat_eq x y ≡ true → x ≡ y
same_seed None None e = refl
same_seed None (Some m) e = absurd (false≢true e)
same_seed (Some n) None e = absurd (false≢true e)
same_seed (Some n) (Some m) e = ap Some (eqb-true n m e)

same_form : (x y : RunForm) → (form.ghosts).eq x y ≡ true → x ≡ y
same_form (Report t) (Report u) e = ap Report (same_report_form t u e)
same_form Script Script e = refl
same_form _ _ e = absurd (false≢true e)

same_job : (x y : Job) → (job.ghosts).eq x y ≡ true → x ≡ y
same_job (Replay t f) (Replay u g) e =
    let parts = and_parts _ _ e in
    let form = same_form t u parts.0 in
    let finish = (booleans_Decides f g).0 parts.1 in
    λ i. Replay (form i) (finish i)
same_job Check Check e = refl
same_job (Judge f m) (Judge g n) e =
    let parts = and_parts _ _ e in
    let format = same_verdict_format f g parts.0 in
    let finish = (booleans_Decides m n).0 parts.1 in
    λ i. Judge (format i) (finish i)
same_job _ _ e = absurd (false≢true e)

same_race : (x y : RaceJob) → (race.ghosts).eq x y ≡ true → x ≡ y
same_race x y e =
    let shares = and_parts _ _ e in
    let counts = and_parts _ _ shares.1 in
    let mixes = and_parts _ _ counts.1 in
    let forms = and_parts _ _ mixes.1 in
    let share_is = same_share x.share y.share shares.0 in
    let spins_are = eqb-true x.spins y.spins counts.0 in
    let mix_is = same_seed x.mix y.mix mixes.0 in
    let form_is = same_form x.form y.form forms.0 in
    let finish_is = (booleans_Decides x.finish y.finish).0 forms.1 in
    λ i. record { share = share_is i; spins = spins_are i; mix = mix_is i; form = form_is i; finish = finish_is i }

same_timeouts : (x y : Timeouts) → (timeouts.ghosts).eq x y ≡ true → x ≡ y
same_timeouts = same_true timeouts_type (search rules)

same_search_form : (x y : SearchForm) → (search_form.ghosts).eq x y ≡ true → x ≡ y
same_search_form (S.Findings f m) (S.Findings g n) e =
    let parts = and_parts _ _ e in
    let format = same_verdict_format f g parts.0 in
    let states = (booleans_Decides m n).0 parts.1 in
    λ i. S.Findings (format i) (states i)
same_search_form (S.Script m) (S.Script n) e = ap S.Script (same_seed m n e)
same_search_form _ _ e = absurd (false≢true e)

same_search : (x y : SearchJob) → (search_job.ghosts).eq x y ≡ true → x ≡ y
same_search x y e =
    let choices = and_parts _ _ e in
    let limits = and_parts _ _ choices.1 in
    let timeouts_are = same_timeouts x.timeouts y.timeouts choices.0 in
    let limit_is = eqb-true x.limit y.limit limits.0 in
    let form_is = same_search_form x.form y.form limits.1 in
    λ i. record { timeouts = timeouts_are i; limit = limit_is i; form = form_is i }

same_task : (x y : Task) → (task.ghosts).eq x y ≡ true → x ≡ y
same_task (OfScript j) (OfScript k) e = ap OfScript (same_job j k e)
same_task (OfRace x) (OfRace y) e = ap OfRace (same_race x y e)
same_task (OfTrace f) (OfTrace g) e = ap OfTrace (same_verdict_format f g e)
same_task (OfSearch x) (OfSearch y) e = ap OfSearch (same_search x y e)
same_task _ _ e = absurd (false≢true e)

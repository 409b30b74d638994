-- What is made of a task is put as it is.
use Rattle.std.proofs.Common.{sym, subst}
use Rattle.sab_cli.specs.declared.command.request.Task.{Task}
use Rattle.sabsim_wasm.specs.Exports.{PutsTask}
use Rattle.sabsim_wasm.specs.Program.{EndsOfRace, EndsOfScript, EndsOfTrace}
use Rattle.sabsim_wasm.proofs.Replies.{puts_made}
use Rattle.sabsim_wasm.proofs.written.put_task.Goals as goal

pub returns-in-OfScript : goal.returns-in-OfScript
returns-in-OfScript c =
    let P : Task → Type 0 = λ task. PutsTask task c.args.source c.args.explain c.args.input.now c.args.room.now
    c.put_made.new.room c.put_made.result in
    subst P (sym c.in-OfScript.is)
    (puts_made (λ w. EndsOfScript c.in-OfScript.job c.args.source c.args.explain c.args.input.now w)
    c.perform_job.result c.args.room.now c.put_made.new.room c.put_made.result c.perform_job.ensures c.put_made.ensures)

pub returns-in-OfTrace : goal.returns-in-OfTrace
returns-in-OfTrace c =
    let P : Task → Type 0 = λ task. PutsTask task c.args.source c.args.explain c.args.input.now c.args.room.now
    c.put_made-in-OfTrace.new.room c.put_made-in-OfTrace.result in
    subst P (sym c.in-OfTrace.is)
    (puts_made (λ w. EndsOfTrace c.in-OfTrace.format c.args.source c.args.input.now w)
    c.judge.result c.args.room.now c.put_made-in-OfTrace.new.room c.put_made-in-OfTrace.result c.judge.ensures
    c.put_made-in-OfTrace.ensures)

pub returns-in-OfRace : goal.returns-in-OfRace
returns-in-OfRace c =
    let P : Task → Type 0 = λ task. PutsTask task c.args.source c.args.explain c.args.input.now c.args.room.now
    c.put_made-in-OfRace.new.room c.put_made-in-OfRace.result in
    subst P (sym c.in-OfRace.is)
    (puts_made (λ w. EndsOfRace w) c.refuse_race.result c.args.room.now c.put_made-in-OfRace.new.room
    c.put_made-in-OfRace.result c.refuse_race.ensures c.put_made-in-OfRace.ensures)

pub returns-in-OfSearch : goal.returns-in-OfSearch
returns-in-OfSearch c =
    let P : Task → Type 0 = λ task. PutsTask task c.args.source c.args.explain c.args.input.now c.args.room.now
    c.put_search.new.room c.put_search.result in
    subst P (sym c.in-OfSearch.is) c.put_search.ensures

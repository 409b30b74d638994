use Rattle.std.proofs.Common.{◌≡◌, false, true, sym, ◌∙◌}
use Rattle.sab_trace.proofs.Says.{has_numbers, spelled, idle_event}
use Rattle.sab_trace.proofs.spelling.event_of.Goals as goal

pub returns-in_default-clause-err : goal.returns-in_default-clause-err
returns-in_default-clause-err c = λ tree says. (
  has_numbers c.args.position tree c.args.said.now says (c.fits.ensures.0 c.if-not-fits.false),
  c.in_default.ensures.none,
)

pub returns-then-not-act-clause-ok : goal.returns-then-not-act-clause-ok
returns-then-not-act-clause-ok c = λ tree says.
    spelled c.args.position tree c.args.said.now c.in-Some.agent (record { block = 0; byte = 0 }) 0 _ says
    (c.fits.ensures.0 c.if-not-fits.false) c.in-Some.ensures.some
    (λ acting. let bad : false ≡ true = c.if-not-act.ensures ∙ acting in cc)
    (idle_event c.args.said.now.flags c.in-Some.agent (record { block = 0; byte = 0 }) 0 (sym c.if-not-act.ensures))

pub returns-in_default-bytes-clause-err : goal.returns-in_default-bytes-clause-err
returns-in_default-bytes-clause-err c = λ tree says. (
  has_numbers c.args.position tree c.args.said.now says (c.fits.ensures.0 c.if-not-fits.false),
  c.in-Some.agent,
  c.in-Some.ensures.some,
  sym c.if-not-act.ensures,
  c.in_default-bytes.ensures.none,
)

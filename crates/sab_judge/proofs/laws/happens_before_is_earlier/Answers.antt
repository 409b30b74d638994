-- Each step goes forward.
use Rattle.sab_judge.proofs.LastSteps.{before_earlier}
use Rattle.sab_judge.proofs.laws.happens_before_is_earlier.Goals as goal

pub returns : goal.returns
returns c trace i j h = before_earlier h

use Rattle.sabsim_wasm.proofs.Replies.{puts_such}
use Rattle.sabsim_wasm.proofs.written.put_unreadable.Goals as goal

pub returns-in-Ok : goal.returns-in-Ok
returns-in-Ok c = puts_such _ _ _ _ _ c.in-Ok.ensures c.put_written.ensures

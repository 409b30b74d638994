use Rattle.sab_reader.proofs.OfScript.ViewNames.{no_views}
use Rattle.sab_reader.proofs.script.views.Views.new.Goals as goal

pub invariant_of-result : goal.invariant_of-result
invariant_of-result c = no_views c.new.result.entries c.new.ensures.empty

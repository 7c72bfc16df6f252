use Rattle.std.proofs.Common.{rules}
use Rattle.sq_model.proofs.EqualLaws.{equal_call, equal_reply}
use Rattle.sq_history.proofs.events.has_home_event.Goals as goal

pub returns : goal.returns
returns c = let told = c.is_told.ensures equal_call equal_reply in search rules

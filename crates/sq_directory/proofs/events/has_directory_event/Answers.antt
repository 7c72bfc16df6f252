use Rattle.std.proofs.Common.{rules}
use Rattle.sq_model.proofs.EqualLaws.{equal_directory_call, equal_directory_reply}
use Rattle.sq_directory.proofs.events.has_directory_event.Goals as goal

pub returns : goal.returns
returns c = let told = c.is_told.ensures equal_directory_call equal_directory_reply in search rules

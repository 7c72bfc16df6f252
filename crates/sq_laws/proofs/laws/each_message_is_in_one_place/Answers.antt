use Rattle.sq_laws.proofs.SystemLaws.{one_place}
use Rattle.sq_laws.proofs.laws.each_message_is_in_one_place.Goals as goal

pub returns : goal.returns
returns c = one_place

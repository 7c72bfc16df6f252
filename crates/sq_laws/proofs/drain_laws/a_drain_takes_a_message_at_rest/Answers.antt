use Rattle.sq_laws.proofs.DrainLaws.{leaves_at_rest}
use Rattle.sq_laws.proofs.drain_laws.a_drain_takes_a_message_at_rest.Goals as goal

pub returns : goal.returns
returns c = leaves_at_rest

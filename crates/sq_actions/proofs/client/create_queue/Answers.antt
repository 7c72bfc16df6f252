use Rattle.std.proofs.Common.{rules}
use Rattle.sq_actions.proofs.ClientLaws.{answered_copied, answered_uncopied}
use Rattle.sq_actions.proofs.client.create_queue.Goals as goal

pub returns-in_err-attributes : goal.returns-in_err-attributes
returns-in_err-attributes g c = answered_uncopied _ c.args.call.now.attributes _ _ _ c.in_err-attributes.field-0.0 (search rules) c.in_err-attributes.ensures.err.0 c.in_err-attributes.ensures.err.1

pub returns : goal.returns
returns g c = answered_copied _ c.args.call.now.attributes _ _ _ _ (rw c.in_ok-attributes.ensures.copy at c.change_queue.ensures)

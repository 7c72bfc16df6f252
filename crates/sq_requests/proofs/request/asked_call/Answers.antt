use Rattle.std.proofs.Common.{rules, sym}
use Rattle.sq_json.specs.View.{view}
use Rattle.sq_requests.proofs.CallLaws.{reads_batch, reads_plain}
use Rattle.sq_requests.proofs.request.asked_call.Goals as goal

pub returns-in-Some : goal.returns-in-Some
returns-in-Some c = reads_batch c.args.action.now c.in-Some.kind (view c.args.value.now) c.batch_of.result (search rules) (search rules) (search rules) (sym c.in-Some.ensures) c.batch_of.ensures

pub returns-in-None : goal.returns-in-None
returns-in-None c = reads_plain c.args.action.now (view c.args.value.now) c.plain_call_of.result (search rules) (search rules) (search rules) (sym c.in-None.ensures) c.plain_call_of.ensures

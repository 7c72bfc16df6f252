use Rattle.std.proofs.Common.{◌∙◌, ap}
use Rattle.sq_model.specs.Places.{run_sends}
use Rattle.sq_audit.specs.RunLineages.{has_some}
use Rattle.sq_audit.proofs.RunLaws.{any_sent}
use Rattle.sq_audit.proofs.run.Run.has_sent.Goals as goal

pub returns : goal.returns
returns c = c.has_send.ensures ∙ any_sent c.events-events.result.now ∙ ap (λ run. has_some (run_sends run)) c.events-events.ensures

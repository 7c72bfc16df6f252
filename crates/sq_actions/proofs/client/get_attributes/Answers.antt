use Rattle.std.proofs.Common.{rules}
use Rattle.sq_model.specs.declared.directory.DirectoryCall.TheVariants as asks
use Rattle.sq_model.specs.declared.directory.DirectoryReply.TheVariants as told
use Rattle.sq_actions.specs.Fits.{Shows}
use Rattle.sq_actions.proofs.ClientLaws.{answered_refused, answered_by_directory}
use Rattle.sq_actions.proofs.client.get_attributes.Goals as goal

pub returns-in_err-attributes : goal.returns-in_err-attributes
returns-in_err-attributes g c = answered_refused _ _ _ _ _ _ _ (search rules) c.in_err-attributes.ensures.refusal c.in_err-attributes.ensures.did

pub returns : goal.returns
returns g c =
    answered_by_directory _ g.S.LockSteps.counts (asks.Read c.args.call.now.queue) (λ n. Shows n.homes c.args.call.now) _ _ _ _ (told.Read c.in-Read.attributes) _
    (rw c.in-Read.is at c.in_ok-attributes.ensures.did) c.directory_step.ensures.same_counts (rw c.in-Read.is at c.in_ok-attributes.ensures.reply) c.show.ensures (λ ds fits. fits)

use Rattle.sq_policy.proofs.PolicyLaws.{redrive_read}
use Rattle.sq_policy.proofs.policy.redrive_value.Goals as goal

pub returns-in-Ok-json-4-clause-reads : goal.returns-in-Ok-json-4-clause-reads
returns-in-Ok-json-4-clause-reads c = redrive_read c.args.policy.now (rw c.in_ok-target.ensures.text at c.in_ok-target.ensures.reads_back) c.get-receives.ensures.least c.get-receives.ensures.greatest

use Rattle.sq_policy.proofs.PolicyLaws.{sources_read}
use Rattle.sq_policy.proofs.policy.sources_value.Goals as goal

pub returns-in-Ok-json-4-clause-reads : goal.returns-in-Ok-json-4-clause-reads
returns-in-Ok-json-4-clause-reads c = sources_read c.args.names.now (rw c.as_slice.ensures.value at c.in_ok-arns.ensures.names) c.as_slice.ensures.least c.as_slice.ensures.greatest

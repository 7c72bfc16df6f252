use Rattle.sq_policy.proofs.PolicyLaws.{all_read, deny_read}
use Rattle.sq_policy.proofs.policy.allow_value.Goals as goal

pub returns-in-Ok-json-2-clause-reads : goal.returns-in-Ok-json-2-clause-reads
returns-in-Ok-json-2-clause-reads c = rw c.in-AllowAll.is all_read

pub returns-in-Ok-json-4-clause-reads : goal.returns-in-Ok-json-4-clause-reads
returns-in-Ok-json-4-clause-reads c = rw c.in-DenyAll.is deny_read

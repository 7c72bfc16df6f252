use Rattle.sq_model.proofs.EqualLaws.{equal_allow, equal_option}
use Rattle.sq_directory.proofs.PolicyLaws.{allow_agrees}
use Rattle.sq_directory.proofs.attributes.agrees_allow.Goals as goal

pub returns-in-Some : goal.returns-in-Some
returns-in-Some c = allow_agrees _ _ c.args.policy.now _ c.in-Some.is (rw c.eq.ensures (equal_option equal_allow _ _))

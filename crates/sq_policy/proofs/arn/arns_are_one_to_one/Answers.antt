use Rattle.sq_policy.proofs.ArnLaws.{arn_of_name, name_of_arn}
use Rattle.sq_policy.proofs.arn.arns_are_one_to_one.Goals as goal

pub returns-clause-of_names : goal.returns-clause-of_names
returns-clause-of_names c = arn_of_name

pub returns-clause-of_texts : goal.returns-clause-of_texts
returns-clause-of_texts c = name_of_arn

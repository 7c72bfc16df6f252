use Rattle.std.proofs.Common.{◌≡◌, rules, string_bytes}
use Rattle.sq_policy.specs.PolicyTexts.{arn_text}
use Rattle.sq_policy.proofs.ArnLaws.{arn_of_name}
use Rattle.sq_policy.proofs.arn.arn_of.Goals as goal

pub returns-clause-reads_back : goal.returns-clause-reads_back
unfolding arn_text
returns-clause-reads_back c =
    let text : string_bytes c.push_str-2.new.self ≡ arn_text c.args.name.now = search rules in
    rw text (arn_of_name _ c.as_bytes.ensures.name)

use Rattle.std.proofs.Common.{string_bytes}
use Rattle.std.proofs.lemmas.Result.{IfOk-weaker}
use Rattle.sq_policy.specs.PolicyTexts.{allow_in, allow_of, allow_data}
use Rattle.sq_policy.proofs.PolicyLaws.{read_back, written, allow_shallow, allow_no_float}
use Rattle.sq_policy.proofs.policy.allow_text.Goals as goal

pub returns-clause-text : goal.returns-clause-text
returns-clause-text c =
    IfOk-weaker c.to_string.result _ _ (λ s h. written (string_bytes s) _ (allow_data c.args.policy.now) c.in_ok-allow_value.ensures.data (allow_no_float c.args.policy.now) h) c.to_string.ensures.text

pub returns-clause-reads_back : goal.returns-clause-reads_back
unfolding allow_of
returns-clause-reads_back c =
    IfOk-weaker c.to_string.result _ _ (λ s h. read_back allow_in (string_bytes s) _ (allow_data c.args.policy.now) c.args.policy.now c.in_ok-allow_value.ensures.data (allow_shallow c.args.policy.now) h c.in_ok-allow_value.ensures.reads) c.to_string.ensures.reads_back

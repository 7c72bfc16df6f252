use Rattle.std.proofs.Common.{lit≤, string_bytes}
use Rattle.std.proofs.lemmas.Result.{IfOk-weaker}
use Rattle.sq_policy.specs.PolicyTexts.{redrive_in, redrive_of, redrive_data}
use Rattle.sq_policy.proofs.PolicyLaws.{read_back}
use Rattle.sq_policy.proofs.policy.redrive_text.Goals as goal

pub returns-clause-reads_back : goal.returns-clause-reads_back
unfolding redrive_of
returns-clause-reads_back c =
    IfOk-weaker c.to_string.result _ _ (λ s h. read_back redrive_in (string_bytes s) _ (redrive_data c.args.policy.now) c.args.policy.now c.in_ok-redrive_value.ensures.data (lit≤ tt) h c.in_ok-redrive_value.ensures.reads) c.to_string.ensures.reads_back

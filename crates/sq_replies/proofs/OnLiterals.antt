-- What computes replies on literals.
use Rattle.std.specs.Prelude.{⊤}
use Rattle.std.specs.Fmt.{digits}
use Rattle.serde_json.proofs.OnLiterals.{serde_json_on_literals}
use Rattle.uuid.proofs.OnLiterals.{uuid_on_literals}
use Rattle.sq_base.specs.Fields.{field}
use Rattle.sq_calls.specs.TaskHandles.{task_handle_text}
use Rattle.sq_policy.specs.PolicyTexts.{arn_text}
use Rattle.sq_replies.specs.Replies.{id_text}

unfoldable pub replies_on_literals : ⊤
unfolding serde_json_on_literals uuid_on_literals digits arn_text field task_handle_text id_text
replies_on_literals = tt

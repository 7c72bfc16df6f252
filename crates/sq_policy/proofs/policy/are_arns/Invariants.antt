use Rattle.std.proofs.Common.{◌≡◌, length}
use Rattle.std.specs.Prelude.{is_some, option_and_then}
use Rattle.serde_json.specs.Find.{as_array}
use Rattle.sq_json.specs.View.{view, items_view}
use Rattle.sq_policy.specs.PolicyTexts.{arn_names}
use Rattle.sq_policy.proofs.policy.are_arns.Given as goal

abbrev pub invariant-arns : goal.invariant-arns
invariant-arns l = is_some (arn_names (items_view l.arns)) ≡ is_some (option_and_then arn_names (as_array (view l.value)))

abbrev pub decreases-arns : goal.decreases-arns
decreases-arns l = length l.arns

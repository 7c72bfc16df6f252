use Rattle.std.proofs.Common.{◌≡◌, map, take, true}
use Rattle.std.specs.List.{list_all}
use Rattle.serde_json.specs.View.{view}
use Rattle.sq_base.specs.Names.{is_name}
use Rattle.sq_policy.specs.PolicyTexts.{arn_data}
use Rattle.sq_policy.proofs.policy.arns_of.Given as goal

abbrev pub invariant-loop-name : goal.invariant-loop-name
invariant-loop-name l = record {
  arns : map view l.arns.items ≡ map arn_data (take l.name-index l.names);
  names : list_all is_name (take l.name-index l.names) ≡ true;
}

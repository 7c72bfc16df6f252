use Rattle.std.proofs.Common.{◌≡◌, ◌<◌, length, arith, rules}
use Rattle.serde_json.specs.View.{view}
use Rattle.serde_json.specs.declared.value.Value.{the_lemmas}
use Rattle.serde_json.specs.declared.value.Value.TheVariants.{String}
use Rattle.sq_policy.specs.PolicyTexts.{arn_data}
use Rattle.sq_policy.proofs.ArnLaws.{name_of_arn}
use Rattle.sq_policy.proofs.SourceLaws.{all_more, arns_more}
use Rattle.sq_policy.proofs.policy.arns_of.Goals as goal

pub loop-name-preserved : goal.loop-name-preserved
loop-name-preserved c =
    let names = c.args.names.now in
    let i = c.loop-name.name-index in
    let lt : i < length names = omega arith in
    let here : view (String c.in_ok-arn_of.field-0) ≡ arn_data c.name-item.result = search (rules, the_lemmas) in
    record {
      arns = arns_more c.loop-name.arns.items c.push.new.self.items (String c.in_ok-arn_of.field-0) names i c.name-item.result lt c.name-item.is c.in_ok-push.ensures.items here c.loop-name.invariant.arns;
      names = all_more names i c.name-item.result lt c.name-item.is (name_of_arn _ _ c.in_ok-arn_of.ensures.reads_back).0 c.loop-name.invariant.names;
    }

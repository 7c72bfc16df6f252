use Rattle.std.proofs.Common.{◌≡◌, ◌∙◌, List, Bool, Option, Some, None, option_map, true, false, refl, rules, Err}
use Rattle.std.specs.Prelude.{is_some}
use Rattle.json.specs.Token.{Token}
use Rattle.serde_json.specs.Data.{Data}
use Rattle.serde_json.specs.Find.{at}
use Rattle.sq_json.specs.View.{view}
use Rattle.sq_policy.specs.PolicyTexts.{sources_in}
use Rattle.sq_policy.proofs.SourceLaws.{too_many, few_refused}
use Rattle.sq_policy.proofs.policy.sources_in.Goals as goal

-- what is found is there
found : (r : Option (List Token)) (d : Option Data) (b : Bool) → option_map view r ≡ d → b ≡ is_some r → is_some d ≡ b
found None d b is so = rw (so, ← is) refl
found (Some v) d b is so = rw (so, ← is) refl

pub returns-then-is_some : goal.returns-then-is_some
unfolding sources_in
returns-then-is_some c =
    let many : is_some (at 10 (view c.args.value.now)) ≡ true = found c.at.result _ _ c.at.ensures c.is_some.ensures ∙ c.if-is_some.true in
    rw (too_many (view c.args.value.now) many) refl

pub returns-in_err-names : goal.returns-in_err-names
unfolding sources_in
returns-in_err-names c =
    let e = c.in_err-names.field-0.0 in
    let refused : c.from_residual.result ≡ Err e = search rules in
    let few : is_some (at 10 (view c.args.value.now)) ≡ false = found c.at.result _ _ c.at.ensures c.is_some.ensures ∙ c.if-is_some.false in
    rw refused (few_refused (view c.args.value.now) e few c.in_err-names.ensures.err c.in_err-names.ensures.names)

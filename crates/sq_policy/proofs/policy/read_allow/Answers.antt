use Rattle.std.proofs.Common.{◌≡◌, rules, Err, List, subst}
use Rattle.json.specs.Token.{Token}
use Rattle.sq_json.specs.View.{view}
use Rattle.sq_policy.specs.PolicyTexts.{allow_in, allow_of}
use Rattle.sq_policy.specs.Reading.{Reads}
use Rattle.sq_policy.proofs.PolicyLaws.{text_refused}
use Rattle.sq_policy.proofs.policy.read_allow.Goals as goal

pub returns-in_err-allow_in-in-Some : goal.returns-in_err-allow_in-in-Some
unfolding allow_of
returns-in_err-allow_in-in-Some c =
    let e = c.in_err-allow_in-in-Some.field-0.0 in
    let refused : c.from_residual-in_err-allow_in-in-Some.result ≡ Err e = search rules in
    let read = subst (λ (ts : List Token). Reads (Err e) (allow_in (view ts))) c.root.ensures c.in_err-allow_in-in-Some.ensures in
    rw refused (text_refused allow_in c.args.text.now (view c.in-Some.line) e (rw c.in-Some.is at c.in_ok-line.ensures) read)

use Rattle.std.proofs.Common.{◌≡◌, rules, Err}
use Rattle.sq_json.specs.View.{view}
use Rattle.sq_policy.specs.PolicyTexts.{redrive_in, redrive_of}
use Rattle.sq_policy.proofs.PolicyLaws.{reads_refused, text_refused}
use Rattle.sq_policy.proofs.policy.read_redrive.Goals as goal

pub returns-in_err-redrive_in-in-Some : goal.returns-in_err-redrive_in-in-Some
unfolding redrive_of
returns-in_err-redrive_in-in-Some c =
    let e = c.in_err-redrive_in-in-Some.field-0.0 in
    let refused : c.from_residual-in_err-redrive_in-in-Some.result ≡ Err e = search rules in
    let read : redrive_in (view c.in-Some.line) ≡ Err e = search rules in
    rw refused (text_refused redrive_in c.args.text.now (view c.in-Some.line) e (rw c.in-Some.is at c.in_ok-line.ensures) (reads_refused e _ read))

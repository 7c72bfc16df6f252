use Rattle.std.proofs.Common.{◌≡◌, rules, refl, Err}
use Rattle.sq_requests.specs.Members.{arn_if_at}
use Rattle.sq_requests.proofs.members.arn_if_at.Goals as goal

pub returns-in_err-arn : goal.returns-in_err-arn
unfolding arn_if_at
returns-in_err-arn c =
    let refused : c.from_residual.result ≡ Err c.in_err-arn.field-0.0 = search rules in
    rw (refused, ← c.in_err-arn.ensures) refl
